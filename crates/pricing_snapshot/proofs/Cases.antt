-- How reading a snapshot ends, case by case.
use Prim.Native.Nat.{ℕ, zero, suc, ◌≤◌, ◌<◌}
use native.Mathlib.Omega.{arith}
use mathlib.Core.Path.{◌≡◌, refl, ap, ◌∙◌}
use mathlib.Core.Bool.{Bool, true, false, cond}
use mathlib.Core.List.{List, [], ◌∷◌}
use borrow.Author.Tests.{lt-ltb, le-ltb, ltb-true, ltb-false, eqb-true}
use lib.Dec.{eqb, ltb}
use lib.IntN.{nat_abs}
use lib.ListN.{length}
use Rattle.std.specs.Prelude.{Result, Ok, Err}
use Rattle.text_refusal.specs.Bytes.{bytes}
use Rattle.text_refusal.specs.Refusal.{refusal_of}
use Rattle.text_refusal.specs.declared.refusal.Fault.{Fault}
use Rattle.text_refusal.specs.Refusal.{fault}
use Rattle.text_line.specs.Field.{LineAnswer, got, refused, field_at}
use Rattle.text_schema.specs.Schema.{read_fields}
use Rattle.text_id.specs.Id.{id_field}
use Rattle.text_id_table.specs.Ids.{stands_in}
use Rattle.pricing_resource.specs.Suspect.{suspect_line}
use Rattle.pricing_resource.specs.declared.Resource.{Resource}
use Rattle.pricing_sums.specs.declared.header.Header.{Header}
use Rattle.pricing_resource_text.specs.Resource.{after_answer, of_lines, lines_as, resource_at}
use Rattle.pricing_snapshot.specs.Snapshot.{header_fields, header_of, new_id_at, Entry, with_entry, resources_at, resources_of, Contents, after_header, due_lines, SnapshotAnswer, read, refused_by, after_last, after_lines, snapshot_in}
use Rattle.pricing_snapshot.specs.Promises.{FaultyResource, faulty_id, repeated_id, faulty_lines, later_resource, FaultyLine, in_header, in_resources, FirstFaultyLineIsRefused, SnapshotIsRefusedFirst}

-- 2, the first faulty line, 9, 15, or the snapshot
pub data SnapshotCase (text : List ℕ) : SnapshotAnswer → Type 0 where
  too_long : 1048576 < length text → SnapshotCase text (refused_by (record { number = 2; line = 0 }))
  line_refused : {found : Fault} → length text ≤ 1048576 → due_lines text ≡ refused found → SnapshotCase text (refused_by (refusal_of text found))
  bytes_after :
      {found : Contents} {next : ℕ} → length text ≤ 1048576 → due_lines text ≡ got found next → next < length text →
      SnapshotCase text (refused_by (refusal_of text (fault 9 next)))
  suspect_number :
      {found : Contents} {next : ℕ} → length text ≤ 1048576 → due_lines text ≡ got found next → length text ≤ next →
      eqb (suspect_line (resources_of found.entries)) 0 ≡ false →
      SnapshotCase text (refused_by (record { number = 15; line = suspect_line (resources_of found.entries) }))
  whole :
      {found : Contents} {next : ℕ} → length text ≤ 1048576 → due_lines text ≡ got found next → length text ≤ next →
      suspect_line (resources_of found.entries) ≡ 0 →
      SnapshotCase text (read found.header found.entries)

pub snapshot_case : (text : List ℕ) → SnapshotCase text (snapshot_in text)
unfolding snapshot_in
snapshot_case text = go (ltb 1048576 (length text)) refl
  where
    marks :
        {found : Contents} {next : ℕ} → length text ≤ 1048576 → due_lines text ≡ got found next → length text ≤ next → (fine : Bool) →
        eqb (suspect_line (resources_of found.entries)) 0 ≡ fine →
        SnapshotCase text (cond fine (read found.header found.entries) (refused_by (record { number = 15; line = suspect_line (resources_of found.entries) })))
    marks {found} short due over true e = whole short due over (eqb-true (suspect_line (resources_of found.entries)) 0 e)
    marks short due over false e = suspect_number short due over e

    last :
        {found : Contents} {next : ℕ} → length text ≤ 1048576 → due_lines text ≡ got found next → (more : Bool) → ltb next (length text) ≡ more →
        SnapshotCase text (after_last text found (cond more (Err (fault 9 next)) (Ok next)))
    last {found} {next} short due true e = bytes_after short due (ltb-true next (length text) e)
    last {found} {next} short due false e = marks short due (ltb-false next (length text) e) (eqb (suspect_line (resources_of found.entries)) 0) refl

    lines : length text ≤ 1048576 → (a : LineAnswer Contents) → due_lines text ≡ a → SnapshotCase text (after_lines text a)
    lines short (refused found) due = line_refused short due
    lines short (got found next) due = last short due (ltb next (length text)) refl

    go : (long : Bool) → ltb 1048576 (length text) ≡ long → SnapshotCase text (cond long (refused_by (record { number = 2; line = 0 })) (after_lines text (due_lines text)))
    go true e = too_long (ltb-true 1048576 (length text) e)
    go false e = lines (ltb-false 1048576 (length text) e) (due_lines text) refl

-- ---- the same with what is known

module _ (text : List ℕ) where
  pub case_long : 1048576 < length text → snapshot_in text ≡ refused_by (record { number = 2; line = 0 })
  unfolding snapshot_in
  case_long long = rw (lt-ltb 1048576 (length text) long)

  module _ (short : length text ≤ 1048576) where
    pub case_refused : {found : Fault} → due_lines text ≡ refused found → snapshot_in text ≡ refused_by (refusal_of text found)
    unfolding snapshot_in
    case_refused due = rw (le-ltb 1048576 (length text) short, due)

    module _ {found : Contents} {next : ℕ} (due : due_lines text ≡ got found next) where
      pub case_after : next < length text → snapshot_in text ≡ refused_by (refusal_of text (fault 9 next))
      unfolding snapshot_in
      case_after more = rw (le-ltb 1048576 (length text) short, due, lt-ltb next (length text) more)

      module _ (over : length text ≤ next) where
        pub case_suspect :
            eqb (suspect_line (resources_of found.entries)) 0 ≡ false →
            snapshot_in text ≡ refused_by (record { number = 15; line = suspect_line (resources_of found.entries) })
        unfolding snapshot_in
        case_suspect marked = rw (le-ltb 1048576 (length text) short, due, le-ltb next (length text) over, marked)

        pub case_whole : suspect_line (resources_of found.entries) ≡ 0 → snapshot_in text ≡ read found.header found.entries
        unfolding snapshot_in
        case_whole fine = rw (le-ltb 1048576 (length text) short, due, le-ltb next (length text) over, fine)

-- ---- the first faulty line

module _ (reader : List ℕ → ℕ → LineAnswer Resource) (text : List ℕ) where
  pub faulty_resource :
      (n : ℕ) (above : List (List ℕ)) (at : ℕ) {found : Fault} → resources_at reader n above text at ≡ refused found → FaultyResource reader text n above at found
  unfolding resources_at
  faulty_resource zero above at e = let z : ◌≡◌ {A = ℕ} 0 1 = cc in absurd (omega arith)
  faulty_resource (suc n) above at {found} e = by_id (field_at (id_field (bytes "id=")) text at) refl e (λ id after. faulty_resource n (id ∷ above) after)
    where
      rest : List ℕ → Resource → ℕ → LineAnswer (List Entry)
      rest id one after = after_answer (resources_at reader n (id ∷ above) text after) (λ others last. got (with_entry id one others) last)

      others :
          {id : List ℕ} {next : ℕ} {one : Resource} {after : ℕ} → new_id_at above text at ≡ got id next → reader text next ≡ got one after →
          (a : LineAnswer (List Entry)) → resources_at reader n (id ∷ above) text after ≡ a →
          after_answer a (λ others last. got (with_entry id one others) last) ≡ refused found →
          ((after : ℕ) → resources_at reader n (id ∷ above) text after ≡ refused found → FaultyResource reader text n (id ∷ above) after found) →
          FaultyResource reader text (suc n) above at found
      others new is (got entries last) given e more = let z : ◌≡◌ {A = ℕ} 0 1 = cc in absurd (omega arith)
      others {after = after} new is (refused other) given e more = later_resource new is (more after (given ∙ e))

      lines :
          {id : List ℕ} {next : ℕ} → new_id_at above text at ≡ got id next → (a : LineAnswer Resource) → reader text next ≡ a → after_answer a (rest id) ≡ refused found →
          ((after : ℕ) → resources_at reader n (id ∷ above) text after ≡ refused found → FaultyResource reader text n (id ∷ above) after found) →
          FaultyResource reader text (suc n) above at found
      lines {id} {next} new (got one after) is e more = others new is (resources_at reader n (id ∷ above) text after) refl e more
      lines new (refused other) is e more = let same : other ≡ found = cc in faulty_lines new (is ∙ ap refused same)

      by_table :
          {id : List ℕ} {next : ℕ} → field_at (id_field (bytes "id=")) text at ≡ got id next → (b : Bool) → stands_in id above ≡ b →
          after_answer (cond b (refused (fault 8 at)) (got id next)) (λ id next. after_answer (reader text next) (rest id)) ≡ refused found →
          ((after : ℕ) → resources_at reader n (id ∷ above) text after ≡ refused found → FaultyResource reader text n (id ∷ above) after found) →
          FaultyResource reader text (suc n) above at found
      by_table given true stands e more = let is : fault 8 at ≡ found = cc in rw (← is) (repeated_id given stands)
      by_table {id} {next} given false stands e more = lines (rw (given, stands)) (reader text next) refl e more

      by_id :
          (a : LineAnswer (List ℕ)) → field_at (id_field (bytes "id=")) text at ≡ a →
          after_answer (after_answer a (λ id next. cond (stands_in id above) (refused (fault 8 at)) (got id next))) (λ id next. after_answer (reader text next) (rest id))
          ≡ refused found →
          ((id : List ℕ) (after : ℕ) → resources_at reader n (id ∷ above) text after ≡ refused found → FaultyResource reader text n (id ∷ above) after found) →
          FaultyResource reader text (suc n) above at found
      by_id (got id next) given e more = by_table given (stands_in id above) refl e (more id)
      by_id (refused other) given e more = let same : other ≡ found = cc in faulty_id (given ∙ ap refused same)

pub first_faulty_line_is_refused : FirstFaultyLineIsRefused
unfolding due_lines
first_faulty_line_is_refused text found e = header (read_fields header_fields text 0).end refl e
  where
    resources :
        {h : Header} {next : ℕ} → lines_as header_of header_fields text 0 ≡ got h next → (a : LineAnswer (List Entry)) →
        resources_at resource_at (nat_abs h.count) [] text next ≡ a →
        after_answer {B = Contents} a (λ entries last. got (record { header = h; entries = entries }) last) ≡ refused found → FaultyLine text found
    resources first (got entries last) is e = let z : ◌≡◌ {A = ℕ} 0 1 = cc in absurd (omega arith)
    resources {h} {next} first (refused other) is e =
        let same : other ≡ found = cc in
        in_resources first (faulty_resource resource_at text (nat_abs h.count) [] next (is ∙ ap refused same))

    header :
        (ended : Result ℕ Fault) → (read_fields header_fields text 0).end ≡ ended →
        after_answer (of_lines header_of (read_fields header_fields text 0).values ended) (λ h next. after_header text h next) ≡ refused found → FaultyLine text found
    header (Err other) is e = let same : other ≡ found = cc in in_header (is ∙ ap Err same)
    header (Ok next) is e =
        let h = header_of (read_fields header_fields text 0).values in
        resources (rw is) (resources_at resource_at (nat_abs h.count) [] text next) refl e

-- ---- demand 1

pub snapshot_is_refused_first : SnapshotIsRefusedFirst
snapshot_is_refused_first text =
    record {
      too_long = λ long. rw (case_long text long) (refl, refl);
      faulty_line = λ found short due. (first_faulty_line_is_refused text found due, rw (case_refused text short due) (refl, refl));
      bytes_after = λ found next short due more. rw (case_after text short due more) (refl, refl);
      suspect_number = λ found next short due over marked. rw (case_suspect text short due over marked) (refl, refl);
      accepted = λ found next short due over fine. rw (case_whole text short due over fine);
    }

-- ---- the definitions, step by step

module _ (reader : List ℕ → ℕ → LineAnswer Resource) (above : List (List ℕ)) (text : List ℕ) (at : ℕ) where
  pub resources_more :
      (n : ℕ) →
      resources_at reader (suc n) above text at ≡
      after_answer (new_id_at above text at)
      (λ id next. after_answer (reader text next) (λ one after. after_answer (resources_at reader n (id ∷ above) text after) (λ others last. got (with_entry id one others) last)))
  unfolding resources_at
  resources_more n = refl

pub due_lines_are : (text : List ℕ) → due_lines text ≡ after_answer (lines_as header_of header_fields text 0) (λ h next. after_header text h next)
unfolding due_lines
due_lines_are text = refl
