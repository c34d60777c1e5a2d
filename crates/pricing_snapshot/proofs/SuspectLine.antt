-- The line that 15 gives is no further down than the text has bytes, since every line of a resource has bytes: the bound that hosts are told.
use Prim.Native.Nat.{ℕ, zero, suc, ◌+◌, ◌≤◌}
use native.Mathlib.Omega.{arith}
use mathlib.Core.Path.{◌≡◌, refl, sym, ◌∙◌}
use mathlib.Core.Bool.{Bool, true, false, cond}
use mathlib.Core.List.{List, [], ◌∷◌}
use lib.Dec.{eqb}
use lib.IntN.{nat_abs}
use lib.ListN.{length}
use Rattle.std.specs.Prelude.{Result, Ok, Err}
use Rattle.text_refusal.specs.declared.refusal.Fault.{Fault}
use Rattle.text_refusal.specs.Bytes.{bytes}
use Rattle.text_line.specs.Field.{Field, LineAnswer, got, refused, field_at}
use Rattle.text_line.proofs.FieldTexts.{field_read}
use Rattle.text_id.specs.Id.{id_field}
use Rattle.text_schema.specs.Schema.{and_then, read_fields}
use Rattle.pricing_resource.proofs.Suspects.{count_few, place_few, suspect_none, suspect_more}
use Rattle.pricing_resource.specs.Suspect.{resource_line_count, suspect_place, suspect_from, suspect_line}
use Rattle.pricing_resource.specs.declared.Kind.{Kind}
use Rattle.pricing_resource.specs.declared.Kind.TheVariants as kind
use Rattle.pricing_resource.specs.declared.Resource.{Resource}
use Rattle.pricing_resource_text.specs.Resource.{kind_field, status_field, generator_fields, controllable_fields, load_fields, of_lines, lines_as, generator_at, of_kind, resource_at, with_marks, generator_of, status_of, controllable_of, load_of}
use Rattle.pricing_resource_text.proofs.Readings.{followed, resource_followed}
use Rattle.pricing_snapshot.specs.Snapshot.{header_fields, header_of, Entry, resources_at, resources_of, Contents, due_lines}
use Rattle.pricing_snapshot.proofs.Entries.{no_entries, first_entry, lines_due}

-- reading went on from one position to another, by so many bytes at least, and within the text
record Onward (text : List ℕ) (least at next : ℕ) : Type 0 where
  pub bytes_read : at + least ≤ next
  pub within : next ≤ length text

module _ (text : List ℕ) where
  -- a line has its key, a byte of its value at least, and its end
  field_onward : {A : Type 0} (field : Field A) (at : ℕ) {value : A} {next : ℕ} → field_at field text at ≡ got value next → Onward text (length field.key + 2) at next
  field_onward field at e = let r = field_read field text at e in record { bytes_read = omega (arith, r.next_is, r.some_bytes); within = r.within }

  fields_onward :
      {A : Type 0} (fields : List (Field A)) (at next : ℕ) → at ≤ length text → (read_fields fields text at).end ≡ Ok next → Onward text (length fields) at next
  unfolding read_fields
  fields_onward [] at next h e = let same : at ≡ next = cc in record { bytes_read = omega arith; within = omega arith }
  fields_onward {A} (field ∷ fields) at next h e = go (field_at field text at) refl (λ at h. fields_onward fields at next h) e
    where
      go :
          (answer : LineAnswer A) → field_at field text at ≡ answer →
          ((at : ℕ) → at ≤ length text → (read_fields fields text at).end ≡ Ok next → Onward text (length fields) at next) →
          (and_then answer (λ next. read_fields fields text next)).end ≡ Ok next → Onward text (suc (length fields)) at next
      go (got value after) given again e =
          let first = field_onward field at given in
          let others = again after first.within e in
          record { bytes_read = omega (arith, first.bytes_read, others.bytes_read); within = others.within }
      go (refused found) given again e = let z : ◌≡◌ {A = ℕ} 0 1 = cc in absurd (omega arith)

  lines_onward :
      {A B : Type 0} (make : List B → A) (fields : List (Field B)) (at : ℕ) {one : A} {next : ℕ} → at ≤ length text → lines_as make fields text at ≡ got one next →
      Onward text (length fields) at next
  lines_onward {A} make fields at {one} {next} h e = go (read_fields fields text at).end refl e
    where
      go : (end : Result ℕ Fault) → (read_fields fields text at).end ≡ end → of_lines make (read_fields fields text at).values end ≡ got one next → Onward text (length fields) at next
      go (Ok last) given p = let same : last ≡ next = cc in fields_onward fields at next h (given ∙ rw same)
      go (Err found) given p = let z : ◌≡◌ {A = ℕ} 0 1 = cc in absurd (omega arith)

  -- ---- a resource

  generator_onward : (k : Kind) (at : ℕ) {one : Resource} {next : ℕ} → at ≤ length text → generator_at k text at ≡ got one next → Onward text 0 at next
  generator_onward k at {one} {next} h e =
      let f = followed (field_at status_field text at) _ e in
      let first = field_onward status_field at f.given in
      let others = lines_onward (with_marks (generator_of k (status_of f.one))) generator_fields f.after first.within f.then in
      record { bytes_read = omega (arith, first.bytes_read, others.bytes_read); within = others.within }

  lines_after : {A B : Type 0} (make : List B → A) (fields : List (Field B)) (at : ℕ) {one : A} {next : ℕ} → at ≤ length text → lines_as make fields text at ≡ got one next → Onward text 0 at next
  lines_after make fields at h e = let r = lines_onward make fields at h e in record { bytes_read = omega (arith, r.bytes_read); within = r.within }

  kind_onward : (k at : ℕ) {one : Resource} {next : ℕ} → at ≤ length text → of_kind text k at ≡ got one next → Onward text 0 at next
  kind_onward zero at h e = generator_onward kind.Gen at h e
  kind_onward (suc zero) at h e = generator_onward kind.Wind at h e
  kind_onward (suc (suc zero)) at h e = generator_onward kind.Irr at h e
  kind_onward (suc (suc (suc zero))) at h e = generator_onward kind.Nuke at h e
  kind_onward (suc (suc (suc (suc zero)))) at h e = lines_after (with_marks controllable_of) controllable_fields at h e
  kind_onward (suc (suc (suc (suc (suc n))))) at h e = lines_after (with_marks load_of) load_fields at h e

  -- its kind's line alone has 7 bytes
  resource_onward : (at : ℕ) {one : Resource} {next : ℕ} → resource_at text at ≡ got one next → Onward text 7 at next
  resource_onward at e =
      let f = resource_followed text at e in
      let first = field_onward kind_field at f.given in
      let others = kind_onward f.one f.after first.within f.then in
      record { bytes_read = omega (arith, first.bytes_read, others.bytes_read); within = others.within }

  -- ---- the resources

  -- the line is found before the resources end, where no more lines than bytes stand before them
  record SuspectWithin (before : ℕ) (entries : List Entry) (at next : ℕ) : Type 0 where
    pub onward : Onward text 0 at next
    pub line : suspect_from before (resources_of entries) ≤ next

  resources_within :
      (n : ℕ) (above : List (List ℕ)) (at before : ℕ) {entries : List Entry} {next : ℕ} → before ≤ at → at ≤ length text →
      resources_at resource_at n above text at ≡ got entries next → SuspectWithin before entries at next
  resources_within zero above at before {entries} {next} b h e =
      let p : got [] at ≡ got entries next = sym (no_entries resource_at above text at) ∙ e in
      let none : entries ≡ [] = cc in
      let same : at ≡ next = cc in
      rw none (record { onward = record { bytes_read = omega arith; within = omega arith }; line = omega (arith, suspect_none before) })
  resources_within (suc n) above at before {entries} {next} b h e =
      let f = first_entry resource_at n above text at e in
      let id = field_onward (id_field (bytes "id=")) at f.id_read in
      let one = resource_onward f.middle f.one_read in
      let others =
      resources_within n (f.id ∷ above) f.after (before + resource_line_count f.one) (omega (arith, id.bytes_read, one.bytes_read, count_few f.one)) one.within f.others_read in
      rw f.are
      (record {
        onward = record { bytes_read = omega (arith, id.bytes_read, one.bytes_read, others.onward.bytes_read); within = others.onward.within };
        line = rw (suspect_more before f.one (resources_of f.others)) (go (eqb (suspect_place f.one) 0) others.line (omega (arith, id.bytes_read, one.bytes_read, others.onward.bytes_read, place_few f.one)));
      })
    where
      go : {later here : ℕ} (fine : Bool) → later ≤ next → here ≤ next → cond fine later here ≤ next
      go true l k = l
      go false l k = k

-- ---- the snapshot

pub suspect_line_lem : (text : List ℕ) {found : Contents} {next : ℕ} → due_lines text ≡ got found next → suspect_line (resources_of found.entries) ≤ length text
unfolding header_fields
suspect_line_lem text {found} e =
    let due = lines_due text e in
    let header = lines_onward text header_of header_fields 0 (omega arith) due.header_read in
    let resources = resources_within text (nat_abs found.header.count) [] due.next 8 header.bytes_read header.within due.entries_read in
    omega (arith, resources.line, resources.onward.within)
