-- The lines of a snapshot that was read: its header's, and of each resource its id and its own.
use Prim.Native.Nat.{ℕ, zero, suc}
use native.Mathlib.Omega.{arith}
use mathlib.Core.Bool.{Bool, true, false, cond}
use mathlib.Core.Path.{◌≡◌, refl, ap, ◌∙◌}
use mathlib.Core.List.{List, [], ◌∷◌, ◌++◌}
use lib.IntN.{pos, neg_ℤ, nat_abs}
use lib.ListN.{replicate}
use Rattle.text_refusal.specs.Bytes.{bytes}
use Rattle.text_refusal.specs.Refusal.{fault}
use Rattle.text_line.specs.Field.{LineAnswer, got, refused, field_at}
use Rattle.text_id.specs.Id.{id_field}
use Rattle.text_id_table.specs.Ids.{stands_in}
use Rattle.text_schema.proofs.Fields.{schema_fields}
use Rattle.pricing_resource.specs.declared.Resource.{Resource}
use Rattle.pricing_sums.specs.declared.header.Header.{Header}
use Rattle.pricing_resource_text.specs.Resource.{after_answer, lines_as, resource_at}
use Rattle.pricing_resource_text.proofs.Readings.{followed}
use Rattle.pricing_snapshot.specs.Snapshot.{header_fields, header_of, new_id_at, Entry, with_entry, resources_at, Contents, after_header, due_lines, SnapshotAnswer, read, snapshot_in}
use Rattle.pricing_snapshot.proofs.Cases.{SnapshotCase, too_long, line_refused, bytes_after, suspect_number, whole, snapshot_case}

-- the header's lines written out
pub header_computed :
    header_fields ≡
    schema_fields (bytes "month=hour=lambda=factor=prc=eea1=short=count=") (pos 1 ∷ pos 0 ∷ neg_ℤ (pos 2000000) ∷ replicate 5 (pos 0))
    (pos 12 ∷ pos 23 ∷ pos 2000000 ∷ pos 10000 ∷ replicate 3 (pos 200000000) ++ (pos 4096 ∷ []))
unfolding header_fields
header_computed = refl

-- ---- the resources, over any reader of one resource's lines

module _ (reader : List ℕ → ℕ → LineAnswer Resource) where
  pub no_entries : (above : List (List ℕ)) (text : List ℕ) (at : ℕ) → resources_at reader zero above text at ≡ got [] at
  unfolding resources_at
  no_entries above text at = refl

  -- an entry and then the others
  pub record FirstEntry (n : ℕ) (above : List (List ℕ)) (text : List ℕ) (at : ℕ) (entries : List Entry) (last : ℕ) : Type 0 where
    pub id : List ℕ
    pub middle : ℕ
    pub one : Resource
    pub after : ℕ
    pub others : List Entry
    pub id_read : field_at (id_field (bytes "id=")) text at ≡ got id middle
    pub one_read : reader text middle ≡ got one after
    pub others_read : resources_at reader n (id ∷ above) text after ≡ got others last
    pub are : entries ≡ with_entry id one others

  -- an id that is new was read
  id_read : (above : List (List ℕ)) (text : List ℕ) (at : ℕ) {id : List ℕ} {next : ℕ} → new_id_at above text at ≡ got id next → field_at (id_field (bytes "id=")) text at ≡ got id next
  id_read above text at {id} {next} e =
      let f = followed (field_at (id_field (bytes "id=")) text at) (λ id next. cond (stands_in id above) (refused (fault 8 at)) (got id next)) e in
      new (stands_in f.one above) f.given f.then
    where
      new :
          {a : LineAnswer (List ℕ)} {one : List ℕ} {after : ℕ} (b : Bool) → a ≡ got one after → cond b (refused (fault 8 at)) (got one after) ≡ got id next → a ≡ got id next
      new true given e = cc
      new false given e = cc

  pub first_entry :
      (n : ℕ) (above : List (List ℕ)) (text : List ℕ) (at : ℕ) {entries : List Entry} {last : ℕ} → resources_at reader (suc n) above text at ≡ got entries last →
      FirstEntry n above text at entries last
  unfolding resources_at
  first_entry n above text at {entries} {last} e =
      let rest : List ℕ → Resource → ℕ → LineAnswer (List Entry) =
      λ id one after. after_answer (resources_at reader n (id ∷ above) text after) (λ others last. got (with_entry id one others) last) in
      let f = followed (new_id_at above text at) (λ id next. after_answer (reader text next) (rest id)) e in
      let g = followed (reader text f.after) (rest f.one) f.then in
      let h = followed (resources_at reader n (f.one ∷ above) text g.after) (λ others last. got (with_entry f.one g.one others) last) g.then in
      let same : h.after ≡ last = cc h.then in
      record {
        id = f.one;
        middle = f.after;
        one = g.one;
        after = g.after;
        others = h.one;
        id_read = id_read above text at f.given;
        one_read = g.given;
        others_read = h.given ∙ ap (got h.one) same;
        are = cc h.then;
      }

-- ---- the snapshot

pub record SnapshotLines (text : List ℕ) (h : Header) (entries : List Entry) : Type 0 where
  pub next : ℕ
  pub last : ℕ
  pub header_read : lines_as header_of header_fields text 0 ≡ got h next
  pub entries_read : resources_at resource_at (nat_abs h.count) [] text next ≡ got entries last

pub lines_due : (text : List ℕ) {found : Contents} {next : ℕ} → due_lines text ≡ got found next → SnapshotLines text found.header found.entries
unfolding due_lines
lines_due text {found} {next} e =
    let f = followed (lines_as header_of header_fields text 0) (λ h after. after_header text h after) e in
    let h = f.one in
    let g = followed (resources_at resource_at (nat_abs h.count) [] text f.after) (λ entries last. got (record { header = h; entries = entries }) last) f.then in
    let same : record { header = h; entries = g.one } ≡ found = cc g.then in
    rw (← same) (record { next = f.after; last = g.after; header_read = f.given; entries_read = g.given })

pub snapshot_lines : (text : List ℕ) {h : Header} {entries : List Entry} → snapshot_in text ≡ read h entries → SnapshotLines text h entries
snapshot_lines text {h} {entries} p = go (snapshot_in text) (snapshot_case text) p
  where
    go : (a : SnapshotAnswer) → SnapshotCase text a → a ≡ read h entries → SnapshotLines text h entries
    go a (too_long long) p = let z : ◌≡◌ {A = ℕ} 0 1 = cc in absurd (omega arith)
    go a (line_refused short due) p = let z : ◌≡◌ {A = ℕ} 0 1 = cc in absurd (omega arith)
    go a (bytes_after short due more) p = let z : ◌≡◌ {A = ℕ} 0 1 = cc in absurd (omega arith)
    go a (suspect_number short due over marked) p = let z : ◌≡◌ {A = ℕ} 0 1 = cc in absurd (omega arith)
    go a (whole {found} short due over fine) p =
        let h_is : found.header ≡ h = cc in
        let entries_is : found.entries ≡ entries = cc in
        rw (← h_is, ← entries_is) (lines_due text due)
