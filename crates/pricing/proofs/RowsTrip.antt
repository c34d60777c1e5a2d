-- The lines of resources one after the other: read as the entries of rows where they are written so and not refused, and written from the entries where they were
-- read.
use Prim.Native.Nat.{ℕ, zero, suc, ◌+◌}
use native.Mathlib.Omega.{arith}
use mathlib.Core.Bool.{Bool, true, false, cond}
use mathlib.Core.List.{List, [], ◌∷◌, ◌++◌, map}
use mathlib.Core.Path.{◌≡◌, refl, sym, ap, ap₂, subst, subst⁻¹, ◌∙◌}
use borrow.Author.Tests.{eqb-true}
use lib.Dec.{eqb}
use lib.ListN.{length}
use Rattle.text_refusal.specs.Bytes.{bytes}
use Rattle.text_refusal.specs.Refusal.{fault}
use Rattle.text_line.specs.Field.{LineAnswer, got, refused, field_at}
use Rattle.text_line.proofs.LineBytes.{one_line}
use Rattle.text_id.specs.Id.{is_id, id_field}
use Rattle.text_id.proofs.Ids.{id_is}
use Rattle.text_line.proofs.FieldTexts.{field_read}
use Rattle.text_id_table.specs.Ids.{stands_in}
use Rattle.text_schema.specs.Checked.{CheckedLine, checked_line, text_of}
use Rattle.text_schema.proofs.Checked.{text_none, text_append, unrefused_append, unrefused_both}
use Rattle.text.specs.Promises.{Sound}
use Rattle.text.proofs.RoundTrip.{Cut}
use Rattle.text.proofs.Checked.{cut_none, cut_both, cut_apart, line_cuts, line_reads}
use Rattle.text.proofs.Values.{ids_are_sound, ids_fit_or_are_refused}
use Rattle.pricing_resource.specs.declared.Resource.{Resource}
use Rattle.pricing_resource_text.specs.Resource.{kind_field, after_answer, resource_at}
use Rattle.pricing_resource_text.proofs.Readings.{followed}
use Rattle.pricing_snapshot.specs.Snapshot.{Entry, new_id_at, with_entry, resources_at}
use Rattle.pricing_snapshot.proofs.Cases.{resources_more}
use Rattle.pricing_snapshot.proofs.Entries.{no_entries}
use Rattle.pricing_held.specs.Rows.{Row, resource_of_kind, entry_of}
use Rattle.pricing_held.specs.Lines.{id_line, lines_of_kind, row_lines, rows_lines}
use Rattle.pricing_held.proofs.Definitions.{entry_of_is, row_lines_are, rows_lines_none, rows_lines_more}
use Rattle.pricing.proofs.ResourceTrip.{Standing, standing_first, standing_more, Six, resource_reads, row_of_resource, MarksFit, resource_written}

-- ---- lines before others

module _ (text : List ℕ) (at next : ℕ) (lines others : List CheckedLine) where
  pub standing_apart : Standing text at next (lines ++ others) → Standing text at (at + length (text_of lines)) lines × Standing text (at + length (text_of lines)) next others
  standing_apart stand =
      let cuts = cut_apart text (text_of lines) (text_of others) at next (rw (text_append lines others) at stand.0) in
      let all = unrefused_both lines others stand.1 in
      ((cuts.0, all.0), (cuts.1, all.1))

  pub standing_both : (mid : ℕ) → Standing text at mid lines → Standing text mid next others → Standing text at next (lines ++ others)
  standing_both mid first second =
      (rw (text_append lines others) (cut_both text (text_of lines) (text_of others) at mid next first.0 second.0), unrefused_append lines others first.1 second.1)

pub standing_none : (text : List ℕ) (at next : ℕ) → Standing text at next [] → next ≡ at
standing_none text at next stand = omega (arith, stand.0.1, ap length text_none)

-- ---- the id's line

ids_sound : Sound (id_field (bytes "id="))
ids_sound = ids_are_sound (bytes "id=") (one_line (bytes "id=") refl)

module _ (above : List (List ℕ)) (id : List ℕ) where
  -- an id that is not refused is well written and new
  id_unrefused : (id_line above id).number ≡ 0 → ((checked_line (id_field (bytes "id=")) id).number ≡ 0) × (stands_in id above ≡ false)
  id_unrefused e = go (eqb (checked_line (id_field (bytes "id=")) id).number 0) refl (stands_in id above) refl e
    where
      go :
          (own : Bool) → eqb (checked_line (id_field (bytes "id=")) id).number 0 ≡ own → (b : Bool) → stands_in id above ≡ b →
          cond own (cond b 8 0) (checked_line (id_field (bytes "id=")) id).number ≡ 0 → ((checked_line (id_field (bytes "id=")) id).number ≡ 0) × (stands_in id above ≡ false)
      go true h true s e = absurd (omega arith)
      go true h false s e = (eqb-true (checked_line (id_field (bytes "id=")) id).number 0 h, s)
      go false h b s e = let z : ◌≡◌ {A = Bool} true false = sym (ap (λ (n : ℕ). eqb n 0) e) ∙ h in let w : ◌≡◌ {A = ℕ} 0 1 = cc in absurd (omega arith)

  id_taken : (checked_line (id_field (bytes "id=")) id).number ≡ 0 → stands_in id above ≡ false → (id_line above id).number ≡ 0
  id_taken own other = rw (own, other)

  module _ (text : List ℕ) (at next : ℕ) where
    new_id_reads : Cut text at next (id_line above id).bytes × ((id_line above id).number ≡ 0) → new_id_at above text at ≡ got id next
    new_id_reads line =
        let told = id_unrefused line.1 in
        let read : field_at (id_field (bytes "id=")) text at ≡ got id next = line_reads (id_field (bytes "id=")) ids_sound text at (ids_fit_or_are_refused (bytes "id=")) id next line.0 told.0 in
        rw (read, told.1)

-- a new id that was read
record NewId (above : List (List ℕ)) (text : List ℕ) (at next : ℕ) (id : List ℕ) : Type 0 where
  line : Cut text at next (id_line above id).bytes × ((id_line above id).number ≡ 0)
  valid : is_id id ≡ true

new_id_written : (above : List (List ℕ)) (text : List ℕ) (at next : ℕ) (id : List ℕ) → new_id_at above text at ≡ got id next → NewId above text at next id
new_id_written above text at next id e =
    let f = followed (field_at (id_field (bytes "id=")) text at) (λ id next. cond (stands_in id above) (refused (fault 8 at)) (got id next)) e in
    let new = told f.one f.after (stands_in f.one above) refl f.then in
    let read : field_at (id_field (bytes "id=")) text at ≡ got id next = f.given ∙ ap₂ got new.0 new.1 in
    let stands : stands_in id above ≡ false = ap (λ (i : List ℕ). stands_in i above) (sym new.0) ∙ new.2 in
    let found = field_read (id_field (bytes "id=")) text at read in
    let is = id_is (bytes "id=") found.bytes id found.reads in
    let cut = line_cuts (id_field (bytes "id=")) ids_sound text at id next read in
    record { line = (cut.0, id_taken above id cut.1 stands); valid = rw is.0 at is.1 }
  where
    told : (one : List ℕ) (after : ℕ) (b : Bool) → stands_in one above ≡ b → cond b (refused (fault 8 at)) (got one after) ≡ got id next → (one ≡ id) × (after ≡ next) × (stands_in one above ≡ false)
    told one after true s e = let z : ◌≡◌ {A = ℕ} 0 1 = cc in absurd (omega arith)
    told one after false s e = (cc, cc, s)

-- ---- rows that stand in a text are read as their entries

abbrev pub AllSix : List Row → Type 0
AllSix [] = Unit
AllSix (row ∷ rows) = Six row × AllSix rows

-- the answer for one resource more
abbrev with_more : List ℕ → Resource → LineAnswer (List Entry) → LineAnswer (List Entry)
with_more id one a = after_answer a (λ others last. got (with_entry id one others) last)

pub rows_read :
    (text : List ℕ) (rows : List Row) (above : List (List ℕ)) (at next : ℕ) → AllSix rows → Standing text at next (rows_lines above rows) →
    resources_at resource_at (length rows) above text at ≡ got (map entry_of rows) next
rows_read text [] above at next all stand =
    let here : next ≡ at = standing_none text at next (rw (rows_lines_none above) at stand) in
    rw (no_entries resource_at above text at, here)
rows_read text (row ∷ rows) above at next all stand =
    let parts = standing_apart text at next (row_lines above row) (rows_lines (row.id ∷ above) rows) (rw (rows_lines_more above row rows) at stand) in
    let mid : ℕ = at + length (text_of (row_lines above row)) in
    let kind_line : CheckedLine = checked_line kind_field row.kind in
    let line = standing_first text at mid (id_line above row.id) (kind_line ∷ lines_of_kind row.kind row)
    (subst (λ (lines : List CheckedLine). Standing text at mid lines) (row_lines_are above row) parts.0) in
    let after : ℕ = at + length (id_line above row.id).bytes in
    let id : new_id_at above text at ≡ got row.id after = new_id_reads above row.id text at after line.0 in
    let one : resource_at text after ≡ got (resource_of_kind row.kind row) mid = resource_reads text row after mid all.0 line.1 in
    let others : resources_at resource_at (length rows) (row.id ∷ above) text mid ≡ got (map entry_of rows) next = rows_read text rows (row.id ∷ above) mid next all.1 parts.1 in
    resources_more resource_at above text at (length rows) ∙ rw (id, one, others, entry_of_is row)

-- ---- entries that were read stand in the text

abbrev pub row_of_entry : Entry → Row
row_of_entry entry = row_of_resource entry.id entry.resource

-- the id is well written, and the marks are those of the resource's numbers
abbrev pub ValidEntries : List Entry → Type 0
ValidEntries [] = Unit
ValidEntries (entry ∷ entries) = ((is_id entry.id ≡ true) × MarksFit entry.resource) × ValidEntries entries

-- the lines of their rows stand in a text, and they are valid
abbrev pub EntriesStand : List ℕ → List (List ℕ) → ℕ → ℕ → List Entry → Type 0
EntriesStand text above at next entries = Standing text at next (rows_lines above (map row_of_entry entries)) × ValidEntries entries

pub entries_written :
    (text : List ℕ) (n : ℕ) (above : List (List ℕ)) (at : ℕ) {entries : List Entry} {next : ℕ} → resources_at resource_at n above text at ≡ got entries next →
    EntriesStand text above at next entries
entries_written text zero above at {entries} {next} e =
    let over : got [] at ≡ got entries next = sym (no_entries resource_at above text at) ∙ e in
    let none : entries ≡ [] = cc in
    let here : at ≡ next = cc in
    rw (none, rows_lines_none above, ← here) ((rw text_none (cut_none text at), tt), tt)
entries_written text (suc n) above at {entries} {next} e =
    let rest : List ℕ → Resource → ℕ → LineAnswer (List Entry) = λ id one after. with_more id one (resources_at resource_at n (id ∷ above) text after) in
    let f = followed (new_id_at above text at) (λ id next. after_answer (resource_at text next) (rest id)) (sym (resources_more resource_at above text at n) ∙ e) in
    let g = followed (resource_at text f.after) (rest f.one) f.then in
    let h = followed (resources_at resource_at n (f.one ∷ above) text g.after) (λ others last. got (with_entry f.one g.one others) last) g.then in
    let all : with_entry f.one g.one h.one ≡ entries = cc h.then in
    let last : h.after ≡ next = cc h.then in
    let others = entries_written text n (f.one ∷ above) g.after h.given in
    let new = new_id_written above text at f.after f.one f.given in
    let row : Row = row_of_resource f.one g.one in
    let lines = resource_written text f.one f.after g.after g.given in
    let first : Standing text at g.after (row_lines above row) =
    subst⁻¹ (λ (lines : List CheckedLine). Standing text at g.after lines) (row_lines_are above row)
    (standing_more text at g.after (id_line above f.one) (checked_line kind_field row.kind ∷ lines_of_kind row.kind row) f.after new.line lines.0) in
    let stands : Standing text at h.after (rows_lines above (row ∷ map row_of_entry h.one)) =
    subst⁻¹ (λ (lines : List CheckedLine). Standing text at h.after lines) (rows_lines_more above row (map row_of_entry h.one))
    (standing_both text at h.after (row_lines above row) (rows_lines (f.one ∷ above) (map row_of_entry h.one)) g.after first others.0) in
    subst (λ (entries : List Entry). EntriesStand text above at next entries) all
    (subst (λ (last : ℕ). EntriesStand text above at last (with_entry f.one g.one h.one)) last (stands, ((new.valid, lines.1), others.1)))
