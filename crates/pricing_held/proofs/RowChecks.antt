-- Laws on checking a row: its id is ill-formed, stands above or is new, and then the rest of its lines decide.
use Prim.Native.Nat.{ℕ, zero, suc, ◌+◌, ◌*◌, ◌≤◌, ◌<◌}
use native.Mathlib.Omega.{arith}
use mathlib.Core.Bool.{Bool, true, false}
use mathlib.Core.List.{List, ◌∷◌}
use mathlib.Core.Path.{◌≡◌, refl, sym, ap, ◌∙◌}
use lib.IntN.{ℤ}
use lib.ListN.{get_or, set}
use Rattle.text_refusal.specs.Answer.{Answer, refusal}
use Rattle.text_id.specs.Id.{is_id}
use Rattle.text_id_table.specs.Ids.{id_at, stands_in}
use Rattle.text_id_table.specs.Table.{slot_of}
use Rattle.text_id_table.proofs.Table.{slot_filled, slot_empty, table_more}
use Rattle.text_schema.specs.Schema.{value}
use Rattle.text_schema.specs.Checked.{CheckedLine, checked_line, first_refused}
use Rattle.pricing_resource_text.specs.Resource.{kind_field}
use Rattle.pricing_held.specs.Rows.{Row, place_of}
use Rattle.pricing_held.specs.Lines.{id_line, lines_of_kind, row_lines}
use Rattle.pricing_held.specs.internal.Checks.{row_in, row_of, RowChecked}
use Rattle.pricing_held.proofs.RowLines.{line_refused, line_passed}

-- ---- the id's line

module _ (above : List (List ℕ)) (bytes : List ℕ) where
  pub id_ill_formed : is_id bytes ≡ false → (id_line above bytes).number ≡ 6
  id_ill_formed e = rw e

  module _ (valid : is_id bytes ≡ true) where
    pub id_repeated : stands_in bytes above ≡ true → (id_line above bytes).number ≡ 8
    id_repeated stands = rw (valid, stands)

    pub id_new : stands_in bytes above ≡ false → (id_line above bytes).number ≡ 0
    id_new other = rw (valid, other)

-- ---- the lines of a row by its numbers

-- they don't hang on the id
pub lines_alike : (k : ℕ) (row row' : Row) → row.status ≡ row'.status → row.numbers ≡ row'.numbers → row.marks ≡ row'.marks → lines_of_kind k row ≡ lines_of_kind k row'
lines_alike zero row row' s n m = rw (s, n, m)
lines_alike (suc zero) row row' s n m = rw (s, n, m)
lines_alike (suc (suc zero)) row row' s n m = rw (s, n, m)
lines_alike (suc (suc (suc zero))) row row' s n m = rw (s, n, m)
lines_alike (suc (suc (suc (suc zero)))) row row' s n m = rw (n, m)
lines_alike (suc (suc (suc (suc (suc k))))) row row' s n m = rw (n, m)

module _ (id : List ℕ) (values : List ℤ) where
  -- the lines after the id's
  abbrev after_id : List CheckedLine
  after_id = checked_line kind_field (place_of (value values 0)) ∷ lines_of_kind (place_of (value values 0)) (row_of values)

  pub row_lines_lem : (above : List (List ℕ)) → row_lines above (row_in id values) ≡ id_line above id ∷ after_id
  unfolding row_lines
  row_lines_lem above =
      ap (λ (lines : List CheckedLine). id_line above id ∷ (checked_line kind_field (place_of (value values 0)) ∷ lines))
      (lines_alike (place_of (value values 0)) (row_in id values) (row_of values) refl refl refl)

-- ---- what checking a row gives

module _ (ids : List ℕ) (i : ℕ) (values : List ℤ) (line : ℕ) {found : Bool} (is : found ≡ is_id (id_at 0 ids (32 * i))) {starts : List ℕ} where
  pub checked_ill_formed : {starts' : List ℕ} → found ≡ false → RowChecked (row_in (id_at 0 ids (32 * i)) values) line ids starts starts' (refusal 6 line)
  checked_ill_formed told =
      record {
        answers = λ above table one.
            line_refused line 6 (id_line above (id_at 0 ids (32 * i))) (after_id (id_at 0 ids (32 * i)) values) (id_ill_formed above (id_at 0 ids (32 * i)) (sym is ∙ told)) refl ∙
            ap (first_refused line) (sym (row_lines_lem (id_at 0 ids (32 * i)) values above));
        table = λ above table one e. let z : ◌≡◌ {A = ℕ} 0 1 = cc in absurd (omega arith);
      }

  module _ (told : found ≡ true) {slot : ℕ} (at_slot : slot ≡ slot_of 0 ids starts (id_at 0 ids (32 * i))) where
    pub checked_repeated : {starts' : List ℕ} → 0 < get_or starts slot 0 → RowChecked (row_in (id_at 0 ids (32 * i)) values) line ids starts starts' (refusal 8 line)
    checked_repeated some =
        record {
          answers = λ above table one.
              line_refused line 8 (id_line above (id_at 0 ids (32 * i))) (after_id (id_at 0 ids (32 * i)) values)
              (id_repeated above (id_at 0 ids (32 * i)) (sym is ∙ told) (slot_filled table one (id_at 0 ids (32 * i)) at_slot some)) refl ∙
              ap (first_refused line) (sym (row_lines_lem (id_at 0 ids (32 * i)) values above));
          table = λ above table one e. let z : ◌≡◌ {A = ℕ} 0 1 = cc in absurd (omega arith);
        }

    pub checked_new :
        {answer : Answer} → get_or starts slot 0 ≤ 0 → answer ≡ first_refused (line + 1) (after_id (id_at 0 ids (32 * i)) values) →
        RowChecked (row_in (id_at 0 ids (32 * i)) values) line ids starts (set starts slot (32 * i + 1)) answer
    checked_new none says =
        record {
          answers = λ above table one.
              line_passed line (id_line above (id_at 0 ids (32 * i))) (after_id (id_at 0 ids (32 * i)) values)
              (id_new above (id_at 0 ids (32 * i)) (sym is ∙ told) (slot_empty table one (id_at 0 ids (32 * i)) at_slot none)) says ∙
              ap (first_refused line) (sym (row_lines_lem (id_at 0 ids (32 * i)) values above));
          table = λ above table one e. table_more table one (id_at 0 ids (32 * i)) at_slot none (32 * i) refl;
        }
