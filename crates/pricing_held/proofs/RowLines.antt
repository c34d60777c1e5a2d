-- Laws on the lines of a row: the status, the numbers by kind, the kind.
use Prim.Native.Nat.{ℕ, zero, suc, ◌+◌, ◌/◌, ◌%◌, ◌≤◌, ◌<◌}
use native.Mathlib.Numerals.{add-one}
use native.Mathlib.Omega.{arith}
use mathlib.Core.Bool.{Bool, false}
use mathlib.Core.List.{List, [], ◌∷◌, ◌++◌}
use mathlib.Core.Path.{◌≡◌, refl, sym, ap, ◌∙◌}
use lib.Dec.{eqb}
use lib.IntN.{ℤ, pos, neg_ℤ, nat_abs}
use lib.ListN.{length, take, drop, replicate, length-drop, take-append-drop}
use lib.Seq.{take-take, take-suc, drop-cons, get_or-drop, length-take-le}
use Rattle.std.specs.Prelude.{Ok, Err}
use Rattle.text_refusal.specs.Answer.{Answer, refusal, followed_by}
use Rattle.text_refusal.specs.Bytes.{bytes}
use Rattle.text_refusal.specs.declared.refusal.Refusal.{Refusal}
use Rattle.text_schema.specs.Schema.{value}
use Rattle.text_schema.specs.Checked.{CheckedLine, checked_line, checked_lines, first_refused}
use Rattle.text_number.specs.declared.marked.Marked.{Marked}
use Rattle.text_number.specs.Marked.{first_marked, marked_by}
use Rattle.text_schema.proofs.Checked.{checked_none, first_none, first_passed, first_here}
use Rattle.text_schema.proofs.Marks.{marks_after}
use Rattle.pricing_resource_text.specs.Resource.{kind_field, status_field, flag, generator_fields, controllable_fields}
use Rattle.pricing_resource_text.proofs.Lines.{load_marked, generator_parts, load_parts, generator_marked_lem, controllable_marked, load_marked_lem}
use Rattle.pricing_resource_text.proofs.Places.{kind_known, kind_unknown, status_known, status_unknown}
use Rattle.pricing_held.specs.Rows.{Row, place_of}
use Rattle.pricing_held.specs.Lines.{lines_of_kind}
use Rattle.pricing_held.specs.internal.Checks.{numbers_checked, flag_checked, row_of}
use Rattle.pricing_held.proofs.Numbers.{marked_by_schema, marked_alone, flag_by_schema}

-- ---- a line that decides, and one that does not

pub line_refused : (line number : ℕ) (due : CheckedLine) (lines : List CheckedLine) → due.number ≡ number → eqb number 0 ≡ false → refusal number line ≡ first_refused line (due ∷ lines)
line_refused line number due lines e some = sym (first_here line due lines (rw e some) ∙ ap (λ (n : ℕ). refusal n line) e)

pub line_passed : (line : ℕ) (due : CheckedLine) (lines : List CheckedLine) {found : Answer} → due.number ≡ 0 → found ≡ first_refused (line + 1) lines → found ≡ first_refused line (due ∷ lines)
line_passed line due lines e is = is ∙ rw (add-one line) (sym (first_passed line due lines e))

accepted_last : (found : Answer) → followed_by found (Ok tt) ≡ found
accepted_last (Ok tt) = refl
accepted_last (Err found) = refl

-- ---- the lines after the kind's

module _ (row : Row) (k : ℕ) where
  pub of_generator : k < 4 → lines_of_kind k row ≡ lines_of_kind 0 row
  of_generator h = go k h
    where
      go : (k : ℕ) → k < 4 → lines_of_kind k row ≡ lines_of_kind 0 row
      go zero h = refl
      go (suc zero) h = refl
      go (suc (suc zero)) h = refl
      go (suc (suc (suc zero))) h = refl
      go (suc (suc (suc (suc k)))) h = absurd (omega arith)

module _ (values : List ℤ) (line : ℕ) where
  abbrev row_marks : ℕ
  row_marks = nat_abs (value values 8)

  pub status_refused : 6 < place_of (value values 1) → refusal 6 line ≡ first_refused line (lines_of_kind 0 (row_of values))
  status_refused h =
      line_refused line 6 (checked_line status_field (place_of (value values 1))) (checked_lines generator_fields (marked_by row_marks (take 6 (drop 2 values))))
      (status_unknown (place_of (value values 1)) (omega arith)) refl

  module _ (long : 9 ≤ length values) where
    -- the six numbers of a row: five and the flag of a generator; of a load the flag and three, or four, and two that are not looked at
    last : take 6 (drop 2 values) ≡ take 5 (drop 2 values) ++ (value values 7 ∷ [])
    last = take-suc (drop 2 values) 5 (pos 0) (omega (arith, length-drop 2 values)) ∙ rw (get_or-drop 2 values 5 (pos 0))

    first : take 6 (drop 2 values) ≡ value values 2 ∷ take 5 (drop 3 values)
    first = rw (drop-cons values 2 (pos 0) (omega arith))

    four : take 6 (drop 2 values) ≡ take 4 (drop 2 values) ++ drop 4 (take 6 (drop 2 values))
    four = sym (take-append-drop 4 (take 6 (drop 2 values))) ∙ rw (take-take 4 6 (drop 2 values) (omega arith))

    three : take 5 (drop 3 values) ≡ take 3 (drop 3 values) ++ drop 3 (take 5 (drop 3 values))
    three = sym (take-append-drop 3 (take 5 (drop 3 values))) ∙ rw (take-take 3 5 (drop 3 values) (omega arith))

    generator_answer :
        place_of (value values 1) ≤ 6 →
        first_refused line (lines_of_kind 0 (row_of values)) ≡
        followed_by (numbers_checked (line + 1) (neg_ℤ (pos 2000000) ∷ replicate 4 (pos 0)) (replicate 5 (pos 2000000)) (take 5 (drop 2 values)))
        (flag_checked (line + 6) (first_marked (marks_after 5 row_marks)) (value values 7))
    generator_answer h =
        let six : line + 1 + 5 ≡ line + 6 = omega arith in
        first_passed line (checked_line status_field (place_of (value values 1))) (checked_lines generator_fields (marked_by row_marks (take 6 (drop 2 values)))) (status_known (place_of (value values 1)) (omega arith))
        ∙ rw (generator_parts, last, ← add-one line)
        (marked_by_schema generator_marked_lem (flag (bytes "cold30=") ∷ []) (line + 1) row_marks (take 5 (drop 2 values)) (value values 7 ∷ []) (length-take-le 5 (drop 2 values) (omega (arith, length-drop 2 values)))
        ∙ ap (followed_by (numbers_checked (line + 1) (neg_ℤ (pos 2000000) ∷ replicate 4 (pos 0)) (replicate 5 (pos 2000000)) (take 5 (drop 2 values))))
        (rw six (flag_by_schema (bytes "cold30=") [] (line + 6) (marks_after 5 row_marks) (value values 7) [] ∙ rw (checked_none {A = Marked}, first_none (line + 6 + 1)) (accepted_last (flag_checked (line + 6) (first_marked (marks_after 5 row_marks)) (value values 7))))))

    load_answer :
        first_refused line (lines_of_kind 5 (row_of values)) ≡
        followed_by (flag_checked line (first_marked row_marks) (value values 2)) (numbers_checked (line + 1) (replicate 3 (pos 0)) (replicate 3 (pos 2000000)) (take 3 (drop 3 values)))
    load_answer =
        rw (load_parts, first)
        (flag_by_schema (bytes "rrsok=") load_marked line row_marks (value values 2) (take 5 (drop 3 values))
        ∙ ap (followed_by (flag_checked line (first_marked row_marks) (value values 2)))
        (ap (λ (numbers : List ℤ). first_refused (line + 1) (checked_lines load_marked (marked_by (row_marks / 2) numbers))) three
        ∙ marked_alone load_marked_lem (line + 1) (row_marks / 2) (take 3 (drop 3 values)) (drop 3 (take 5 (drop 3 values))) (length-take-le 3 (drop 3 values) (omega (arith, length-drop 3 values)))))

    module _ {found : Answer} where
      -- the first five numbers of a generator decide, or its flag does
      pub generator_refused :
          place_of (value values 1) ≤ 6 → found ≡ numbers_checked (line + 1) (neg_ℤ (pos 2000000) ∷ replicate 4 (pos 0)) (replicate 5 (pos 2000000)) (take 5 (drop 2 values)) →
          {told : Refusal} → found ≡ Err told → found ≡ first_refused line (lines_of_kind 0 (row_of values))
      generator_refused h is refused = sym (generator_answer h ∙ rw (← is, refused) refl)

      pub generator_checked :
          place_of (value values 1) ≤ 6 → Ok tt ≡ numbers_checked (line + 1) (neg_ℤ (pos 2000000) ∷ replicate 4 (pos 0)) (replicate 5 (pos 2000000)) (take 5 (drop 2 values)) →
          {marked : Bool} → marked ≡ first_marked (row_marks / 32) → found ≡ flag_checked (line + 6) marked (value values 7) → found ≡ first_refused line (lines_of_kind 0 (row_of values))
      generator_checked h passed mark is =
          let halves : marks_after 5 row_marks % 2 ≡ row_marks / 32 % 2 = omega arith in
          is ∙ sym (generator_answer h ∙ rw (← passed, mark, halves))

      pub controllable_checked :
          found ≡ numbers_checked line (replicate 4 (pos 0)) (replicate 4 (pos 2000000)) (take 4 (drop 2 values)) → found ≡ first_refused line (lines_of_kind 4 (row_of values))
      controllable_checked is =
          is
          ∙ sym (ap (λ (numbers : List ℤ). first_refused line (checked_lines controllable_fields (marked_by row_marks numbers))) four
          ∙ marked_alone controllable_marked line row_marks (take 4 (drop 2 values)) (drop 4 (take 6 (drop 2 values))) (length-take-le 4 (drop 2 values) (omega (arith, length-drop 2 values))))

      -- the flag of another load decides, or its three numbers do
      pub load_refused :
          {marked : Bool} → marked ≡ first_marked row_marks → found ≡ flag_checked line marked (value values 2) → {told : Refusal} → found ≡ Err told →
          found ≡ first_refused line (lines_of_kind 5 (row_of values))
      load_refused mark is refused = sym (load_answer ∙ rw (← mark, ← is, refused) refl)

      pub load_checked :
          {marked : Bool} → marked ≡ first_marked row_marks → Ok tt ≡ flag_checked line marked (value values 2) →
          found ≡ numbers_checked (line + 1) (replicate 3 (pos 0)) (replicate 3 (pos 2000000)) (take 3 (drop 3 values)) → found ≡ first_refused line (lines_of_kind 5 (row_of values))
      load_checked mark passed is = is ∙ sym (load_answer ∙ rw (← mark, ← passed))

-- ---- the kind's line, and those after it

module _ (row : Row) (k line : ℕ) where
  pub kind_refused : 5 < k → refusal 6 line ≡ first_refused line (checked_line kind_field k ∷ lines_of_kind k row)
  kind_refused h = line_refused line 6 (checked_line kind_field k) (lines_of_kind k row) (kind_unknown k (omega arith)) refl

  pub kind_passed : {found : Answer} → k ≤ 5 → found ≡ first_refused (line + 1) (lines_of_kind k row) → found ≡ first_refused line (checked_line kind_field k ∷ lines_of_kind k row)
  kind_passed h is = line_passed line (checked_line kind_field k) (lines_of_kind k row) (kind_known k (omega arith)) is
