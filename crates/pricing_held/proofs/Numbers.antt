-- Numbers one after the other, each within its range or refused by 7: over any schema.
use Prim.Native.Nat.{ℕ, suc, ◌+◌, ◌/◌, ◌≤◌, ◌<◌}
use native.Mathlib.Nat.{add-zero}
use native.Mathlib.Numerals.{add-one}
use native.Mathlib.Omega.{arith}
use mathlib.Core.Bool.{Bool, true, false, ◌&&◌, cond}
use mathlib.Core.List.{List, [], ◌∷◌, ◌++◌, append-nil}
use mathlib.Core.Path.{◌≡◌, refl, sym, ap, ◌∙◌}
use lib.IntN.{ℤ, pos}
use lib.ListN.{length, drop, get_or, drop_of_length-le}
use lib.Seq.{drop-cons}
use lib.Signed.{le_z}
use Rattle.std.specs.Prelude.{Ok, Err}
use Rattle.integer.specs.Range.{within}
use Rattle.text_refusal.specs.Answer.{Answer, refusal, followed_by}
use Rattle.text_line.specs.Field.{Field}
use Rattle.text_number.specs.declared.marked.Marked.{Marked}
use Rattle.text_number.specs.Marked.{marked_field, first_marked, marked_by}
use Rattle.text_number.proofs.Marks.{by_first}
use Rattle.text_schema.specs.Checked.{checked_line, checked_lines, first_refused}
use Rattle.text_schema.proofs.Checked.{checked_none, checked_first, first_none, first_passed, first_here}
use Rattle.text_schema.proofs.Marks.{EachMarked, no_marked_lem, one_marked, marks_after, marked_checked, unmarked_checked}
use Rattle.pricing_resource_text.specs.Resource.{flag}
use Rattle.pricing_held.specs.internal.Checks.{numbers_checked, flag_checked}

-- ---- one after the other

pub record NumbersFrom (line : ℕ) (lows highs values : List ℤ) (i : ℕ) : Type 0 where
  pub lows_long : length values ≡ length lows
  pub highs_long : length values ≡ length highs
  pub rest : numbers_checked line lows highs values ≡ numbers_checked (line + i) (drop i lows) (drop i highs) (drop i values)

pub numbers_start : {line : ℕ} {lows highs values : List ℤ} → length values ≡ length lows → length values ≡ length highs → NumbersFrom line lows highs values 0
numbers_start {line} l h = record { lows_long = l; highs_long = h; rest = rw (add-zero line) }

module _ {line : ℕ} {lows highs values : List ℤ} {i : ℕ} (so_far : NumbersFrom line lows highs values i) where
  numbers_due : i < length values →
      numbers_checked line lows highs values ≡
      cond (within (get_or lows i (pos 0)) (get_or highs i (pos 0)) (get_or values i (pos 0)))
      (numbers_checked (suc (line + i)) (drop (suc i) lows) (drop (suc i) highs) (drop (suc i) values))
      (refusal 7 (line + i))
  unfolding numbers_checked
  numbers_due h =
      rw (so_far.rest, drop-cons lows i (pos 0) (omega (arith, so_far.lows_long)), drop-cons highs i (pos 0) (omega (arith, so_far.highs_long)), drop-cons values i (pos 0) h)

  pub numbers_outside : i < length values → within (get_or lows i (pos 0)) (get_or highs i (pos 0)) (get_or values i (pos 0)) ≡ false → refusal 7 (line + i) ≡ numbers_checked line lows highs values
  numbers_outside h out = rw (numbers_due h, out)

  pub numbers_more : i < length values → within (get_or lows i (pos 0)) (get_or highs i (pos 0)) (get_or values i (pos 0)) ≡ true → NumbersFrom line lows highs values (i + 1)
  numbers_more h inside =
      let place : suc (line + i) ≡ line + suc i = omega arith in
      record { lows_long = so_far.lows_long; highs_long = so_far.highs_long; rest = rw (numbers_due h, inside, add-one i, place) }

  pub numbers_over : length values ≤ i → Ok tt ≡ numbers_checked line lows highs values
  unfolding numbers_checked
  numbers_over h = rw (so_far.rest, drop_of_length-le values {i = i} h)

-- ---- by a schema

-- lines that may be marked, with others behind them: a mark refuses none
pub marked_by_schema :
    {fields : List (Field Marked)} {lows highs : List ℤ} → EachMarked fields lows highs → (rest : List (Field Marked)) (line marks : ℕ) (numbers others : List ℤ) → length numbers ≡ length lows →
    first_refused line (checked_lines (fields ++ rest) (marked_by marks (numbers ++ others))) ≡
    followed_by (numbers_checked line lows highs numbers) (first_refused (line + length lows) (checked_lines rest (marked_by (marks_after (length lows) marks) others)))
unfolding numbers_checked
marked_by_schema no_marked_lem rest line marks [] others e = rw (add-zero line)
marked_by_schema no_marked_lem rest line marks (z ∷ numbers) others e = absurd (omega arith)
marked_by_schema (one_marked more) rest line marks [] others e = absurd (omega arith)
marked_by_schema (one_marked {key} {low} {high} {fields} {lows} {highs} more) rest line marks (z ∷ numbers) others e =
    let m : Marked = record { number = z; suspect = first_marked marks } in
    rw (by_first marks z (numbers ++ others), checked_first (marked_field key low high) (fields ++ rest) m (marked_by (marks / 2) (numbers ++ others)))
    (go (le_z low z && le_z z high) (marked_checked key low high m) (marked_by_schema more rest (suc line) (marks / 2) numbers others (omega arith)))
  where
    go : (b : Bool) → (checked_line (marked_field key low high) (record { number = z; suspect = first_marked marks })).number ≡ cond b 0 7 →
        first_refused (suc line) (checked_lines (fields ++ rest) (marked_by (marks / 2) (numbers ++ others))) ≡
        followed_by (numbers_checked (suc line) lows highs numbers) (first_refused (suc line + length lows) (checked_lines rest (marked_by (marks_after (length lows) (marks / 2)) others))) →
        first_refused line (checked_line (marked_field key low high) (record { number = z; suspect = first_marked marks }) ∷ checked_lines (fields ++ rest) (marked_by (marks / 2) (numbers ++ others))) ≡
        followed_by (cond b (numbers_checked (suc line) lows highs numbers) (refusal 7 line)) (first_refused (line + suc (length lows)) (checked_lines rest (marked_by (marks_after (length lows) (marks / 2)) others)))
    go true n again =
        let place : line + suc (length lows) ≡ suc line + length lows = omega arith in
        first_passed line (checked_line (marked_field key low high) (record { number = z; suspect = first_marked marks })) (checked_lines (fields ++ rest) (marked_by (marks / 2) (numbers ++ others))) n ∙ rw place again
    go false n again =
        first_here line (checked_line (marked_field key low high) (record { number = z; suspect = first_marked marks })) (checked_lines (fields ++ rest) (marked_by (marks / 2) (numbers ++ others))) (rw n) ∙ ap (λ (number : ℕ). refusal number line) n

-- none behind them
pub marked_alone :
    {fields : List (Field Marked)} {lows highs : List ℤ} → EachMarked fields lows highs → (line marks : ℕ) (numbers others : List ℤ) → length numbers ≡ length lows →
    first_refused line (checked_lines fields (marked_by marks (numbers ++ others))) ≡ numbers_checked line lows highs numbers
marked_alone {fields} {lows} {highs} lines line marks numbers others e =
    ap (λ (all : List (Field Marked)). first_refused line (checked_lines all (marked_by marks (numbers ++ others)))) (sym (append-nil fields))
    ∙ marked_by_schema lines [] line marks numbers others e
    ∙ rw (checked_none {A = Marked} (marked_by (marks_after (length lows) marks) others), first_none (line + length lows)) (go (numbers_checked line lows highs numbers))
  where
    go : (found : Answer) → followed_by found (Ok tt) ≡ found
    go (Ok tt) = refl
    go (Err found) = refl

-- a flag before others: a mark refuses it
pub flag_by_schema :
    (key : List ℕ) (rest : List (Field Marked)) (line marks : ℕ) (z : ℤ) (others : List ℤ) →
    first_refused line (checked_lines (flag key ∷ rest) (marked_by marks (z ∷ others))) ≡
    followed_by (flag_checked line (first_marked marks) z) (first_refused (line + 1) (checked_lines rest (marked_by (marks / 2) others)))
flag_by_schema key rest line marks z others =
    let m : Marked = record { number = z; suspect = first_marked marks } in
    rw (by_first marks z others, checked_first (flag key) rest m (marked_by (marks / 2) others), add-one line)
    (go (first_marked marks) (le_z (pos 0) z && le_z z (pos 1)) (unmarked_checked key (pos 0) (pos 1) m))
  where
    go : (b inside : Bool) → (checked_line (flag key) (record { number = z; suspect = first_marked marks })).number ≡ cond b 6 (cond inside 0 7) →
        first_refused line (checked_line (flag key) (record { number = z; suspect = first_marked marks }) ∷ checked_lines rest (marked_by (marks / 2) others)) ≡
        followed_by (cond b (refusal 6 line) (cond inside (Ok tt) (refusal 7 line))) (first_refused (suc line) (checked_lines rest (marked_by (marks / 2) others)))
    go true inside n = first_here line (checked_line (flag key) (record { number = z; suspect = first_marked marks })) (checked_lines rest (marked_by (marks / 2) others)) (rw n) ∙ ap (λ (number : ℕ). refusal number line) n
    go false true n = first_passed line (checked_line (flag key) (record { number = z; suspect = first_marked marks })) (checked_lines rest (marked_by (marks / 2) others)) n
    go false false n = first_here line (checked_line (flag key) (record { number = z; suspect = first_marked marks })) (checked_lines rest (marked_by (marks / 2) others)) (rw n) ∙ ap (λ (number : ℕ). refusal number line) n
