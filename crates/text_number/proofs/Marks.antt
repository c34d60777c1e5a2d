-- Laws of numbers that may be marked: what the reader of numbers says before a mark and without one, and the marks of several numbers.
use Prim.Native.Nat.{ℕ, zero, suc, ◌+◌, ◌-◌, ◌*◌, ◌/◌, ◌%◌, ◌^◌, ◌≤◌, ◌<◌}
use native.Mathlib.Nat.{sub-zero, pow-suc, pow-succ', mod-one}
use native.Mathlib.Omega.{arith}
use mathlib.Core.Bool.{Bool, true, false, cond}
use mathlib.Core.List.{List, [], ◌∷◌, ◌++◌, append-nil}
use mathlib.Core.Option.{none, some}
use mathlib.Core.Path.{◌≡◌, refl, sym, ap, ◌∙◌}
use borrow.Author.Tests.{eqb-true, eqb-false}
use lib.Arith.{mod-mul}
use lib.Pow.{pow_pos}
use lib.Dec.{eqb}
use lib.IntN.{ℤ}
use lib.ListN.{length, get_or, take, drop, take-append-drop, length-append, drop_of_length-le}
use lib.Seq.{take_at, drop-cons, get_or-append_seam}
use lib.Signed.{le_z}
use Rattle.std.specs.Prelude.{Result, Ok, Err}
use Rattle.text_line.specs.Judged.{good}
use Rattle.text_line.specs.Line.{value_at, value_fault}
use Rattle.text_line.specs.Field.{Field, got, refused, next_at, field_at}
use Rattle.text_line.proofs.Fields.{NoneEmpty, field_got, field_within, field_refused}
use Rattle.text_number.specs.Number.{plain, natural_of, positive, negative, number_of, in_range, ranged, number_in, number_refusal, written_number}
use Rattle.text_number.specs.Field.{judged_number}
use Rattle.text_number.specs.declared.NumberError.{NumberError}
use Rattle.text_number.specs.declared.NumberError.TheVariants as error
use Rattle.text_number.proofs.Digits.{digit_at, plain_digits}
use Rattle.text_number.proofs.WrittenDigits.{number_of_written}
use Rattle.text_number.specs.declared.marked.Marked.{Marked}
use Rattle.text_number.specs.Marked.{ends_in_mark, without_mark, plain_number, suspect_number, marked_in, judged_marked, written_marked, numbers_of, marks_of, first_marked, marked_by}
use Rattle.text_number.proofs.Fields.{number_between}
use Rattle.text_number.proofs.Numbers.{number_none}

module _ (low high : ℤ) (s : List ℕ) where
  pub marked_none : length s ≡ 0 → Err error.Malformed ≡ marked_in low high s
  unfolding marked_in
  marked_none e = go s e
    where
      go : (s : List ℕ) → length s ≡ 0 → Err error.Malformed ≡ cond (ends_in_mark s) (suspect_number (number_in low high (without_mark s))) (plain_number (number_in low high s))
      go [] e = ap plain_number (number_none low high [] refl)
      go (byte ∷ s) e = absurd (omega arith)

  pub marked_suspect : ends_in_mark s ≡ true → suspect_number (number_in low high (without_mark s)) ≡ marked_in low high s
  unfolding marked_in
  marked_suspect e = rw e

  pub marked_plain : ends_in_mark s ≡ false → plain_number (number_in low high s) ≡ marked_in low high s
  unfolding marked_in
  marked_plain e = rw e

-- ---- a mark is no part of a number

not_plain : (t : List ℕ) → get_or t (length t - 1) 0 ≡ 63 → plain t ≡ false
not_plain [] e = absurd (omega arith)
not_plain (byte ∷ rest) e = go (plain (byte ∷ rest)) refl
  where
    go : (b : Bool) → plain (byte ∷ rest) ≡ b → b ≡ false
    go true h = let d = digit_at (byte ∷ rest) (length (byte ∷ rest) - 1) (plain_digits (byte ∷ rest) h) (omega arith) in absurd (omega (arith, d.1))
    go false h = refl

-- bytes that end in a mark are no number
pub mark_no_number : (s : List ℕ) → ends_in_mark s ≡ true → number_of s ≡ none
unfolding number_of
mark_no_number [] e = refl
mark_no_number (byte ∷ rest) e = go (eqb byte 45) refl rest (eqb-true (get_or (byte ∷ rest) (length (byte ∷ rest) - 1) 0) 63 e)
  where
    go : (b : Bool) → eqb byte 45 ≡ b → (rest : List ℕ) → get_or (byte ∷ rest) (length (byte ∷ rest) - 1) 0 ≡ 63 → cond b (negative (natural_of rest)) (positive (natural_of (byte ∷ rest))) ≡ none
    go true h [] last = absurd (omega (arith, eqb-true byte 45 h))
    go true h (next ∷ more) last =
        let n : length (byte ∷ (next ∷ more)) - 1 ≡ suc (length (next ∷ more) - 1) = omega arith in
        rw (not_plain (next ∷ more) (rw n at last))
    go false h rest last = rw (not_plain (byte ∷ rest) last)

pub written_no_mark : (z : ℤ) → ends_in_mark (written_number z) ≡ false
written_no_mark z = go (ends_in_mark (written_number z)) refl
  where
    go : (b : Bool) → ends_in_mark (written_number z) ≡ b → b ≡ false
    go true h = let n : some z ≡ none = sym (number_of_written z) ∙ mark_no_number (written_number z) h in cc
    go false h = refl

-- ---- bytes with a mark behind them

pub mark_behind : (s : List ℕ) → (ends_in_mark (s ++ (63 ∷ [])) ≡ true) × (without_mark (s ++ (63 ∷ [])) ≡ s)
mark_behind s =
    let long : length (s ++ (63 ∷ [])) ≡ length s + 1 = length-append s (63 ∷ []) in
    let last : length (s ++ (63 ∷ [])) - 1 ≡ length s = omega arith in
    (rw (last, get_or-append_seam s 63 [] 0), rw (last, sub-zero) (take_at s (63 ∷ []) (length s) refl))

pub mark_last : (s : List ℕ) → ends_in_mark s ≡ true → without_mark s ++ (63 ∷ []) ≡ s
mark_last [] e = absurd (omega (arith, eqb-true 0 63 e))
mark_last (byte ∷ rest) e =
    let s : List ℕ = byte ∷ rest in
    let n : ℕ = length s - 1 in
    let here : get_or s n 0 ≡ 63 = eqb-true (get_or s n 0) 63 e in
    let cut : drop n s ≡ 63 ∷ drop (suc n) s = rw (← here) (drop-cons s n 0 (omega arith)) in
    let over : drop (suc n) s ≡ [] = drop_of_length-le s {i = suc n} (omega arith) in
    rw (← over, ← cut, sub-zero) (take-append-drop n s)

-- ---- what a value gives with a mark and without one

judged-value : (n : Result ℤ NumberError) {z : ℤ} → judged_number n ≡ good z → n ≡ Ok z
judged-value (Ok y) {z} e = let same : y ≡ z = cc in ap Ok same
judged-value (Err why) e = let n : ◌≡◌ {A = ℕ} 0 1 = cc in absurd (omega arith)

-- a number that is taken without a mark, and one with a mark
pub plain_value : (n : Result ℤ NumberError) {m : Marked} → judged_marked (plain_number n) ≡ good m → (n ≡ Ok m.number) × (m.suspect ≡ false)
plain_value (Ok y) {m} e = let same : m ≡ record { number = y; suspect = false } = cc in (rw same, rw same)
plain_value (Err why) e = let n : ◌≡◌ {A = ℕ} 0 1 = cc in absurd (omega arith)

pub suspect_value : (n : Result ℤ NumberError) {m : Marked} → judged_marked (suspect_number n) ≡ good m → (n ≡ Ok m.number) × (m.suspect ≡ true)
suspect_value (Ok y) {m} e = let same : m ≡ record { number = y; suspect = true } = cc in (rw same, rw same)
suspect_value (Err why) e = let n : ◌≡◌ {A = ℕ} 0 1 = cc in absurd (omega arith)

module _ (low high : ℤ) (bytes : List ℕ) where
  -- what the reader of numbers takes is taken without a mark, in a line where a mark may stand and in one where none may
  pub plain-judged : {z : ℤ} → judged_number (number_in low high bytes) ≡ good z → judged_marked (plain_number (number_in low high bytes)) ≡ good (record { number = z; suspect = false })
  plain-judged {z} e = rw (judged-value (number_in low high bytes) e)

  pub plain_taken : {z : ℤ} → judged_number (number_in low high bytes) ≡ good z → judged_marked (marked_in low high bytes) ≡ good (record { number = z; suspect = false })
  plain_taken {z} e = go (ends_in_mark bytes) refl
    where
      go : (b : Bool) → ends_in_mark bytes ≡ b → judged_marked (marked_in low high bytes) ≡ good (record { number = z; suspect = false })
      go true h =
          let none_read : ◌≡◌ {A = Result ℤ NumberError} (Err error.Malformed) (Ok z) = sym (ap (ranged low high) (mark_no_number bytes h)) ∙ judged-value (number_in low high bytes) e in
          let n : ◌≡◌ {A = ℕ} 0 1 = cc in
          absurd (omega arith)
      go false h = ap judged_marked (sym (marked_plain low high bytes h)) ∙ plain-judged e

-- ---- as it is written

-- without a mark, as a number alone
pub unmarked_written : (z : ℤ) → written_marked (record { number = z; suspect = false }) ≡ written_number z
unfolding written_marked
unmarked_written z = append-nil (written_number z)

pub suspect_written : (z : ℤ) → written_marked (record { number = z; suspect = true }) ≡ written_number z ++ (63 ∷ [])
unfolding written_marked
suspect_written z = refl

-- what is read of it
pub plain_reads : (low high z : ℤ) → marked_in low high (written_number z) ≡ plain_number (in_range low high z)
plain_reads low high z = sym (marked_plain low high (written_number z) (written_no_mark z)) ∙ rw (number_of_written z)

pub suspect_reads : (low high z : ℤ) → marked_in low high (written_number z ++ (63 ∷ [])) ≡ suspect_number (in_range low high z)
suspect_reads low high z =
    let behind = mark_behind (written_number z) in
    sym (marked_suspect low high (written_number z ++ (63 ∷ [])) behind.0) ∙ rw (behind.1, number_of_written z)

-- ---- a line by what a reader says of its value

abbrev pub as_field : List ℕ → (List ℕ → Result Marked NumberError) → Field Marked
as_field key reader = record { key = key; read = λ value. judged_marked (reader value); write = written_marked }

module _ (key text : List ℕ) (at : ℕ) (reader : List ℕ → Result Marked NumberError) (empty : reader [] ≡ Err error.Malformed) {value : List ℕ} {n : Result Marked NumberError} (same : value ≡ value_at key text at) (is : n ≡ reader value) where
  judged_is : {said : Result Marked NumberError} → n ≡ said → judged_marked (reader (value_at key text at)) ≡ judged_marked said
  judged_is told = ap judged_marked (ap reader (sym same) ∙ sym is ∙ told)

  none_empty : NoneEmpty (as_field key reader)
  none_empty m e = let none_read : judged_marked (Err error.Malformed) ≡ good m = ap judged_marked (sym empty) ∙ e in let z : ◌≡◌ {A = ℕ} 0 1 = cc in omega arith

  pub marked_got : {m : Marked} → judged_marked n ≡ good m → got m (next_at at key value) ≡ field_at (as_field key reader) text at
  marked_got told = rw same (field_got (as_field key reader) text at none_empty (judged_is refl ∙ told))

  pub marked_within : {m : Marked} → judged_marked n ≡ good m → next_at at key value ≤ length text
  marked_within told = rw same (field_within (as_field key reader) text at none_empty (judged_is refl ∙ told)).0

  pub marked_turned : (number_refusal n ≡ 0 → ⊥) → refused (value_fault key text at (number_refusal n)) ≡ field_at (as_field key reader) text at
  marked_turned not_taken = go n refl
    where
      go : (said : Result Marked NumberError) → n ≡ said → refused (value_fault key text at (number_refusal n)) ≡ field_at (as_field key reader) text at
      go (Ok m) told = absurd (not_taken (rw told refl))
      go (Err why) told = rw told (field_refused (as_field key reader) text at (judged_is told))

-- ---- a number that was read lies within its bounds

module _ (low high : ℤ) (bytes : List ℕ) (m : Marked) where
  value_between : (n : List ℕ) → number_in low high n ≡ Ok m.number → (le_z low m.number ≡ true) × (le_z m.number high ≡ true)
  value_between n e = number_between low high m.number n (ap judged_number e)

  pub unmarked_between : judged_marked (plain_number (number_in low high bytes)) ≡ good m → (le_z low m.number ≡ true) × (le_z m.number high ≡ true)
  unmarked_between e = value_between bytes (plain_value (number_in low high bytes) e).0

  pub marked_between : judged_marked (marked_in low high bytes) ≡ good m → (le_z low m.number ≡ true) × (le_z m.number high ≡ true)
  marked_between e = go (ends_in_mark bytes) refl
    where
      go : (b : Bool) → ends_in_mark bytes ≡ b → (le_z low m.number ≡ true) × (le_z m.number high ≡ true)
      go true h = value_between (without_mark bytes) (suspect_value (number_in low high (without_mark bytes)) (ap judged_marked (marked_suspect low high bytes h) ∙ e)).0
      go false h = unmarked_between (ap judged_marked (marked_plain low high bytes h) ∙ e)

-- ---- the marks of several numbers

pub marks_none : marks_of [] ≡ 0
unfolding marks_of
marks_none = refl

pub marks_first : (m : Marked) (values : List Marked) → marks_of (m ∷ values) ≡ cond m.suspect 1 0 + 2 * marks_of values
unfolding marks_of
marks_first m values = refl

-- one number more has the next power of two
pub marks_last : (values : List Marked) (m : Marked) → marks_of (values ++ (m ∷ [])) ≡ marks_of values + cond m.suspect (2 ^ length values) 0
unfolding marks_of
marks_last [] m = go m.suspect
  where
    go : (b : Bool) → cond b 1 0 + 2 * 0 ≡ 0 + cond b (2 ^ 0) 0
    go true = refl
    go false = refl
marks_last (one ∷ values) m = go m.suspect (cond one.suspect 1 0) (marks_last values m)
  where
    go : (b : Bool) (first : ℕ) → marks_of (values ++ (m ∷ [])) ≡ marks_of values + cond b (2 ^ length values) 0 → first + 2 * marks_of (values ++ (m ∷ [])) ≡ (first + 2 * marks_of values) + cond b (2 ^ suc (length values)) 0
    go true first e = let double : 2 ^ suc (length values) ≡ 2 * 2 ^ length values = pow-succ' 2 (length values) in omega (arith, e, double)
    go false first e = omega (arith, e)

pub marks_few : (values : List Marked) → marks_of values < 2 ^ length values
unfolding marks_of
marks_few [] = omega arith
marks_few (m ∷ values) = go m.suspect (marks_few values)
  where
    go : (b : Bool) → marks_of values < 2 ^ length values → cond b 1 0 + 2 * marks_of values < 2 ^ suc (length values)
    go true h = let double : 2 ^ suc (length values) ≡ 2 * 2 ^ length values = pow-succ' 2 (length values) in omega (arith, h, double)
    go false h = let double : 2 ^ suc (length values) ≡ 2 * 2 ^ length values = pow-succ' 2 (length values) in omega (arith, h, double)

-- ---- numbers with their marks

pub by_none : (marks : ℕ) → marked_by marks [] ≡ []
unfolding marked_by
by_none marks = refl

pub by_first : (marks : ℕ) (z : ℤ) (numbers : List ℤ) → marked_by marks (z ∷ numbers) ≡ record { number = z; suspect = first_marked marks } ∷ marked_by (marks / 2) numbers
unfolding marked_by
by_first marks z numbers = refl

-- without marks
pub by_unmarked : (z : ℤ) (numbers : List ℤ) → marked_by 0 (z ∷ numbers) ≡ record { number = z; suspect = false } ∷ marked_by 0 numbers
unfolding marked_by
by_unmarked z numbers = refl

pub by_no_marks : (numbers : List ℤ) → marks_of (marked_by 0 numbers) ≡ 0
by_no_marks [] = rw (by_none 0) marks_none
by_no_marks (z ∷ numbers) = rw (by_unmarked z numbers, marks_first (record { number = z; suspect = false }) (marked_by 0 numbers), by_no_marks numbers)

pub by_length : (marks : ℕ) (numbers : List ℤ) → length (marked_by marks numbers) ≡ length numbers
unfolding marked_by
by_length marks [] = refl
by_length marks (z ∷ numbers) = ap suc (by_length (marks / 2) numbers)

odd : (n : ℕ) → cond (first_marked n) 1 0 ≡ n % 2
odd n = go (eqb (n % 2) 1) refl
  where
    go : (b : Bool) → eqb (n % 2) 1 ≡ b → cond b 1 0 ≡ n % 2
    go true h = sym (eqb-true (n % 2) 1 h)
    go false h = let other = eqb-false (n % 2) 1 h in omega arith

-- the first of them
pub by_take : (n marks : ℕ) (numbers : List ℤ) → take n (marked_by marks numbers) ≡ marked_by marks (take n numbers)
unfolding marked_by
by_take zero marks numbers = refl
by_take (suc n) marks [] = refl
by_take (suc n) marks (z ∷ numbers) = rw (by_take n (marks / 2) numbers)

-- the numbers are those, and the marks those of so many numbers
pub by_numbers : (marks : ℕ) (numbers : List ℤ) → numbers_of (marked_by marks numbers) ≡ numbers
unfolding marked_by
by_numbers marks [] = refl
by_numbers marks (z ∷ numbers) = rw (by_numbers (marks / 2) numbers)

pub by_marks : (marks : ℕ) (numbers : List ℤ) → marks_of (marked_by marks numbers) ≡ marks % 2 ^ length numbers
unfolding marked_by marks_of
by_marks marks [] = sym (mod-one marks)
by_marks marks (z ∷ numbers) =
    let whole : marks % 2 ^ suc (length numbers) ≡ (marks / 2 % 2 ^ length numbers) * 2 + marks % 2 = rw (pow-suc 2 (length numbers)) (mod-mul marks (pow_pos (length numbers)) (omega arith)) in
    let first : cond (first_marked marks) 1 0 ≡ marks % 2 = odd marks in
    omega (arith, whole, first, by_marks (marks / 2) numbers)

-- and both come back
pub marked_again : (values : List Marked) → marked_by (marks_of values) (numbers_of values) ≡ values
unfolding marked_by marks_of
marked_again [] = refl
marked_again (m ∷ values) = go m.suspect refl (marked_again values)
  where
    go :
        (b : Bool) → m.suspect ≡ b → marked_by (marks_of values) (numbers_of values) ≡ values →
        record { number = m.number; suspect = first_marked (cond b 1 0 + 2 * marks_of values) } ∷ marked_by ((cond b 1 0 + 2 * marks_of values) / 2) (numbers_of values) ≡ m ∷ values
    go true h again =
        let odd : (1 + 2 * marks_of values) % 2 ≡ 1 = omega arith in
        let half : (1 + 2 * marks_of values) / 2 ≡ marks_of values = omega arith in
        rw (odd, half, again, ← h)
    go false h again =
        let even : (0 + 2 * marks_of values) % 2 ≡ 0 = omega arith in
        let half : (0 + 2 * marks_of values) / 2 ≡ marks_of values = omega arith in
        rw (even, half, again, ← h)
