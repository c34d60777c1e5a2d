-- Laws of a number not below zero that may be marked, as its bytes are taken one by one: a mark is taken as a digit would be, and is worth 15.
use Prim.Native.Nat.{ℕ, suc, ◌+◌, ◌-◌, ◌*◌, ◌^◌, ◌≤◌, ◌<◌}
use native.Mathlib.Nat.{pow-suc, pow-le-pow_right}
use native.Mathlib.Numerals.{add-one}
use native.Mathlib.Omega.{arith}
use mathlib.Core.Bool.{Bool, true, false, cond}
use mathlib.Core.List.{List, [], ◌∷◌, ◌++◌}
use mathlib.Core.Path.{◌≡◌, refl, sym, ap, ◌∙◌}
use borrow.Author.Tests.{ltb-true, ltb-false}
use lib.Dec.{ltb}
use lib.IntN.{pos, negsuc}
use lib.ListN.{length, take, get_or, length-append, get_or-append}
use lib.Seq.{take-suc, get_or-append_seam}
use Rattle.text_line.specs.Line.{OneLine}
use Rattle.text_line.proofs.LineBytes.{one_line, one_line_append}
use Rattle.text_number.specs.Number.{value_of, digits_of, written_number}
use Rattle.text_number.specs.declared.marked.Marked.{Marked}
use Rattle.text_number.specs.Marked.{ends_in_mark, written_marked}
use Rattle.text_number.proofs.Digits.{digit_at, plain_digits}
use Rattle.text_number.proofs.WrittenDigits.{digits_line, digits_plain, digits_value, digits_within_lem, value_more, written_natural, written_below, number_some}
use Rattle.text_number.proofs.Marks.{unmarked_written, suspect_written, written_no_mark, mark_behind}

-- ---- bytes one by one

-- so many bytes were taken, of this worth
pub record BytesTaken (s : List ℕ) (i value : ℕ) : Type 0 where
  pub within : i ≤ length s
  pub worth : value ≡ value_of 0 (take i s)
  pub size : value + 2 ≤ 2 * 10 ^ i

pub taken_none : (s : List ℕ) → BytesTaken s 0 0
unfolding value_of
taken_none s = record { within = omega arith; worth = refl; size = omega arith }

pub taken_next : (s : List ℕ) (i value : ℕ) → i < length s → BytesTaken s i value → 48 ≤ get_or s i 0 → get_or s i 0 ≤ 63 → BytesTaken s (i + 1) (value * 10 + (get_or s i 0 - 48))
taken_next s i value h taken l u =
    record {
      within = omega arith;
      worth = rw (add-one, take-suc s i 0 h, taken.worth) (sym (value_more 0 (take i s) (get_or s i 0)));
      size = rw (add-one, pow-suc 10 i) (omega (arith, taken.size));
    }

-- one byte more of at most eighteen fits a machine word
pub taken_small : (s : List ℕ) (i value : ℕ) → i < length s → length s ≤ 18 → BytesTaken s i value → value < 1000000000000000000
taken_small s i value h few taken = omega (arith, taken.size, pow-le-pow_right {n = 10} (omega arith) {i = i} {j = 17} (omega arith))

-- ---- a number not below zero, as it is written with its mark

abbrev pub marked_digits : ℕ → Bool → List ℕ
marked_digits n suspect = written_marked (record { number = pos n; suspect = suspect })

module _ (n : ℕ) where
  without : marked_digits n false ≡ digits_of n
  without = unmarked_written (pos n) ∙ written_natural n

  behind : marked_digits n true ≡ digits_of n ++ (63 ∷ [])
  behind = suspect_written (pos n) ∙ ap (λ (front : List ℕ). front ++ (63 ∷ [])) (written_natural n)

  digit : (i : ℕ) → i < length (digits_of n) → (48 ≤ get_or (digits_of n) i 0) × (get_or (digits_of n) i 0 ≤ 57)
  digit i h = digit_at (digits_of n) i (plain_digits (digits_of n) (digits_plain n)) h

  one : OneLine (digits_of n)
  one = digits_line (digits_of n) (plain_digits (digits_of n) (digits_plain n))

  pub marked_one_line : (suspect : Bool) → OneLine (marked_digits n suspect)
  marked_one_line true = rw behind (one_line_append (digits_of n) (63 ∷ []) one (one_line (63 ∷ []) refl))
  marked_one_line false = rw without one

  pub marked_byte : (suspect : Bool) (i : ℕ) → i < length (marked_digits n suspect) → (48 ≤ get_or (marked_digits n suspect) i 0) × (get_or (marked_digits n suspect) i 0 ≤ 63)
  marked_byte true i h = rw behind (go (ltb i (length (digits_of n))) refl (rw behind at h))
    where
      go : (b : Bool) → ltb i (length (digits_of n)) ≡ b → i < length (digits_of n ++ (63 ∷ [])) → (48 ≤ get_or (digits_of n ++ (63 ∷ [])) i 0) × (get_or (digits_of n ++ (63 ∷ [])) i 0 ≤ 63)
      go true e h =
          let here = ltb-true i (length (digits_of n)) e in
          let d = digit i here in
          rw (get_or-append (digits_of n) (63 ∷ []) 0 i here) (d.0, omega arith)
      go false e h =
          let last : i ≡ length (digits_of n) = omega (arith, ltb-false i (length (digits_of n)) e, length-append (digits_of n) (63 ∷ [])) in
          rw (last, get_or-append_seam (digits_of n) 63 [] 0) (omega arith, omega arith)
  marked_byte false i h = rw without (let d = digit i (rw without at h) in (d.0, omega arith))

  pub marked_few : (suspect : Bool) → n ≤ 1000000000 → length (marked_digits n suspect) ≤ 11
  marked_few true h = rw behind (omega (arith, length-append (digits_of n) (63 ∷ []), digits_within_lem 9 n (omega arith)))
  marked_few false h = rw without (omega (arith, digits_within_lem 9 n (omega arith)))

  -- its worth with a mark and without one, and whether a mark ends it
  pub suspect_worth : value_of 0 (marked_digits n true) ≡ n * 10 + 15
  suspect_worth = rw (behind, value_more 0 (digits_of n) 63, digits_value n)

  pub plain_worth : value_of 0 (marked_digits n false) ≡ n
  plain_worth = rw without (digits_value n)

  pub marked_ends : (suspect : Bool) → ends_in_mark (marked_digits n suspect) ≡ suspect
  marked_ends true = rw behind (mark_behind (digits_of n)).0
  marked_ends false = rw (unmarked_written (pos n)) (written_no_mark (pos n))

-- ---- any number

pub marked_some : (m : Marked) → 0 < length (written_marked m)
unfolding written_marked
marked_some m = omega (arith, number_some m.number, length-append (written_number m.number) (cond m.suspect (63 ∷ []) []))

-- one below zero has `-` in front
pub marked_below : (n : ℕ) (suspect : Bool) → written_marked (record { number = negsuc n; suspect = suspect }) ≡ 45 ∷ marked_digits (suc n) suspect
unfolding written_marked
marked_below n suspect = rw (written_below n, written_natural (suc n))
