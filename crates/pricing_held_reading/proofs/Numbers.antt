-- Laws of numbers that stand in a text: the sign in front of the digits, and the marks of several numbers.
use Prim.Native.Nat.{ℕ, zero, suc, ◌+◌, ◌-◌, ◌*◌, ◌≤◌, ◌<◌, ◌^◌}
use native.Mathlib.Nat.{pow-suc, pow-le-pow_right}
use native.Mathlib.Numerals.{add-one}
use native.Mathlib.Omega.{arith}
use mathlib.Core.Bool.{cond}
use mathlib.Core.List.{List, [], ◌∷◌, ◌++◌, append_assoc, append-nil}
use mathlib.Core.Path.{◌≡◌, refl, sym, ap, ◌∙◌}
use lib.Dec.{lit<}
use lib.IntN.{ℤ, pos, negsuc, nat_abs, ◌-ℤ◌}
use lib.ListN.{length, take, drop, get_or, set, drop_of_length-le, length-map, get_or-map}
use lib.Seq.{drop-cons, take-suc, set_at, take_all, length-take-le}
use borrow.Author.Tests.{le-leb}
use mir.Syntax.{w64}
use mir.Val.{SFits}
use Rattle.text_number.specs.declared.marked.Marked.{Marked}
use Rattle.text_number.specs.Marked.{written_marked, numbers_of, marks_of}
use Rattle.text_number.proofs.Marks.{marks_none, marks_last, marks_few}
use Rattle.text_number.proofs.MarkedDigits.{marked_digits, marked_byte, marked_some, marked_below}
use Rattle.text_schema.proofs.Marks.{no_marked}
use Rattle.pricing_held_reading.specs.internal.Laying.{Stands, DigitsStand, NumberStands, NumbersStand}
use Rattle.pricing_held_reading.proofs.Standing.{stands_within, first_at, stands_behind}

zero_minus : (n : ℕ) → pos 0 -ℤ pos (suc n) ≡ negsuc n
zero_minus n = let less : suc n - 1 ≡ n = omega arith in rw (le-leb 1 (suc n) (omega arith), less)

pub minus_fits : (n : ℕ) → n < 2 ^ 63 → SFits w64 (pos 0 -ℤ pos n)
minus_fits zero h = record { sfits = lit< tt }
minus_fits (suc n) h = rw (zero_minus n) (record { sfits = omega arith })

-- a number with `-` in front, and without
module _ {text : List ℕ} {at next : ℕ} (m : Marked) (number : NumberStands text at m next) where
  pub number_below : get_or text at 0 ≡ 45 → DigitsStand text (at + 1) (nat_abs m.number) m.suspect next × (m.number ≡ pos 0 -ℤ pos (nat_abs m.number))
  number_below sign = go m.number number.small number.stands
    where
      go : (z : ℤ) → nat_abs z ≤ 1000000000 → Stands text at (written_marked (record { number = z; suspect = m.suspect })) next → DigitsStand text (at + 1) (nat_abs z) m.suspect next × (z ≡ pos 0 -ℤ pos (nat_abs z))
      go (pos n) small stands =
          let some = marked_some (record { number = pos n; suspect = m.suspect }) in
          absurd (omega (arith, sign, first_at stands some, (marked_byte n m.suspect 0 some).0))
      go (negsuc n) small stands =
          let signed : Stands text at (45 ∷ marked_digits (suc n) m.suspect) next = rw (marked_below n m.suspect) at stands in
          (record { small = small; stands = stands_behind (45 ∷ []) (marked_digits (suc n) m.suspect) signed }, sym (zero_minus n))

  pub number_from_zero : (get_or text at 0 ≡ 45 → ⊥) → DigitsStand text at (nat_abs m.number) m.suspect next × (m.number ≡ pos (nat_abs m.number))
  number_from_zero sign = go m.number number.small number.stands
    where
      go : (z : ℤ) → nat_abs z ≤ 1000000000 → Stands text at (written_marked (record { number = z; suspect = m.suspect })) next → DigitsStand text at (nat_abs z) m.suspect next × (z ≡ pos (nat_abs z))
      go (pos n) small stands = (record { small = small; stands = stands }, refl)
      go (negsuc n) small stands =
          let signed : Stands text at (45 ∷ marked_digits (suc n) m.suspect) next = rw (marked_below n m.suspect) at stands in
          absurd (sign (first_at signed (omega arith)))

pub number_inside : {text : List ℕ} {at : ℕ} {m : Marked} {next : ℕ} → NumberStands text at m next → at + 2 ≤ length text
number_inside {m = m} number = omega (arith, number.stands.next_is, stands_within number.stands, marked_some m)

-- ---- numbers one after the other, of which so many were laid

numbers_long : (text : List ℕ) (at : ℕ) (sizes : List ℕ) (values : List Marked) (last : ℕ) → NumbersStand text at sizes values last → length values ≡ length sizes
numbers_long text at [] [] last stand = refl
numbers_long text at [] (m ∷ values) last stand = absurd stand
numbers_long text at (size ∷ sizes) [] last stand = absurd stand
numbers_long text at (size ∷ sizes) (m ∷ values) last stand = ap suc (numbers_long text stand.0 sizes values last stand.2)

pub numbers_inside : (text : List ℕ) (at size : ℕ) (sizes : List ℕ) (values : List Marked) (last : ℕ) → NumbersStand text at (size ∷ sizes) values last → at + size + 2 ≤ length text
numbers_inside text at size sizes [] last stand = absurd stand
numbers_inside text at size sizes (m ∷ values) last stand = number_inside stand.1

-- the marks of eight numbers at most
few_marks : (values : List Marked) → length values ≤ 8 → marks_of values < 256
few_marks values few = omega (arith, marks_few values, pow-le-pow_right {n = 2} (omega arith) {i = length values} {j = 8} few)

module _ (text : List ℕ) (at : ℕ) (sizes : List ℕ) (values : List Marked) (last : ℕ) (stand : NumbersStand text at sizes values last) where
  pub numbers_counted : length (numbers_of values) ≡ length sizes
  numbers_counted = length-map values (λ (m : Marked). m.number) ∙ numbers_long text at sizes values last stand

  pub marks_fit : length sizes ≤ 8 → marks_of values < 256
  marks_fit few = few_marks values (omega (arith, numbers_long text at sizes values last stand))

-- `mark` is that of the number that is due
pub record NumbersLaidFrom (text sizes : List ℕ) (values : List Marked) (places row : List ℤ) (last next marks mark i : ℕ) : Type 0 where
  pub counted : length values ≡ length sizes
  pub rest : NumbersStand text next (drop i sizes) (drop i values) last
  pub laid : row ≡ take i (numbers_of values) ++ drop i places
  pub marked : marks ≡ marks_of (take i values)
  pub due : mark ≡ 2 ^ i

pub numbers_laid_none : (text : List ℕ) (at : ℕ) (sizes : List ℕ) (values : List Marked) (places : List ℤ) (last : ℕ) → NumbersStand text at sizes values last → NumbersLaidFrom text sizes values places places last at 0 1 0
numbers_laid_none text at sizes values places last stand =
    record { counted = numbers_long text at sizes values last stand; rest = stand; laid = refl; marked = sym marks_none; due = refl }

module _ {text sizes : List ℕ} {values : List Marked} {places row : List ℤ} {last next marks mark i : ℕ} (so_far : NumbersLaidFrom text sizes values places row last next marks mark i) where
  -- the next number
  module _ (h : i < length sizes) where
    pub number_due : (after : ℕ) × NumberStands text (next + get_or sizes i 0) (get_or values i no_marked) after × NumbersStand text after (drop (suc i) sizes) (drop (suc i) values) last
    number_due = rw (drop-cons sizes i 0 h, drop-cons values i no_marked (omega (arith, so_far.counted))) at so_far.rest

    -- its mark is added where it is suspect
    marks_more : marks + cond (get_or values i no_marked).suspect mark 0 ≡ marks_of (take (i + 1) values)
    marks_more =
        let within : i < length values = omega (arith, so_far.counted) in
        let long : length (take i values) ≡ i = length-take-le i values (omega arith) in
        rw (so_far.marked, so_far.due, add-one i, take-suc values i no_marked within) (sym (marks_last (take i values) (get_or values i no_marked) ∙ rw long))

    pub numbers_laid_more :
        {after marks' : ℕ} {z : ℤ} → i < length places → after ≡ number_due.0 → z ≡ (get_or values i no_marked).number → marks' ≡ marks + cond (get_or values i no_marked).suspect mark 0 →
        NumbersLaidFrom text sizes values places (set row i z) last after marks' (mark * 2) (i + 1)
    numbers_laid_more room after_is is sum =
        let within : i < length (numbers_of values) = omega (arith, so_far.counted, length-map values (λ (m : Marked). m.number)) in
        let z_is = is ∙ sym (get_or-map (λ (m : Marked). m.number) values i no_marked) in
        record {
          counted = so_far.counted;
          rest = rw (after_is, add-one i) number_due.2;
          laid =
              rw (
                z_is,
                so_far.laid,
                drop-cons places i (pos 0) room,
                set_at (take i (numbers_of values)) (get_or places i (pos 0)) (drop (suc i) places) (get_or (numbers_of values) i (pos 0)) i (length-take-le i (numbers_of values) (omega arith)),
                add-one i,
                take-suc (numbers_of values) i (pos 0) within,
                append_assoc,
              );
          marked = sum ∙ marks_more;
          due = rw (add-one i, pow-suc 2 i, so_far.due);
        }

  pub marks_small : i ≤ length sizes → length sizes ≤ 8 → (marks < 256) × (mark ≤ 256)
  marks_small h few =
      let long : length (take i values) ≡ i = length-take-le i values (omega (arith, so_far.counted)) in (
        omega (arith, so_far.marked, few_marks (take i values) (omega arith)),
        omega (arith, so_far.due, pow-le-pow_right {n = 2} (omega arith) {i = i} {j = 8} (omega arith)),
      )

  pub numbers_laid_all : length sizes ≤ i → length places ≤ i → (next ≡ last) × (marks ≡ marks_of values) × (row ≡ numbers_of values)
  numbers_laid_all over full = (
    rw (drop_of_length-le sizes {i = i} over, drop_of_length-le values {i = i} (omega (arith, so_far.counted))) at so_far.rest,
    so_far.marked ∙ rw (take_all i values (omega (arith, so_far.counted))),
    so_far.laid ∙ rw (take_all i (numbers_of values) (omega (arith, so_far.counted, length-map values (λ (m : Marked). m.number))), drop_of_length-le places {i = i} full) (append-nil (numbers_of values)),
  )
