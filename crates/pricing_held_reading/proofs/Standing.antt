-- Laws of bytes that stand at a position, ended by byte 10: each of them, and where they end.
use Prim.Native.Nat.{ℕ, zero, suc, ◌+◌, ◌-◌, ◌*◌, ◌≤◌, ◌<◌}
use native.Mathlib.Nat.{add-zero}
use native.Mathlib.Omega.{arith}
use mathlib.Core.Bool.{Bool, true, false}
use mathlib.Core.List.{List, [], ◌∷◌, ◌++◌, append_assoc}
use mathlib.Core.Path.{◌≡◌, refl, sym, ap, ◌∙◌}
use lib.Dec.{eqb, ltb}
use lib.IntN.{pos}
use lib.ListN.{length, drop, get_or, length-append, length-drop, get_or-append}
use lib.Seq.{get_or-drop, get_or-append_seam, drop-drop, drop-append_seam, take_all}
use borrow.Author.Tests.{ltb-true, ltb-false, eqb-false, eq-eqb, ne_eqb}
use Rattle.text_line.specs.Line.{OneLine}
use Rattle.text_line.specs.Field.{Field, got, field_at}
use Rattle.text_line.proofs.FieldTexts.{field_read}
use Rattle.text_line.proofs.LineBytes.{one_line_rest}
use Rattle.text_number.specs.Number.{value_of}
use Rattle.text_number.proofs.MarkedDigits.{BytesTaken, taken_none, taken_next, taken_small, marked_digits, marked_one_line, marked_byte, marked_few, suspect_worth, plain_worth, marked_ends, marked_some}
use Rattle.pricing_held_reading.specs.internal.Laying.{Stands, DigitsStand}

-- one line has no byte 10
other_than_ten : (bytes : List ℕ) (i : ℕ) → OneLine bytes → i < length bytes → get_or bytes i 0 ≡ 10 → ⊥
other_than_ten [] i line h e = omega arith
other_than_ten (byte ∷ bytes) zero line h e = eqb-false byte 10 (one_line_rest byte bytes line).0 e
other_than_ten (byte ∷ bytes) (suc i) line h e = other_than_ten bytes i (one_line_rest byte bytes line).1 (omega arith) e

module _ {text : List ℕ} {at : ℕ} {bytes : List ℕ} {next : ℕ} (stands : Stands text at bytes next) where
  pub stands_within : next ≤ length text
  stands_within =
      omega (arith, stands.next_is, length-drop at text, ap length stands.there, length-append bytes (10 ∷ drop next text))

  -- the bytes with their byte 10
  pub ended_at : (i : ℕ) → i ≤ length bytes → get_or text (at + i) 0 ≡ get_or (bytes ++ (10 ∷ [])) i 0
  ended_at i h =
      let whole : drop at text ≡ (bytes ++ (10 ∷ [])) ++ drop next text = stands.there ∙ sym (append_assoc bytes (10 ∷ []) (drop next text)) in
      sym (get_or-drop at text i 0) ∙ ap (λ (l : List ℕ). get_or l i 0) whole ∙ get_or-append (bytes ++ (10 ∷ [])) (drop next text) 0 i (omega (arith, length-append bytes (10 ∷ [])))

  pub byte_at : (i : ℕ) → i < length bytes → get_or text (at + i) 0 ≡ get_or bytes i 0
  byte_at i h = ended_at i (omega arith) ∙ get_or-append bytes (10 ∷ []) 0 i h

  pub first_at : 0 < length bytes → get_or text at 0 ≡ get_or bytes 0 0
  first_at h = rw (add-zero at) at (byte_at 0 h)

  end_at : get_or text (at + length bytes) 0 ≡ 10
  end_at = ended_at (length bytes) (omega arith) ∙ get_or-append_seam bytes 10 [] 0

  -- byte 10 tells where they end
  module _ (i : ℕ) (h : i ≤ length bytes) where
    pub byte_within : at + i < length text
    byte_within = omega (arith, stands.next_is, stands_within)

    pub goes_on : (get_or text (at + i) 0 ≡ 10 → ⊥) → i < length bytes
    goes_on other = go (ltb i (length bytes)) refl
      where
        go : (b : Bool) → ltb i (length bytes) ≡ b → i < length bytes
        go true e = ltb-true i (length bytes) e
        go false e =
            let last : i ≡ length bytes = omega (arith, ltb-false i (length bytes) e) in
            absurd (other (rw last end_at))

    pub bytes_end : OneLine bytes → get_or text (at + i) 0 ≡ 10 → i ≡ length bytes
    bytes_end line ten = go (ltb i (length bytes)) refl
      where
        go : (b : Bool) → ltb i (length bytes) ≡ b → i ≡ length bytes
        go true e =
            let more = ltb-true i (length bytes) e in
            absurd (other_than_ten bytes i line more (sym (byte_at i more) ∙ ten))
        go false e = omega (arith, ltb-false i (length bytes) e)

-- bytes behind others, where the line goes on
pub stands_behind : (front bytes : List ℕ) {text : List ℕ} {at next : ℕ} → Stands text at (front ++ bytes) next → Stands text (at + length front) bytes next
stands_behind front bytes {text} {at} {next} stands =
    record {
      next_is = omega (arith, stands.next_is, length-append front bytes);
      there =
          sym (drop-drop (length front) at text) ∙ ap (drop (length front)) stands.there
          ∙ rw (append_assoc front bytes (10 ∷ drop next text)) (drop-append_seam front (bytes ++ (10 ∷ drop next text)));
    }

-- the line of a value that was read: its key, and the bytes that were read
pub line_stands :
    {A : Type 0} (field : Field A) (text : List ℕ) (at : ℕ) {value : A} {next : ℕ} (e : field_at field text at ≡ got value next) →
    Stands text at (field.key ++ (field_read field text at e).bytes) next
line_stands field text at e =
    let read = field_read field text at e in
    record { next_is = omega (arith, read.next_is, length-append field.key read.bytes); there = read.there }

-- ---- the digits of a number with its mark: the first byte, and so many that were taken

module _ {text : List ℕ} {at n : ℕ} {suspect : Bool} {next : ℕ} (stand : DigitsStand text at n suspect next) where
  some_bytes : 0 < length (marked_digits n suspect)
  some_bytes = marked_some (record { number = pos n; suspect = suspect })

  pub first_within : at < length text
  first_within = omega (arith, some_bytes, stand.stands.next_is, stands_within stand.stands)

  pub first_is : (48 ≤ get_or text at 0) × (get_or text at 0 ≤ 63)
  first_is = rw (first_at stand.stands some_bytes) (marked_byte n suspect 0 some_bytes)

  pub first_taken : BytesTaken (marked_digits n suspect) 1 (get_or text at 0 - 48)
  first_taken =
      let byte = marked_byte n suspect 0 some_bytes in
      let one : 0 * 10 + (get_or (marked_digits n suspect) 0 0 - 48) ≡ get_or (marked_digits n suspect) 0 0 - 48 = omega arith in
      rw (first_at stand.stands some_bytes, ← one) (taken_next (marked_digits n suspect) 0 0 some_bytes (taken_none (marked_digits n suspect)) byte.0 byte.1)

module _ {text : List ℕ} {at n : ℕ} {suspect : Bool} {next : ℕ} (stand : DigitsStand text at n suspect next) {i value : ℕ} (taken : BytesTaken (marked_digits n suspect) i value) where
  pub digit_within : at + i < length text
  digit_within = byte_within stand.stands i taken.within

  module _ (other : get_or text (at + i) 0 ≡ 10 → ⊥) where
    more : i < length (marked_digits n suspect)
    more = goes_on stand.stands i taken.within other

    pub digit_is : (48 ≤ get_or text (at + i) 0) × (get_or text (at + i) 0 ≤ 63)
    digit_is = rw (byte_at stand.stands i more) (marked_byte n suspect i more)

    pub digit_small : value < 1000000000000000000
    digit_small = taken_small (marked_digits n suspect) i value more (omega (arith, marked_few n suspect stand.small)) taken

    pub digit_taken : BytesTaken (marked_digits n suspect) (i + 1) (value * 10 + (get_or text (at + i) 0 - 48))
    digit_taken =
        let byte = marked_byte n suspect i more in
        rw (byte_at stand.stands i more) (taken_next (marked_digits n suspect) i value more taken byte.0 byte.1)

  -- all bytes were taken; the last one tells whether there is a mark
  module _ (ten : get_or text (at + i) 0 ≡ 10) where
    all : i ≡ length (marked_digits n suspect)
    all = bytes_end stand.stands i taken.within (marked_one_line n suspect) ten

    pub digits_some_taken : 0 < i
    digits_some_taken = omega (arith, all, marked_some (record { number = pos n; suspect = suspect }))

    pub digits_end : at + i + 1 ≡ next
    digits_end = omega (arith, all, stand.stands.next_is)

    worth : value ≡ value_of 0 (marked_digits n suspect)
    worth = taken.worth ∙ ap (value_of 0) (take_all i (marked_digits n suspect) (omega (arith, all)))

    last_byte : eqb (get_or text (at + i - 1) 0) 63 ≡ suspect
    last_byte =
        let before : at + i - 1 ≡ at + (length (marked_digits n suspect) - 1) = omega (arith, all, digits_some_taken) in
        rw (before, byte_at stand.stands (length (marked_digits n suspect) - 1) (omega (arith, all, digits_some_taken))) (marked_ends n suspect)

    pub digits_suspect : get_or text (at + i - 1) 0 ≡ 63 → (suspect ≡ true) × (value ≡ n * 10 + 15)
    digits_suspect mark =
        let marked : suspect ≡ true = sym last_byte ∙ eq-eqb (get_or text (at + i - 1) 0) 63 mark in
        (marked, worth ∙ ap (λ (b : Bool). value_of 0 (marked_digits n b)) marked ∙ suspect_worth n)

    pub digits_unmarked : (get_or text (at + i - 1) 0 ≡ 63 → ⊥) → (suspect ≡ false) × (value ≡ n)
    digits_unmarked other =
        let marked : suspect ≡ false = sym last_byte ∙ ne_eqb (get_or text (at + i - 1) 0) 63 other in
        (marked, worth ∙ ap (λ (b : Bool). value_of 0 (marked_digits n b)) marked ∙ plain_worth n)
