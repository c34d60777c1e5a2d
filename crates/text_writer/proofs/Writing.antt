-- Laws of the writing loops: digits laid from the last to the first, and lines one after the other.
use Prim.Native.Nat.{ℕ, suc, ◌+◌, ◌-◌, ◌/◌, ◌%◌, ◌≤◌, ◌<◌}
use native.Mathlib.Omega.{arith}
use mathlib.Core.Bool.{Bool, true, false, cond}
use mathlib.Core.List.{List, [], ◌∷◌, ◌++◌, append_assoc, append-nil}
use mathlib.Core.Path.{◌≡◌, refl, sym, ap, ◌∙◌}
use lib.IntN.{ℤ, pos, negsuc, nat_abs}
use lib.Dec.{leb, le→leb}
use lib.Signed.{lt_z, le_z_yes, <ℤ_irrefl, <ℤ-≤ℤ_trans}
use lib.ListN.{length, take, drop, set, length-append, length-set, length-drop}
use lib.Seq.{drop_at}
use mir.Val.{bool_byte}
use borrow.Author.Tests.{le-leb, lt-leb, leb-true}
use Rattle.integer.proofs.Order.{lt_z-true, lt_z-false}
use Rattle.text_number.specs.Number.{digits_of, written_number}
use Rattle.text_writer.specs.internal.Signed.{sign_of, signed, signed_line, cut_to}
use Rattle.text_writer.specs.Write.{laid_at, written_line, written_numbers, TextLaid, TextWritten}
use Rattle.std.specs.Prelude.{Option, Some, None}
use Rattle.text_number.proofs.WrittenDigits.{digits_one, digits_more, written_natural, written_below}
use Rattle.text_writer.proofs.Laid.{laid_none, laid_behind, laid_ahead, laid_less}

-- ---- a number by its sign and magnitude

pub written_signed : (z : ℤ) (negative : Bool) → lt_z z (pos 0) ≡ negative → written_number z ≡ signed negative (nat_abs z)
written_signed (pos n) true e = absurd (<ℤ_irrefl (<ℤ-≤ℤ_trans (lt_z-true (pos n) (pos 0) e) (le_z_yes (le→leb 0 n (omega arith)))))
written_signed (pos n) false e = written_natural n
written_signed (negsuc n) true e = written_below n
written_signed (negsuc n) false e = absurd (lt_z-false (negsuc n) (pos 0) e).le

pub sign_length : (negative : Bool) → length (sign_of negative) ≡ bool_byte negative
sign_length true = refl
sign_length false = refl

-- ---- the last bytes of a text

pub cut_length : (count : ℕ) (text : List ℕ) → length (cut_to count text) ≡ length text - (length text - count)
cut_length count text = length-drop (length text - count) text

-- a text that is no longer stands whole
pub cut_none : (count : ℕ) (text : List ℕ) → length text ≤ count → cut_to count text ≡ text
cut_none count text fits = let none : length text - count ≡ 0 = omega arith in rw none

-- ---- digits, the last one first

-- `done` is laid from `first` on; the digits of `rest` are left to lay before it
pub record DigitsLeft (buffer₀ : List ℕ) (start end n : ℕ) (buffer : List ℕ) (rest first : ℕ) : Type 0 where
  pub done : List ℕ
  pub whole : digits_of n ≡ digits_of rest ++ done
  pub place : first + length done ≡ end
  pub above : start ≤ first
  pub laid : buffer ≡ laid_at buffer₀ first done
  pub long : length buffer ≡ length buffer₀

pub digits_start : (buffer : List ℕ) (start end n : ℕ) → start ≤ end → DigitsLeft buffer start end n buffer n end
digits_start buffer start end n h =
    record { done = []; whole = sym (append-nil (digits_of n)); place = omega arith; above = h; laid = sym (laid_none buffer end); long = refl }

module _ {buffer₀ : List ℕ} {start end n : ℕ} {buffer : List ℕ} {rest first : ℕ} (left : DigitsLeft buffer₀ start end n buffer rest first) (room : end ≤ length buffer₀) where
  total : length (digits_of n) ≡ length (digits_of rest) + length left.done
  total = ap length left.whole ∙ length-append (digits_of rest) left.done

  pub digits_fit : first ≤ length buffer
  digits_fit = omega (arith, left.place, left.long)

  -- one digit more
  one_laid : start < first → set buffer (first - 1) (48 + rest % 10) ≡ laid_at buffer₀ (first - 1) ((48 + rest % 10) ∷ left.done)
  one_laid h =
      let before : first ≡ first - 1 + 1 = omega arith in
      ap (λ (bytes : List ℕ). set bytes (first - 1) (48 + rest % 10)) (left.laid ∙ ap (λ (k : ℕ). laid_at buffer₀ k left.done) before) ∙
      laid_less buffer₀ (first - 1) left.done (48 + rest % 10) (omega (arith, left.place))

  pub digits_left : start < first → 10 ≤ rest → DigitsLeft buffer₀ start end n (set buffer (first - 1) (48 + rest % 10)) (rest / 10) (first - 1)
  digits_left h l =
      record {
        done = (48 + rest % 10) ∷ left.done;
        whole = left.whole ∙ rw (digits_more rest l) (append_assoc (digits_of (rest / 10)) ((48 + rest % 10) ∷ []) left.done);
        place = omega (arith, left.place);
        above = omega arith;
        laid = one_laid h;
        long = simp length-set left.long;
      }

  -- the first digit
  pub digits_end : start < first → rest / 10 ≡ 0 → TextLaid (cut_to (end - start) (digits_of n)) buffer₀ (first - 1) (set buffer (first - 1) (48 + rest % 10)) end
  digits_end h over =
      let digit : rest % 10 ≡ rest = omega arith in
      let all : (48 + rest % 10) ∷ left.done ≡ digits_of n = sym (left.whole ∙ rw (digits_one rest (omega arith), digit)) in
      let count : length (digits_of n) ≡ length left.done + 1 = omega (arith, ap length all) in
      rw (cut_none (end - start) (digits_of n) (omega (arith, left.place, left.above)))
      (record { ends = omega (arith, left.place); bytes = one_laid h ∙ ap (laid_at buffer₀ (first - 1)) all })

  -- no place is left
  pub digits_cut : first ≤ start → TextLaid (cut_to (end - start) (digits_of n)) buffer₀ first buffer end
  digits_cut h =
      let last : cut_to (end - start) (digits_of n) ≡ left.done =
      rw left.whole (drop_at (digits_of rest) left.done (length (digits_of rest ++ left.done) - (end - start)) (omega (arith, left.place, left.above, length-append (digits_of rest) left.done))) in
      rw last (record { ends = omega (arith, left.place); bytes = left.laid })

-- ---- the sign before the digits

module _ (n : ℕ) {buffer after : List ℕ} {start end first : ℕ} (laid : TextLaid (cut_to (end - start) (digits_of n)) buffer first after end) (inside : start ≤ end) where
  -- no place is left for it
  pub sign_cut : first ≤ start → TextLaid (cut_to (end - start) (signed true n)) buffer first after end
  sign_cut h =
      let full : length (digits_of n) - (length (digits_of n) - (end - start)) ≡ end - first = omega (arith, laid.ends, cut_length (end - start) (digits_of n)) in
      let one : suc (length (digits_of n)) - (end - start) ≡ suc (length (digits_of n) - (end - start)) = omega arith in
      rw one laid

  pub sign_laid : start < first → end ≤ length buffer → TextLaid (cut_to (end - start) (signed true n)) buffer (first - 1) (set after (first - 1) 45) end
  sign_laid h room =
      let short : length (digits_of n) < end - start = omega (arith, laid.ends, cut_length (end - start) (digits_of n)) in
      let digits : cut_to (end - start) (digits_of n) ≡ digits_of n = cut_none (end - start) (digits_of n) (omega arith) in
      let before : first ≡ first - 1 + 1 = omega arith in
      rw (cut_none (end - start) (signed true n) (omega arith))
      (record {
        ends = omega (arith, laid.ends, ap length digits);
        bytes =
            ap (λ (bytes : List ℕ). set bytes (first - 1) 45) (laid.bytes ∙ ap (laid_at buffer first) digits ∙ ap (λ (k : ℕ). laid_at buffer k (digits_of n)) before) ∙
            laid_less buffer (first - 1) (digits_of n) 45 (omega (arith, laid.ends, ap length digits));
      })

-- a number in just as many places as it has bytes
pub number_whole : (text : List ℕ) {buffer after : List ℕ} {start end first : ℕ} → TextLaid (cut_to (end - start) text) buffer first after end → start + length text ≡ end → TextLaid text buffer start after end
number_whole text {buffer} {after} {start} {end} {first} laid e =
    let whole : cut_to (end - start) text ≡ text = cut_none (end - start) text (omega arith) in
    let place : first ≡ start = omega (arith, laid.ends, ap length whole) in
    record { ends = omega arith; bytes = laid.bytes ∙ rw (whole, place) }

-- ---- one line

pub line_length : (key : List ℕ) (z : ℤ) → length (written_line key z) ≡ length key + length (written_number z) + 1
line_length key z = length-append (key ++ written_number z) (10 ∷ []) ∙ ap (λ (n : ℕ). n + 1) (length-append key (written_number z))

-- a line of text
pub text_line_length : (key text : List ℕ) → length (key ++ (text ++ (10 ∷ []))) ≡ length key + length text + 1
text_line_length key text = omega (arith, length-append key (text ++ (10 ∷ [])), length-append text (10 ∷ []))

-- by the number's sign and magnitude
pub line_signed : (key : List ℕ) (z : ℤ) (negative : Bool) → lt_z z (pos 0) ≡ negative → written_line key z ≡ signed_line key negative (nat_abs z)
line_signed key z negative e = rw (written_signed z negative e) (simp append_assoc)

-- ---- lines one after the other

pub no_keys : (values : List ℤ) → written_numbers [] values ≡ []
unfolding written_numbers
no_keys values = refl

pub no_values : (keys : List (List ℕ)) → written_numbers keys [] ≡ []
unfolding written_numbers
no_values [] = refl
no_values (key ∷ keys) = refl

pub first_line : (key : List ℕ) (keys : List (List ℕ)) (z : ℤ) (values : List ℤ) → written_numbers (key ∷ keys) (z ∷ values) ≡ written_line key z ++ written_numbers keys values
unfolding written_numbers
first_line key keys z values = refl

-- ---- what writing gives

pub text_short : (text buffer : List ℕ) (at : ℕ) → length buffer < at + length text → TextWritten text buffer at buffer None
text_short text buffer at h = let e = lt-leb (at + length text) (length buffer) h in record { ends = rw e; bytes = rw e }

pub text_stands : {text buffer : List ℕ} {at : ℕ} {after : List ℕ} {next : ℕ} → TextLaid text buffer at after next → at + length text ≤ length buffer → TextWritten text buffer at after (Some next)
text_stands {text} {buffer} {at} laid room = let e = le-leb (at + length text) (length buffer) room in record { ends = rw (e, laid.ends); bytes = rw e laid.bytes }

-- what stands in a buffer that has room for the text
pub written_bytes : {text buffer : List ℕ} {at : ℕ} {after : List ℕ} {ended : Option ℕ} → TextWritten text buffer at after ended → at + length text ≤ length buffer → after ≡ laid_at buffer at text
written_bytes {text} {buffer} {at} done room = done.bytes ∙ rw (le-leb (at + length text) (length buffer) room)

-- bytes after the text stay, whether it was written or not: a program that lays one byte more does not meet its contract
pub bytes_after_stay : {text buffer : List ℕ} {at : ℕ} {after : List ℕ} {ended : Option ℕ} → TextWritten text buffer at after ended → (k : ℕ) → drop (at + length text + k) after ≡ drop (at + length text + k) buffer
bytes_after_stay {text} {buffer} {at} {after} done k = go (leb (at + length text) (length buffer)) refl done.bytes
  where
    go : (b : Bool) → leb (at + length text) (length buffer) ≡ b → after ≡ cond b (laid_at buffer at text) buffer → drop (at + length text + k) after ≡ drop (at + length text + k) buffer
    go true e is = rw is (laid_behind buffer at text (leb-true (at + length text) (length buffer) e) k)
    go false e is = rw is

-- and those before it
pub bytes_before_stay : {text buffer : List ℕ} {at : ℕ} {after : List ℕ} {ended : Option ℕ} → TextWritten text buffer at after ended → take at after ≡ take at buffer
bytes_before_stay {text} {buffer} {at} {after} done = go (leb (at + length text) (length buffer)) refl done.bytes
  where
    go : (b : Bool) → leb (at + length text) (length buffer) ≡ b → after ≡ cond b (laid_at buffer at text) buffer → take at after ≡ take at buffer
    go true e is = rw is (laid_ahead buffer at text (leb-true (at + length text) (length buffer) e))
    go false e is = rw is
