-- Laws on lines to be written: their text, the first refused of them, lines before others, and lines none of which is refused.
use Prim.Native.Nat.{ℕ, suc, ◌+◌, ◌^◌, ◌≤◌, ◌<◌}
use native.Mathlib.Nat.{add-zero}
use native.Mathlib.Omega.{arith}
use mathlib.Core.Bool.{Bool, true, false, ◌&&◌, cond}
use mathlib.Core.List.{List, [], ◌∷◌, ◌++◌, append_assoc}
use mathlib.Core.Path.{◌≡◌, refl, sym, ap, ◌∙◌}
use borrow.Author.Tests.{eq-eqb, eqb-true}
use lib.Dec.{eqb}
use lib.IntN.{ℤ, pos, neg_ℤ, nat_abs}
use lib.ListN.{length, take, length-append}
use lib.Signed.{le_z, ◌≤ℤ◌}
use Rattle.std.specs.Prelude.{Ok, Err}
use Rattle.text_number.specs.declared.NumberError.TheVariants as error
use Rattle.text_refusal.specs.Answer.{refusal, followed_by}
use Rattle.text_refusal.specs.declared.refusal.Refusal.{Refusal}
use Rattle.text_line.specs.Field.{Field}
use Rattle.text_line.specs.Line.{OneLine}
use Rattle.text_number.specs.Field.{number_field, judged_number}
use Rattle.text_number.specs.Number.{written_number}
use Rattle.text_number.proofs.WrittenDigits.{number_of_written, written_within, natural_within}
use Rattle.text_refusal.proofs.Choices.{and_left, and_right}
use Rattle.integer.proofs.Difference.{view, to_ℕ}
use Rattle.integer.proofs.Order.{le_z-true}
use Rattle.text_schema.specs.Schema.{write_fields}
use Rattle.text_schema.specs.Checked.{CheckedLine, refused_by, checked_line, checked_lines, text_of, first_refused}
use Rattle.text_schema.proofs.Written.{write_none, write_first, write_no_values}

-- ---- the text

pub text_none : text_of [] ≡ []
unfolding text_of
text_none = refl

pub text_first : (line : CheckedLine) (lines : List CheckedLine) → text_of (line ∷ lines) ≡ line.bytes ++ text_of lines
unfolding text_of
text_first line lines = refl

pub text_append : (lines others : List CheckedLine) → text_of (lines ++ others) ≡ text_of lines ++ text_of others
unfolding text_of
text_append [] others = refl
text_append (line ∷ lines) others = rw (text_append lines others) (sym (append_assoc line.bytes (text_of lines) (text_of others)))

module _ {A : Type 0} where
  pub checked_none : (values : List A) → checked_lines [] values ≡ []
  unfolding checked_lines
  checked_none values = refl

  pub checked_no_values : (fields : List (Field A)) → checked_lines fields [] ≡ []
  unfolding checked_lines
  checked_no_values [] = refl
  checked_no_values (field ∷ fields) = refl

  pub checked_first : (field : Field A) (fields : List (Field A)) (value : A) (values : List A) → checked_lines (field ∷ fields) (value ∷ values) ≡ checked_line field value ∷ checked_lines fields values
  unfolding checked_lines
  checked_first field fields value values = refl

  -- the lines of a schema are those that it writes
  pub text_written : (fields : List (Field A)) (values : List A) → text_of (checked_lines fields values) ≡ write_fields fields values
  unfolding text_of checked_lines
  text_written [] values = sym (write_none values)
  text_written (field ∷ fields) [] = sym (write_no_values (field ∷ fields))
  text_written (field ∷ fields) (value ∷ values) = rw (write_first field fields value values, text_written fields values) (simp append_assoc)

-- ---- the first refused line

pub first_none : (line : ℕ) → first_refused line [] ≡ Ok tt
unfolding first_refused
first_none line = refl

module _ (line : ℕ) (due : CheckedLine) (lines : List CheckedLine) where
  pub first_passed : due.number ≡ 0 → first_refused line (due ∷ lines) ≡ first_refused (suc line) lines
  unfolding first_refused
  first_passed e = rw (eq-eqb due.number 0 e)

  pub first_here : eqb due.number 0 ≡ false → first_refused line (due ∷ lines) ≡ refusal due.number line
  unfolding first_refused
  first_here e = rw e

pub first_append : (line : ℕ) (lines others : List CheckedLine) → first_refused line (lines ++ others) ≡ followed_by (first_refused line lines) (first_refused (line + length lines) others)
unfolding first_refused
first_append line [] others = rw (add-zero line)
first_append line (due ∷ lines) others = go (eqb due.number 0) (first_append (suc line) lines others)
  where
    go : (b : Bool) → first_refused (suc line) (lines ++ others) ≡ followed_by (first_refused (suc line) lines) (first_refused (suc line + length lines) others) →
        cond b (first_refused (suc line) (lines ++ others)) (refusal due.number line) ≡
        followed_by (cond b (first_refused (suc line) lines) (refusal due.number line)) (first_refused (line + suc (length lines)) others)
    go true again = let place : line + suc (length lines) ≡ suc line + length lines = omega arith in rw place again
    go false again = refl

-- no line is refused by the number 0
pub first_numbered : (line : ℕ) (lines : List CheckedLine) {found : Refusal} → first_refused line lines ≡ Err found → eqb found.number 0 ≡ false
unfolding first_refused
first_numbered line [] {found} e = let z : ◌≡◌ {A = ℕ} 0 1 = cc in absurd (omega arith)
first_numbered line (due ∷ lines) {found} e = go (eqb due.number 0) refl (first_numbered (suc line) lines) e
  where
    go : (b : Bool) → eqb due.number 0 ≡ b → (first_refused (suc line) lines ≡ Err found → eqb found.number 0 ≡ false) →
        cond b (first_refused (suc line) lines) (refusal due.number line) ≡ Err found → eqb found.number 0 ≡ false
    go true h again e = again e
    go false h again e = cc

-- ---- lines none of which is refused

abbrev pub Unrefused : List CheckedLine → Type 0
Unrefused [] = Unit
Unrefused (line ∷ lines) = (line.number ≡ 0) × Unrefused lines

pub accepted_unrefused : (line : ℕ) (lines : List CheckedLine) → first_refused line lines ≡ Ok tt → Unrefused lines
unfolding first_refused
accepted_unrefused line [] e = tt
accepted_unrefused line (due ∷ lines) e = go (eqb due.number 0) refl (accepted_unrefused (suc line) lines) e
  where
    go : (b : Bool) → eqb due.number 0 ≡ b → (first_refused (suc line) lines ≡ Ok tt → Unrefused lines) →
        cond b (first_refused (suc line) lines) (refusal due.number line) ≡ Ok tt → Unrefused (due ∷ lines)
    go true h again e = (eqb-true due.number 0 h, again e)
    go false h again e = let z : ◌≡◌ {A = ℕ} 0 1 = cc in absurd (omega arith)

pub unrefused_accepted : (line : ℕ) (lines : List CheckedLine) → Unrefused lines → first_refused line lines ≡ Ok tt
unrefused_accepted line [] all = first_none line
unrefused_accepted line (due ∷ lines) all = first_passed line due lines all.0 ∙ unrefused_accepted (suc line) lines all.1

pub unrefused_append : (lines others : List CheckedLine) → Unrefused lines → Unrefused others → Unrefused (lines ++ others)
unrefused_append [] others all more = more
unrefused_append (line ∷ lines) others all more = (all.0, unrefused_append lines others all.1 more)

pub unrefused_both : (lines others : List CheckedLine) → Unrefused (lines ++ others) → Unrefused lines × Unrefused others
unrefused_both [] others all = (tt, all)
unrefused_both (line ∷ lines) others all = let both = unrefused_both lines others all.1 in ((all.0, both.0), both.1)

-- ---- lines of numbers

-- the lines of a schema of numbers, each under a key of one line, with the least and the greatest number of each
pub data NumberLines : List (Field ℤ) → List ℤ → List ℤ → Type 0 where
  no_lines : NumberLines [] [] []
  one_more :
      {key : List ℕ} {low high : ℤ} {fields : List (Field ℤ)} {lows highs : List ℤ} → OneLine key → NumberLines fields lows highs →
      NumberLines (number_field key low high ∷ fields) (low ∷ lows) (high ∷ highs)

-- a number is refused by 7 out of its range, and by no other number
pub number_checked : (key : List ℕ) (low high z : ℤ) → (checked_line (number_field key low high) z).number ≡ cond (le_z low z && le_z z high) 0 7
number_checked key low high z = rw (number_of_written z) (go (le_z low z && le_z z high))
  where
    go : (b : Bool) → refused_by (judged_number (cond b (Ok z) (Err error.Outside))) ≡ cond b 0 7
    go true = refl
    go false = refl

pub lines_long : {fields : List (Field ℤ)} {lows highs : List ℤ} → NumberLines fields lows highs → length fields ≡ length lows
lines_long no_lines = refl
lines_long (one_more one more) = ap suc (lines_long more)

-- as many lines as fields, where there are as many values
pub checked_length : {A : Type 0} (fields : List (Field A)) (values : List A) → length fields ≤ length values → length (checked_lines fields values) ≡ length fields
unfolding checked_lines
checked_length [] values h = refl
checked_length (field ∷ fields) [] h = absurd (omega arith)
checked_length (field ∷ fields) (value ∷ values) h = ap suc (checked_length fields values (omega arith))

-- no more values are looked at than there are lines
pub checked_taken : {A : Type 0} (fields : List (Field A)) (values : List A) → checked_lines fields (take (length fields) values) ≡ checked_lines fields values
unfolding checked_lines
checked_taken [] values = refl
checked_taken (field ∷ fields) [] = refl
checked_taken (field ∷ fields) (value ∷ values) = rw (checked_taken fields values)

-- ---- how long lines of numbers are

-- no number within its bounds has more bytes than its width; all lines together have at most so many
pub data Wide : List (Field ℤ) → ℕ → Type 0 where
  no_width : Wide [] 0
  one_width :
      {key : List ℕ} (low high : ℤ) {width bytes : ℕ} {fields : List (Field ℤ)} → ((z : ℤ) → (le_z low z && le_z z high) ≡ true → length (written_number z) ≤ width) → Wide fields bytes →
      Wide (number_field key low high ∷ fields) (length key + width + 1 + bytes)

number_inside : (b : Bool) {n : ℕ} → n ≡ cond b 0 7 → n ≡ 0 → b ≡ true
number_inside true e z = refl
number_inside false e z = absurd (omega arith)

pub wide_text : {fields : List (Field ℤ)} {bytes : ℕ} → Wide fields bytes → (values : List ℤ) → Unrefused (checked_lines fields values) → length (text_of (checked_lines fields values)) ≤ bytes
wide_text no_width values all = rw (checked_none {A = ℤ} values, text_none) (omega arith)
wide_text (one_width {key} low high {fields = fields} narrow more) [] all = rw (checked_no_values (number_field key low high ∷ fields), text_none) (omega arith)
wide_text (one_width {key} low high {width} {bytes} {fields} narrow more) (z ∷ values) all =
    let line : CheckedLine = checked_line (number_field key low high) z in
    let unrefused : (line.number ≡ 0) × Unrefused (checked_lines fields values) = rw (checked_first (number_field key low high) fields z values) at all in
    let fits = narrow z (number_inside (le_z low z && le_z z high) (number_checked key low high z) unrefused.0) in
    let rest = wide_text more values unrefused.1 in
    rw (checked_first (number_field key low high) fields z values, text_first line (checked_lines fields values))
    (omega (arith, fits, rest, length-append line.bytes (text_of (checked_lines fields values)), length-append key (written_number z ++ (10 ∷ [])), length-append (written_number z) (10 ∷ [])))

-- a number from 0 on of so many digits, and one that may be below 0
up_to : (z : ℤ) (most bound : ℕ) → most < bound → pos 0 ≤ℤ z → z ≤ℤ pos most → nat_abs z < bound
up_to z most bound = rw (view z) (simp to_ℕ (omega arith))

around : (z : ℤ) (most bound : ℕ) → most < bound → neg_ℤ (pos most) ≤ℤ z → z ≤ℤ pos most → nat_abs z < bound
around z most bound = rw (view z) (simp to_ℕ (omega arith))

module _ (k most : ℕ) (few : most < 10 ^ suc k) (z : ℤ) where
  pub natural_wide : (le_z (pos 0) z && le_z z (pos most)) ≡ true → length (written_number z) ≤ suc k
  natural_wide e =
      let low = and_left (le_z (pos 0) z) (le_z z (pos most)) e in
      natural_within k z low (up_to z most (10 ^ suc k) few (le_z-true (pos 0) z low) (le_z-true z (pos most) (and_right (le_z (pos 0) z) (le_z z (pos most)) e)))

  pub signed_wide : (le_z (neg_ℤ (pos most)) z && le_z z (pos most)) ≡ true → length (written_number z) ≤ suc (suc k)
  signed_wide e =
      written_within k z
      (around z most (10 ^ suc k) few (le_z-true (neg_ℤ (pos most)) z (and_left (le_z (neg_ℤ (pos most)) z) (le_z z (pos most)) e)) (le_z-true z (pos most) (and_right (le_z (neg_ℤ (pos most)) z) (le_z z (pos most)) e)))
