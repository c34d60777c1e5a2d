-- How the length and the writing of a text end, case by case.
use Prim.Native.Nat.{ℕ, ◌≤◌, ◌<◌}
use native.Mathlib.Omega.{arith}
use mathlib.Core.Bool.{cond}
use mathlib.Core.List.{List}
use mathlib.Core.Path.{◌≡◌, refl, ap}
use borrow.Author.Tests.{le-leb, lt-leb}
use lib.Dec.{leb}
use lib.IntN.{ℤ}
use lib.ListN.{length}
use Rattle.std.specs.Prelude.{Ok, Err}
use Rattle.text_refusal.specs.Answer.{Answer, refusal, followed_by}
use Rattle.text_refusal.specs.declared.refusal.Refusal.{Refusal}
use Rattle.text_writer.specs.Write.{laid_at}
use Rattle.pricing_held.specs.Lines.{held_answer, held_text}
use Rattle.pricing_held_text.specs.Writing.{length_or, held_length, writing_held, HeldWritten}

-- what a length that was given, and a refusal, tell of the answer
pub accepted_by_length : (long : ℕ) (a : Answer) {count : ℕ} → length_or long a ≡ Ok count → (a ≡ Ok tt) × (count ≡ long)
accepted_by_length long (Ok tt) e = (refl, cc)
accepted_by_length long (Err found) e = let z : ◌≡◌ {A = ℕ} 0 1 = cc in absurd (omega arith)

pub refused_by-length : (long : ℕ) (a : Answer) {found : Refusal} → length_or long a ≡ Err found → a ≡ Err found
refused_by-length long (Ok tt) e = let z : ◌≡◌ {A = ℕ} 0 1 = cc in absurd (omega arith)
refused_by-length long (Err other) e = ap Err (cc)

module _ (header : List ℤ) (ids : List ℕ) (numbers : List ℤ) where
  pub length_refused : {found : Refusal} → held_answer header ids numbers ≡ Err found → Err found ≡ held_length header ids numbers
  unfolding held_length
  length_refused e = rw e

  pub length_given : {long : ℕ} → held_answer header ids numbers ≡ Ok tt → long ≡ length (held_text header ids numbers) → Ok long ≡ held_length header ids numbers
  unfolding held_length
  length_given e is = rw (e, is)

  -- what a length that was given tells
  pub record LengthTold (long : ℕ) : Type 0 where
    pub accepted : held_answer header ids numbers ≡ Ok tt
    pub is : long ≡ length (held_text header ids numbers)

  pub length_told : {long : ℕ} → held_length header ids numbers ≡ Ok long → LengthTold long
  unfolding held_length
  length_told e = let both = accepted_by_length (length (held_text header ids numbers)) (held_answer header ids numbers) e in record { accepted = both.0; is = both.1 }

  pub length_other : {found : Refusal} → held_length header ids numbers ≡ Err found → held_answer header ids numbers ≡ Err found
  unfolding held_length
  length_other e = refused_by-length (length (held_text header ids numbers)) (held_answer header ids numbers) e

  module _ (buffer : List ℕ) where
    -- ---- the answer of writing

    pub writing_held_is :
        writing_held header ids numbers buffer ≡ followed_by (held_answer header ids numbers) (cond (leb (length (held_text header ids numbers)) (length buffer)) (Ok tt) (refusal 14 0))
    unfolding writing_held
    writing_held_is = refl

    pub writing_refused : {found : Refusal} → held_answer header ids numbers ≡ Err found → writing_held header ids numbers buffer ≡ Err found
    unfolding writing_held
    writing_refused e = rw e

    module _ (accepted : held_answer header ids numbers ≡ Ok tt) where
      pub writing_short : length buffer < length (held_text header ids numbers) → writing_held header ids numbers buffer ≡ refusal 14 0
      unfolding writing_held
      writing_short short = rw (accepted, lt-leb (length (held_text header ids numbers)) (length buffer) short)

      pub writing_accepted : length (held_text header ids numbers) ≤ length buffer → writing_held header ids numbers buffer ≡ Ok tt
      unfolding writing_held
      writing_accepted room = rw (accepted, le-leb (length (held_text header ids numbers)) (length buffer) room)

    -- ---- what writing gives

    pub written_refused : {found : Refusal} → held_answer header ids numbers ≡ Err found → HeldWritten header ids numbers buffer buffer (Err found)
    written_refused e = record { ends = rw (writing_refused e); bytes = rw (writing_refused e) }

    module _ {long : ℕ} (told : LengthTold long) where
      pub written_short : length buffer < long → HeldWritten header ids numbers buffer buffer (Err (record { number = 14; line = 0 }))
      written_short short = let e = writing_short told.accepted (rw told.is at short) in record { ends = rw e; bytes = rw e }

      pub written_whole : {after : List ℕ} → long ≤ length buffer → after ≡ laid_at buffer 0 (held_text header ids numbers) → HeldWritten header ids numbers buffer after (Ok long)
      written_whole room is = let e = writing_accepted told.accepted (rw told.is at room) in record { ends = rw (e, told.is); bytes = rw (e, is) }
