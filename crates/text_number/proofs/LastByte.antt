-- The last byte decides which bytes the reader of numbers gets.
use Prim.Native.Nat.{ℕ, ◌-◌}
use mathlib.Core.List.{List}
use mathlib.Core.Path.{◌≡◌, ◌∙◌}
use borrow.Author.Tests.{eq-eqb, ne_eqb}
use mir.Facts.{to_z-of_z}
use lib.IntN.{ℤ}
use lib.ListN.{length, get_or}
use Rattle.std.specs.Prelude.{Result}
use Rattle.text_number.specs.Number.{number_in}
use Rattle.text_number.specs.declared.NumberError.{NumberError}
use Rattle.text_number.specs.declared.marked.Marked.{Marked}
use Rattle.text_number.specs.Marked.{without_mark, plain_number, suspect_number, marked_in}
use Rattle.text_number.proofs.Marks.{marked_none, marked_suspect, marked_plain}

module _ (low high : ℤ) (s : List ℕ) {n : Result ℤ NumberError} {m : Result Marked NumberError} where
  pub last_is_mark : m ≡ suspect_number n → (bytes : List ℕ) → n ≡ number_in low high bytes → bytes ≡ without_mark s → get_or s (length s - 1) 0 ≡ 63 → m ≡ marked_in low high s
  last_is_mark is bytes read same e = is ∙ rw (read, same) (marked_suspect low high s (eq-eqb _ 63 e))

  pub last_is_none : m ≡ plain_number n → n ≡ number_in low high s → (get_or s (length s - 1) 0 ≡ 63 → ⊥) → m ≡ marked_in low high s
  last_is_none is read e = is ∙ rw read (marked_plain low high s (ne_eqb _ 63 e))

pub ruleset last_byte = (to_z-of_z, marked_none, last_is_mark, last_is_none)
