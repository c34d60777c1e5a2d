-- Looking for the first empty line, byte by byte.
use Prim.Native.Nat.{ℕ, suc, ◌+◌, ◌≤◌, ◌<◌}
use mathlib.Core.Path.{◌≡◌, ap, ◌∙◌}
use mathlib.Core.Bool.{Bool, true, false, cond}
use mathlib.Core.List.{List, [], ◌∷◌}
use native.Mathlib.Numerals.{add-one}
use native.Mathlib.Omega.{arith}
use borrow.Author.Tests.{eq-eqb, ne_eqb}
use lib.Dec.{eqb}
use lib.ListN.{length, drop, get_or, drop_of_length-le}
use lib.Seq.{drop-cons}
use Rattle.program_price.specs.Program.{before_empty_line}

-- i bytes are passed, and a line starts there where `start` says so
pub record Passed (input : List ℕ) (start : Bool) (i : ℕ) : Type 0 where
  pub within : i ≤ length input
  pub rest : before_empty_line true input ≡ i + before_empty_line start (drop i input)

module _ (input : List ℕ) (start : Bool) (i : ℕ) (passed : Passed input start i) where
  -- what the rest gives, once its first byte is known
  at_byte : (next : Bool) (n : ℕ) → i < length input → before_empty_line start (get_or input i 0 ∷ drop (i + 1) input) ≡ n → before_empty_line true input ≡ i + n
  at_byte next n h e =
      passed.rest
      ∙ ap (λ (l : List ℕ). i + before_empty_line start l) (drop-cons input i 0 h ∙ rw (add-one i))
      ∙ ap (λ (m : ℕ). i + m) e

  pub empty_line_here : i < length input → get_or input i 0 ≡ 10 → start ≡ true → i ≡ before_empty_line true input
  unfolding before_empty_line
  empty_line_here h e f =
      let found : before_empty_line true input ≡ i + 0 = at_byte true 0 h (simp (eq-eqb _ _ e, f)) in
      omega arith

  pub line_ended : i < length input → get_or input i 0 ≡ 10 → start ≡ false → Passed input true (i + 1)
  unfolding before_empty_line
  line_ended h e f =
      let found : before_empty_line true input ≡ i + suc (before_empty_line true (drop (i + 1) input)) = at_byte true _ h (simp (eq-eqb _ _ e, f)) in
      record { within = omega arith; rest = omega arith }

  pub in_line : i < length input → (get_or input i 0 ≡ 10 → ⊥) → Passed input false (i + 1)
  unfolding before_empty_line
  in_line h e =
      let found : before_empty_line true input ≡ i + suc (before_empty_line false (drop (i + 1) input)) = at_byte true _ h (simp (ne_eqb _ _ e)) in
      record { within = omega arith; rest = omega arith }

  pub no_empty_line : length input ≤ i → i ≡ before_empty_line true input
  unfolding before_empty_line
  no_empty_line h =
      let found : before_empty_line true input ≡ i + 0 = passed.rest ∙ ap (λ (l : List ℕ). i + before_empty_line start l) (drop_of_length-le input h) in
      omega arith

pub empty_line_within : (start : Bool) (input : List ℕ) → before_empty_line start input ≤ length input
unfolding before_empty_line
empty_line_within start [] = omega arith
empty_line_within start (byte ∷ rest) = go (eqb byte 10) start (empty_line_within true rest) (empty_line_within false rest)
  where
    go :
        (b s : Bool) → before_empty_line true rest ≤ length rest → before_empty_line false rest ≤ length rest →
        cond b (cond s 0 (suc (before_empty_line true rest))) (suc (before_empty_line false rest)) ≤ suc (length rest)
    go true true h k = omega arith
    go true false h k = omega arith
    go false s h k = omega arith
