-- Laws of the lines that end before a position, and of the refusal of a fault.
use Prim.Native.Nat.{ℕ, zero, suc, ◌+◌, ◌≤◌}
use native.Mathlib.Omega.{arith}
use mathlib.Core.List.{List, [], ◌∷◌}
use mathlib.Core.Path.{◌≡◌, refl, sym}
use mathlib.Core.Bool.{cond}
use lib.ListN.{length, take}
use Rattle.std.specs.Prelude.{◌==◌, count_by}
use Rattle.std.proofs.lemmas.List.{length-take}
use Rattle.std.proofs.lemmas.List.Sums.{sum_by-cons, count_by-le-length}
use Rattle.text_refusal.specs.Refusal.{ended_lines, refusal_of}
use Rattle.text_refusal.specs.declared.refusal.Fault.{Fault}
use Rattle.text_refusal.specs.declared.refusal.Refusal.{Refusal}

-- they are the bytes 10 among the first n
pub ended_counted : (n : ℕ) (s : List ℕ) → ended_lines n s ≡ count_by (λ byte. byte == 10) (take n s)
unfolding ended_lines
ended_counted zero s = refl
ended_counted (suc n) [] = refl
ended_counted (suc n) (byte ∷ s) = rw (ended_counted n s) (sym (sum_by-cons (λ other. cond (other == 10) 1 0) byte (take n s)))

pub ended_at_most : (n : ℕ) (s : List ℕ) → ended_lines n s ≤ length s
ended_at_most n s = rw (ended_counted n s) (omega (arith, count_by-le-length (λ byte. byte == 10) (take n s), length-take n s))

-- ---- the refusal of a fault

-- a refusal by a number of the list, at a line that the text has or that follows its last
pub record Listed (text : List ℕ) (found : Refusal) : Type 0 where
  pub least : 1 ≤ found.number
  pub most : found.number ≤ 15
  pub line : found.line ≤ length text + 1

pub fault_listed : (text : List ℕ) (found : Fault) → 1 ≤ found.number → found.number ≤ 15 → Listed text (refusal_of text found)
fault_listed text found low high = record { least = low; most = high; line = omega (arith, ended_at_most found.at text) }
