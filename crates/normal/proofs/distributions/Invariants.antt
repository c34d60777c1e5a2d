-- the values so far are N of the numerators so far
use Rattle.std.proofs.Common.{◌≡◌, length, map, take, ℤ}
use Rattle.normal.specs.Normal.{normal}
use Rattle.normal.proofs.distributions.Given as goal

abbrev pub invariant-loop-i : goal.invariant-loop-i
invariant-loop-i g l = (length l.values ≡ g.row.N) × ((take l.i l.values ≡ map (λ (numerator : ℤ). normal numerator l.denominator) (take l.i l.fn.numerators)))
