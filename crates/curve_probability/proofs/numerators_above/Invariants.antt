-- the numerators so far are those of the distances so far
use Rattle.std.proofs.Common.{◌≡◌, length, map, take, ℕ, pos, ◌*ℤ◌, ◌-ℤ◌}
use Rattle.curve_probability.proofs.numerators_above.Given as goal

abbrev pub invariant-loop-i : goal.invariant-loop-i
invariant-loop-i l = (length l.numerators ≡ 4) × (take l.i l.numerators ≡ map (λ (distance : ℕ). pos 100 *ℤ (pos distance -ℤ l.fn.mean)) (take l.i l.fn.above))
