-- the probabilities so far are those at the distances so far
use Rattle.std.proofs.Common.{◌≡◌, length, map, take, ℕ, pos}
use Rattle.curve_probability.specs.Probability.{offline_probability}
use Rattle.curve_probability.proofs.offline_probabilities.Given as goal

abbrev pub invariant-loop-i : goal.invariant-loop-i
invariant-loop-i l = (length l.probabilities ≡ 4) × (take l.i l.probabilities ≡ map (λ (distance : ℕ). offline_probability (pos distance) (pos 0) l.fn.mean l.fn.spread) (take l.i l.fn.above))
