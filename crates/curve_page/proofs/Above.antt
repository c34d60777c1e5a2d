-- The probability at a distance above X: what it is, and its bound.
use Prim.Native.Nat.{ℕ, ◌≤◌}
use mathlib.Core.Path.{◌≡◌, refl}
use lib.IntN.{ℤ, pos, nat_abs, ◌+ℤ◌}
use Rattle.curve_set.specs.declared.Pair.{Pair}
use Rattle.curve_probability.specs.Probability.{offline_probability}
use Rattle.curve_probability.proofs.ProbabilityOrder.{offline_le}
use Rattle.curve_page.specs.Page.{probability_above}

pub probability_is : (floor : ℤ) (pair : Pair) (above : ℕ) → probability_above floor pair above ≡ offline_probability (floor +ℤ pos above) floor pair.mean (nat_abs pair.spread)
unfolding probability_above
probability_is floor pair above = refl

pub probability_bound : (floor : ℤ) (pair : Pair) (above : ℕ) → probability_above floor pair above ≤ 1000000000
unfolding probability_above
probability_bound floor pair above = offline_le (floor +ℤ pos above) floor pair.mean (nat_abs pair.spread)
