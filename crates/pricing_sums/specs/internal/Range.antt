-- What n resources can add up to, so that no addition overflows.
use Rattle.std.specs.Prelude.{ℕ, ◌*◌, ℤ, pos, neg_ℤ}
use Rattle.pricing_sums.specs.declared.Sums.{Sums}
use Rattle.pricing_resource.specs.internal.Range.{Between}

-- a sum of n resources: n times the least and the most that one can add to it
abbrev pub Times : ℕ → ℕ → ℕ → ℤ → Type 0
Times n low high z = Between (neg_ℤ (pos (n * low))) (pos (n * high)) z

pub record SumsWithin (n : ℕ) (s : Sums) : Type 0 where
  pub generation : Times n 4000000 2000000 s.generation
  pub controllable : Times n 4000000 4000000 s.controllable
  pub offline : Times n 0 2000000 s.offline
  pub validated : Times n 2000000 2000000 s.validated
  pub responsive : Times n 0 2000000 s.responsive
