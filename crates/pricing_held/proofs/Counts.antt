-- As many rows as are held stand in both slices.
use Prim.Native.Nat.{ℕ, ◌*◌, ◌/◌, ◌≤◌}
use native.Mathlib.Omega.{arith}
use mathlib.Core.List.{List}
use mathlib.Core.Path.{◌≡◌}
use lib.IntN.{ℤ}
use lib.ListN.{length}
use Rattle.pricing_held.specs.Rows.{held_count}

module _ (ids : List ℕ) (numbers : List ℤ) where
  pub held_ids : 32 * held_count ids numbers ≤ length ids
  unfolding held_count
  held_ids = omega arith

  pub held_numbers : 9 * held_count ids numbers ≤ length numbers
  unfolding held_count
  held_numbers = omega arith

  pub held_within : held_count ids numbers ≤ length numbers / 9
  unfolding held_count
  held_within = omega arith

  -- so many rows of both
  pub held_count_is : (n : ℕ) → length ids ≡ 32 * n → length numbers ≡ 9 * n → held_count ids numbers ≡ n
  unfolding held_count
  held_count_is n l m = omega arith
