-- A turn of a loop over the twenty-four groups of a record: what it computes fits, and fewer groups are left after it.
use Prim.Native.Nat.{ℕ, ◌+◌, ◌-◌, ◌*◌, ◌≤◌, ◌<◌}
use native.Mathlib.Omega.{arith}
use mathlib.Core.Path.{◌≡◌}
use mir.Syntax.{w64}
use mir.Val.{Fits}

module _ {i : ℕ} (more : i < 24) where
  pub group_byte : Fits w64 (i * 24)
  group_byte = omega arith

  pub one_more : Fits w64 (i + 1)
  one_more = omega arith

  pub passed : i + 1 ≤ 24
  passed = omega arith

  pub fewer_left : 24 - (i + 1) < 24 - i
  fewer_left = omega arith

  pub turn_within : {long : ℕ} → long ≡ 24 → i < long
  turn_within h = omega arith

pub turns_over : {i long : ℕ} → 24 ≤ i → long ≡ 24 → long ≤ i
turns_over over h = omega arith
