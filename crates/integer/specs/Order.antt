-- The lower and the higher of two integers.
use Rattle.std.specs.Prelude.{cond, ℤ}
use Rattle.std.specs.Int.Signed.{le_z}

unfoldable pub min_ℤ : ℤ → ℤ → ℤ
min_ℤ x y = cond (le_z x y) x y

unfoldable pub max_ℤ : ℤ → ℤ → ℤ
max_ℤ x y = cond (le_z x y) y x
