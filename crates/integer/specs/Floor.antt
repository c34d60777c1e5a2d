-- Division of an integer by a natural number, rounded toward minus infinity: −(a + 1) by n is −(floor(a / n) + 1).
-- By 0 it is 0 for a number that is not negative and −1 for a negative one.
use Rattle.std.specs.Prelude.{ℕ, ◌/◌, ℤ, pos, negsuc}

unfoldable pub floor_div : ℤ → ℕ → ℤ
floor_div (pos a) n = pos (a / n)
floor_div (negsuc a) n = negsuc (a / n)
