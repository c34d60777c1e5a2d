-- The sum of (e − x)² over c errors e, whose sum is s and whose squares' sum is q: q − 2·x·s + c·x².
use Rattle.std.specs.Prelude.{ℤ, pos, ◌+ℤ◌, ◌-ℤ◌, ◌*ℤ◌}

unfoldable pub quadratic : (s q c x : ℤ) → ℤ
quadratic s q c x = q -ℤ pos 2 *ℤ (x *ℤ s) +ℤ c *ℤ (x *ℤ x)
