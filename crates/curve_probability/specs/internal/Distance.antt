-- How far a reserve lies above X in kW: 0 at X and below it, and beyond 2^40 kW, where the fraction is at least 500 whatever the mean
-- and the spread, 2^40.
use Rattle.std.specs.Prelude.{cond, ℕ, min, leb, ℤ, ◌-ℤ◌, nat_abs, ◌-◌}
use Rattle.std.specs.Int.Signed.{le_z}

abbrev pub distance_above : ℤ → ℤ → ℕ
distance_above reserve floor = cond (le_z reserve floor) 0 (min (nat_abs (reserve -ℤ floor)) 1099511627776)

-- what N leaves of one at a distance above X; at X itself, one
abbrev pub left_of_one : ℕ → ℕ → ℕ
left_of_one distance value = cond (leb distance 0) 1000000000 (1000000000 - value)
