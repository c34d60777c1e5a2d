-- Document 01, "The two prices": the probability of reserve falling below the minimum contingency level X, in billionths.
use Rattle.std.specs.Prelude.{ℕ, ◌-◌, ◌*◌, List, map, ℤ, pos, ◌-ℤ◌, ◌*ℤ◌, cond}
use Rattle.std.specs.Int.Signed.{le_z}
use Rattle.normal.specs.Normal.{normal}

-- piS: on line, over the first half hour, where half of the mean and 0.707 of the spread apply
unfoldable pub online_probability : ℤ → ℤ → ℤ → ℕ → ℕ
online_probability reserve floor mean spread =
    cond (le_z reserve floor)
    1000000000
    (1000000000 - normal (pos 50000 *ℤ (pos 2 *ℤ (reserve -ℤ floor) -ℤ mean)) (707 * spread))

-- piNS: on line and off line, over the hour
unfoldable pub offline_probability : ℤ → ℤ → ℤ → ℕ → ℕ
offline_probability reserve floor mean spread =
    cond (le_z reserve floor)
    1000000000
    (1000000000 - normal (pos 100 *ℤ (reserve -ℤ floor -ℤ mean)) spread)

-- piNS at reserves so many kW above X, one after the other. Where X lies does not count, so X is 0 here.
unfoldable pub offline_probabilities : List ℕ → ℤ → ℕ → List ℕ
offline_probabilities above mean spread = map (λ (distance : ℕ). offline_probability (pos distance) (pos 0) mean spread) above
