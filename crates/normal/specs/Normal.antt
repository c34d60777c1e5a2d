-- N(p) in billionths, for a fraction p: the normal distribution function, where p counts hundredths of the standard deviation.
-- Assumes nothing.
use Rattle.std.specs.Prelude.{cond, ℕ, suc, ◌+◌, ◌-◌, ◌*◌, ◌/◌, ◌%◌, leb, ℤ, pos, negsuc}
use Rattle.normal.specs.Knot.{knot}

-- T(k) + floor((T(k+1) - T(k)) × (p - k)), where p - k = rest / denominator
unfoldable pub interpolated : ℕ → ℕ → ℕ → ℕ
interpolated k rest denominator = knot k + (knot (suc k) - knot k) * rest / denominator

-- N(p) for p = numerator / denominator, not below zero: 10^9 from p = 500 on, and where the denominator is 0
unfoldable pub upper : ℕ → ℕ → ℕ
upper numerator denominator =
    cond (leb (500 * denominator) numerator)
    1000000000
    (interpolated (numerator / denominator) (numerator % denominator) denominator)

-- N(p) for p = numerator / denominator: for p < 0 it is 10^9 - N(-p)
unfoldable pub normal : ℤ → ℕ → ℕ
normal (pos n) denominator = upper n denominator
normal (negsuc n) denominator = 1000000000 - upper (suc n) denominator
