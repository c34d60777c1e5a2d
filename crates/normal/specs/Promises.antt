-- What is promised of the normal table's rule and of N.
use Rattle.std.specs.Prelude.{◌≡◌, ℕ, suc, ◌+◌, ◌*◌, ◌/◌, ◌^◌, ◌≤◌, ◌<◌, ℤ, ◌≤ℤ◌}
use Rattle.normal.specs.Knot.{denominator, common, term, even_terms, odd_terms, knot}
use Rattle.normal.specs.Normal.{normal}

-- each of the sixty denominators divides the common one: the quotients in the rule are not rounded
abbrev pub QuotientsAreExact : Type 0
QuotientsAreExact = (n : ℕ) → n < 60 → denominator n * (common / denominator n) ≡ common

-- so a term over the common denominator is k^(2n+1) over its own
abbrev pub TermsAreExact : Type 0
TermsAreExact = (k n : ℕ) → n < 60 → denominator n * term k n ≡ k ^ (2 * n + 1) * common

-- A(k) is not negative at any knot: the difference in `series` is not cut off at 0
abbrev pub SeriesIsNotNegative : Type 0
SeriesIsNotNegative = (k : ℕ) → k ≤ 500 → odd_terms k 30 ≤ even_terms k 30

-- T(k) rises
abbrev pub KnotsRise : Type 0
KnotsRise = (k : ℕ) → k < 500 → knot k < knot (suc k)

-- N(p) never falls as the numerator of p grows over one denominator, and never exceeds 10^9
abbrev pub NormalNeverFalls : Type 0
NormalNeverFalls = (n m : ℤ) (d : ℕ) → n ≤ℤ m → (normal n d ≤ normal m d) × (normal m d ≤ 1000000000)
