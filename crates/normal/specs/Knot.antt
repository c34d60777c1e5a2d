-- The normal table: its rule, as the document has it, in whole numbers over one common denominator.
-- Assumes nothing.
use Rattle.std.specs.Prelude.{◌≡◌, List, ℕ, zero, suc, ◌+◌, ◌-◌, ◌*◌, ◌/◌, ◌^◌, ◌≤◌, ◌<◌, get_or}

abbrev pub factorial : ℕ → ℕ
factorial zero = 1
factorial (suc n) = suc n * factorial n

-- the denominator of the series' term n: 100^(2n+1) × 2^n × n! × (2n+1)
abbrev pub denominator : ℕ → ℕ
denominator n = 100 ^ (2 * n + 1) * 2 ^ n * factorial n * (2 * n + 1)

-- a multiple of each of the sixty denominators: 2^n × n! × (2n+1) divides (2n+1)!, and n is at most 59
abbrev pub common : ℕ
common = 100 ^ 119 * factorial 119

-- the term n of the series without its sign, times the common denominator: the quotient is exact (`QuotientsAreExact`)
abbrev pub term : ℕ → ℕ → ℕ
term k n = k ^ (2 * n + 1) * (common / denominator n)

-- terms n = 0, 2, .., 2 (m - 1), whose sign is plus
abbrev pub even_terms : ℕ → ℕ → ℕ
even_terms k zero = 0
even_terms k (suc m) = even_terms k m + term k (2 * m)

-- terms n = 1, 3, .., 2 (m - 1) + 1, whose sign is minus
abbrev pub odd_terms : ℕ → ℕ → ℕ
odd_terms k zero = 0
odd_terms k (suc m) = odd_terms k m + term k (2 * m + 1)

-- A(k), times the common denominator: sixty terms. It is not negative (`SeriesIsNotNegative`), so nothing is cut off at 0
abbrev pub series : ℕ → ℕ
series k = even_terms k 30 - odd_terms k 30

-- T(k) = 10^9 × (1/2 + c × A(k)) with c = 3989422804014327 / 10^16, rounded to nearest, half up: half of one is added, and the
-- floor taken. All stands over the denominator 2 × 10^16 × common
unfoldable pub knot : ℕ → ℕ
knot k = (10 ^ 9 * (10 ^ 16 * common + 2 * 3989422804014327 * series k) + 10 ^ 16 * common) / (2 * (10 ^ 16 * common))

-- the rule and rising order hold for the whole table, T(0) to T(500)
pub record IsTable (table : List ℕ) : Type 0 where
  pub rule : (k : ℕ) → k ≤ 500 → get_or table k 0 ≡ knot k
  pub rises : (k : ℕ) → k < 500 → get_or table k 0 < get_or table (suc k) 0
