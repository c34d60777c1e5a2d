-- Document 01, "Known values (P: for the table of proofs)": five knots of the normal table and four probabilities, each with what it is to be.
use Rattle.std.specs.Prelude.{ℕ, List, [], ◌∷◌, ℤ, pos, ◌+ℤ◌}
use Rattle.normal.specs.Knot.{knot}
use Rattle.curve_probability.specs.Probability.{offline_probability}

abbrev pub single : ℕ → List ℤ
single n = pos n ∷ []

-- piNS at RSNS - X, mu and sigma
abbrev pub at_difference : ℤ → ℤ → ℕ → ℕ
at_difference difference mean spread = offline_probability (pos 2000000 +ℤ difference) (pos 2000000) mean spread

unfoldable pub table_values : List (List ℤ × List ℤ)
table_values =
    -- T(0), T(1), T(100), T(196), T(500)
    (single (knot 0), single 500000000)
    ∷ (single (knot 1), single 503989356)
    ∷ (single (knot 100), single 841344746)
    ∷ (single (knot 196), single 975002105)
    ∷ (single (knot 500), single 999999713)
    -- mu 0, sigma 1000000, RSNS - X 0, 1, 5000; mu 2000000, difference 1000000
    ∷ (single (at_difference (pos 0) (pos 0) 1000000), single 1000000000)
    ∷ (single (at_difference (pos 1) (pos 0) 1000000), single 499999602)
    ∷ (single (at_difference (pos 5000) (pos 0) 1000000), single 498005322)
    ∷ (single (at_difference (pos 1000000) (pos 2000000) 1000000), single 841344746)
    ∷ []
