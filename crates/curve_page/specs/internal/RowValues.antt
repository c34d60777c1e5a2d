-- Internal to `row_values`: the numbers of a row in the order of its cells, and the widths of their columns. No public result is stated by it.
use Rattle.std.specs.Prelude.{ℕ, List, [], ◌∷◌, ℤ, pos}
use Rattle.curve_group.specs.Season.{group_block}
use Rattle.curve_set.specs.declared.Pair.{Pair}
use Rattle.curve_page.specs.Page.{probability_above}

-- block, mean, spread, four probabilities
abbrev pub row_widths : List ℕ
row_widths = 1 ∷ 9 ∷ 8 ∷ 10 ∷ 10 ∷ 10 ∷ 10 ∷ []

abbrev pub row_values : ℤ → ℕ → Pair → List ℤ
row_values floor group pair =
    pos (group_block group)
    ∷ pair.mean
    ∷ pair.spread
    ∷ pos (probability_above floor pair 1000000)
    ∷ pos (probability_above floor pair 2000000)
    ∷ pos (probability_above floor pair 3000000)
    ∷ pos (probability_above floor pair 4000000)
    ∷ []
