-- Document 02, W-203: what holds of the listed seasons, `winter`, `spring`, `summer` and `fall` of Season.antt.
use Rattle.std.specs.Prelude.{ℕ, ◌+◌, ◌/◌, ◌%◌, ◌≤◌, ◌<◌, cond, List, [], ◌∷◌, ◌++◌, ◌⊎◌, ◌≡◌, eqb}
use Rattle.curve_group.specs.Season.{winter, spring, summer, fall, season_of}

-- for each month 1..12 the lists give season = floor((month mod 12) / 3)
abbrev pub ListedSeasonsFollowTheFormula : Type 0
ListedSeasonsFollowTheFormula = (month : ℕ) → 1 ≤ month → month ≤ 12 → season_of month ≡ month % 12 / 3

-- all that is listed, season after season
abbrev pub listed_months : List ℕ
listed_months = winter ++ spring ++ summer ++ fall

-- how often a list has a number
abbrev pub times_in : ℕ → List ℕ → ℕ
times_in number [] = 0
times_in number (one ∷ rest) = cond (eqb number one) 1 0 + times_in number rest

-- the lists are complete and name no month twice
abbrev pub EachMonthIsListedOnce : Type 0
EachMonthIsListedOnce = (month : ℕ) → 1 ≤ month → month ≤ 12 → times_in month listed_months ≡ 1

-- a month outside 1..12 is not listed, and gives 0, as winter does
abbrev pub OtherMonthsAreWinter : Type 0
OtherMonthsAreWinter = (month : ℕ) → (month < 1) ⊎ (12 < month) → (times_in month listed_months ≡ 0) × (season_of month ≡ 0)
