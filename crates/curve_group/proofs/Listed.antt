-- The listed seasons: computed up to month 12, and above 12 nothing is listed.
use Prim.Native.Nat.{ℕ, zero, suc, ◌/◌, ◌%◌, ◌≤◌, ◌<◌, min}
use native.Mathlib.Omega.{arith}
use mathlib.Core.Path.{◌≡◌, refl}
use mathlib.Core.Bool.{Bool, true, false, ◌&&◌}
use mathlib.Core.Logic.{inl, inr}
use mathlib.Core.List.{List, [], ◌∷◌, map}
use lib.Dec.{T, leb, leb→le}
use borrow.Author.Tests.{leb-true, leb-false, ne_eqb}
use Rattle.curve_group.specs.Season.{winter, spring, summer, fall, row_has, season_of}
use Rattle.curve_group.specs.Listed.{listed_months, times_in, ListedSeasonsFollowTheFormula, EachMonthIsListedOnce, OtherMonthsAreWinter}
use Rattle.curve_group.proofs.Below.{below, each_below}

-- ---- above 12

-- whether the numbers of a list are at most n
abbrev up_to : ℕ → List ℕ → Bool
up_to n [] = true
up_to n (one ∷ rest) = leb one n && up_to n rest

-- then the list has none above n
none_above : (n number : ℕ) → n < number → (list : List ℕ) → T (up_to n list) → (row_has number list ≡ false) × (times_in number list ≡ 0)
none_above n number h [] up = (refl, refl)
none_above n number h (one ∷ rest) up = go (leb one n) (leb→le one n) up (none_above n number h rest)
  where
    go : (b : Bool) → (T b → one ≤ n) → T (b && up_to n rest) → (T (up_to n rest) → (row_has number rest ≡ false) × (times_in number rest ≡ 0)) →
        (row_has number (one ∷ rest) ≡ false) × (times_in number (one ∷ rest) ≡ 0)
    go true at_most up before =
        let less = at_most tt in
        let differs = ne_eqb number one (omega arith) in
        (rw differs (before up).0, rw (differs, (before up).1))
    go false at_most up before = absurd up

above_is_winter : (month : ℕ) → 12 < month → season_of month ≡ 0
unfolding season_of
above_is_winter month h =
    let none = none_above 12 month h in
    rw ((none winter tt).0, (none spring tt).0, (none summer tt).0, (none fall tt).0) refl

-- ---- the season of every month as a number: those above 12 have that of 12

abbrev by_number : ℕ → ℕ
by_number month = min month 12 % 12 / 3

computed : map season_of (below 13) ≡ map by_number (below 13)
unfolding season_of
computed = refl

pub season_number : (month : ℕ) → season_of month ≡ min month 12 % 12 / 3
season_number month = go (leb month 12) refl
  where
    go : (b : Bool) → leb month 12 ≡ b → season_of month ≡ by_number month
    go true e = each_below season_of by_number 13 computed month (omega (arith, leb-true month 12 e))
    go false e = let h = leb-false month 12 e in rw (above_is_winter month h) (omega arith)

-- ---- the statements

pub listed_seasons_follow_the_formula : ListedSeasonsFollowTheFormula
listed_seasons_follow_the_formula month low high = rw (season_number month) (omega arith)

abbrev times_listed : ℕ → ℕ
times_listed before = times_in (suc before) listed_months

abbrev once : ℕ → ℕ
once before = 1

once_computed : map times_listed (below 12) ≡ map once (below 12)
once_computed = refl

pub each_month_is_listed_once : EachMonthIsListedOnce
each_month_is_listed_once zero low high = absurd (omega arith)
each_month_is_listed_once (suc before) low high = each_below times_listed once 12 once_computed before (omega arith)

pub other_months_are_winter : OtherMonthsAreWinter
other_months_are_winter zero outside = (refl, season_number zero)
other_months_are_winter (suc before) (inl less) = absurd (omega arith)
other_months_are_winter (suc before) (inr more) = ((none_above 12 (suc before) more listed_months tt).1, above_is_winter (suc before) more)
