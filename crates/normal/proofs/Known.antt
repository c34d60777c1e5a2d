-- Known values of the table and of N, by computation.
-- Assumes nothing.
use mathlib.Core.Path.{◌≡◌, refl}
use mathlib.Core.List.{[], ◌∷◌, map}
use lib.IntN.{pos, negsuc}
use Rattle.normal.specs.Knot.{knot}
use Rattle.normal.specs.Normal.{interpolated, upper, normal}

pub known_knots :
    map knot (0 ∷ 1 ∷ 100 ∷ 196 ∷ 500 ∷ [])
    ≡ 500000000 ∷ 503989356 ∷ 841344746 ∷ 975002105 ∷ 999999713 ∷ []
unfolding knot
known_knots = refl

-- between knots, at a negative fraction, at both sides of 500, and over a denominator of 0
pub known_normal :
    (normal (pos 500000) 1000000 ≡ 501994678)
    × (normal (negsuc 99999999) 1000000 ≡ 158655254)
    × (normal (pos 499999) 1000 ≡ 999999712)
    × (normal (pos 500) 1 ≡ 1000000000)
    × (normal (negsuc 0) 0 ≡ 0)
unfolding normal upper interpolated knot
known_normal = (refl, refl, refl, refl, refl)
