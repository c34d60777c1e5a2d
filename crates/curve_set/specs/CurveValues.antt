-- Document 01, "History to curves": the values of a curve set in the order of its lines (VOLL, X, then mean and spread of each group), and the set of such
-- values.
use Rattle.std.specs.Prelude.{ℕ, zero, suc, ◌+◌, ◌*◌, List, [], ◌∷◌, ℤ, drop}
use Rattle.text_schema.specs.Schema.{value}
use Rattle.curve_set.specs.declared.Pair.{Pair}
use Rattle.curve_set.specs.declared.CurveSet.{CurveSet}

-- mean and spread, pair after pair
unfoldable pub pair_values : List Pair → List ℤ
pair_values [] = []
pair_values (pair ∷ pairs) = pair.mean ∷ pair.spread ∷ pair_values pairs

-- a curve set's values in the order of its lines
unfoldable pub curve_values : CurveSet → List ℤ
curve_values curves = curves.voll ∷ curves.floor ∷ pair_values curves.pairs

-- the pair of a group, from its places
abbrev pub pair_at : List ℤ → ℕ → Pair
pair_at values group = record { mean = value values (2 + 2 * group); spread = value values (3 + 2 * group) }

-- n pairs, one after the other
unfoldable pub pairs_of : ℕ → List ℤ → List Pair
pairs_of zero values = []
pairs_of (suc n) values = record { mean = value values 0; spread = value values 1 } ∷ pairs_of n (drop 2 values)

-- the curve set of such values
unfoldable pub curves_of : List ℤ → CurveSet
curves_of values = record { voll = value values 0; floor = value values 1; pairs = pairs_of 24 (drop 2 values) }
