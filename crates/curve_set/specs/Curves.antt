-- Document 01, "History to curves": the curve set, and the range of each of its values.
use Rattle.std.specs.Prelude.{Bool, true, ◌&&◌, List, [], ◌∷◌, ℕ, ℤ, pos, neg_ℤ, replicate, Result, Err}
use Rattle.integer.specs.Range.{within}
use Rattle.text_refusal.specs.declared.refusal.Refusal.{Refusal}
use Rattle.curve_set.specs.declared.Pair.{Pair}
use Rattle.curve_set.specs.declared.CurveSet.{CurveSet}

-- ---- the ranges, from which both the test of a value and its line are made

-- the least and the greatest value
pub record Range : Type 0 where
  pub low : ℤ
  pub high : ℤ

-- `voll` 0..2000000
abbrev pub voll_range : Range
voll_range = record { low = pos 0; high = pos 2000000 }

-- `floor` (X, the minimum contingency level) 0..20000000
abbrev pub floor_range : Range
floor_range = record { low = pos 0; high = pos 20000000 }

-- `mu` ±20000000
abbrev pub mean_range : Range
mean_range = record { low = neg_ℤ (pos 20000000); high = pos 20000000 }

-- `sigma` 1..20000000
abbrev pub spread_range : Range
spread_range = record { low = pos 1; high = pos 20000000 }

-- whether a value lies in a range, both ends included
abbrev pub lies_in : Range → ℤ → Bool
lies_in range z = within range.low range.high z

-- ---- a curve set handed in as values is impossible (1) where a value is out of range

abbrev pub voll_in_range : ℤ → Bool
voll_in_range voll = lies_in voll_range voll

abbrev pub floor_in_range : ℤ → Bool
floor_in_range floor = lies_in floor_range floor

abbrev pub pair_in_range : Pair → Bool
pair_in_range pair = lies_in mean_range pair.mean && lies_in spread_range pair.spread

unfoldable pub pairs_in_range : List Pair → Bool
pairs_in_range [] = true
pairs_in_range (pair ∷ pairs) = pair_in_range pair && pairs_in_range pairs

unfoldable pub curves_in_range : CurveSet → Bool
curves_in_range curves = voll_in_range curves.voll && (floor_in_range curves.floor && pairs_in_range curves.pairs)

-- a curve set with the same pair in each group
abbrev pub even_curves : ℤ → ℤ → ℤ → ℤ → CurveSet
even_curves voll floor mean spread = record { voll = voll; floor = floor; pairs = replicate 24 (record { mean = mean; spread = spread }) }

-- ---- refused curves are no curves: a refusal's number and line alone

abbrev pub refused_curves : ℕ → ℕ → Result CurveSet Refusal
refused_curves number line = Err (record { number = number; line = line })
