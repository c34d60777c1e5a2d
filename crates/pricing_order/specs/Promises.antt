-- The one argument on prices, over sums and header numbers: neither price rises when a sum is not lower, PRC is not lower, `short` is not higher, and the mean is
-- not higher, where neither the factor nor the off-line sum is below 0. Off-line ≤ on-line ≤ max(0, VOLL - lambda).
use Rattle.std.specs.Prelude.{◌≤◌, ◌≡◌, pos, ◌≤ℤ◌}
use Rattle.curve_set.specs.declared.CurveSet.{CurveSet}
use Rattle.pricing_adder.specs.Price.{pair_for, prices_of, value_of_reserve}
use Rattle.pricing_sums.specs.Sums.{SumsNotLower}
use Rattle.pricing_sums.specs.declared.Sums.{Sums}
use Rattle.pricing_sums.specs.declared.header.Header.{Header}

-- month, hour, lambda, factor, eea1 and count are equal, PRC is not lower, `short` is not higher
pub record HeaderRaised (first second : Header) : Type 0 where
  pub month : first.month ≡ second.month
  pub hour : first.hour ≡ second.hour
  pub lambda : first.lambda ≡ second.lambda
  pub factor : first.factor ≡ second.factor
  pub prc : first.prc ≤ℤ second.prc
  pub eea1 : first.eea1 ≡ second.eea1
  pub short : second.short ≤ℤ first.short
  pub count : first.count ≡ second.count

-- VOLL and X are equal; the mean of the header's group is not higher, its spread equal
pub record CurvesLowered (h : Header) (first second : CurveSet) : Type 0 where
  pub voll : first.voll ≡ second.voll
  pub floor : first.floor ≡ second.floor
  pub mean : (pair_for second h).mean ≤ℤ (pair_for first h).mean
  pub spread : (pair_for first h).spread ≡ (pair_for second h).spread

abbrev pub MoreReserveNeverRaisesPrices : Type 0
MoreReserveNeverRaisesPrices =
    (first second : CurveSet) (h h' : Header) (s s' : Sums) → pos 0 ≤ℤ h.factor → pos 0 ≤ℤ s.offline → HeaderRaised h h' → CurvesLowered h first second →
    SumsNotLower s s' →
    ((prices_of second h' s').online ≤ (prices_of first h s).online) × ((prices_of second h' s').offline ≤ (prices_of first h s).offline)

abbrev pub OfflineOnlineValue : Type 0
OfflineOnlineValue =
    (curves : CurveSet) (h : Header) (s : Sums) →
    ((prices_of curves h s).offline ≤ (prices_of curves h s).online) × ((prices_of curves h s).online ≤ value_of_reserve curves h)
