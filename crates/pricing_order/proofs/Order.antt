-- More reserve never raises a price: reserves never fall with the sums, probabilities never rise with the reserve (the promise of the crate curve), and rounding
-- keeps the order. Off-line ≤ on-line ≤ v, since each probability is at most 10^9.
use Prim.Native.Nat.{◌≤◌}
use mathlib.Core.Path.{◌≡◌}
use native.Mathlib.Omega.{arith}
use lib.IntN.{pos, nat_abs}
use lib.Signed.{◌≤ℤ◌}
use Rattle.curve.proofs.Promises.{probabilities_never_rise}
use Rattle.curve_set.specs.declared.CurveSet.{CurveSet}
use Rattle.pricing_adder.specs.Price.{pair_for, value_of_reserve, shortage_online, shortage_offline, prices_of}
use Rattle.pricing_adder.proofs.Bounds.{shortage_online_bound, shortage_offline_bound}
use Rattle.pricing_adder.proofs.Order.{reserve_monotone, total_monotone, rounded_monotone, rounded_at_most}
use Rattle.pricing_adder.proofs.Prices.{price_online, price_offline, shortage_online_is, shortage_offline_is, value_same}
use Rattle.pricing_order.specs.Promises.{HeaderRaised, CurvesLowered, MoreReserveNeverRaisesPrices, OfflineOnlineValue}
use Rattle.pricing_sums.specs.Sums.{SumsNotLower}
use Rattle.pricing_sums.specs.declared.Sums.{Sums}
use Rattle.pricing_sums.specs.declared.header.Header.{Header}

pub offline_online_value : OfflineOnlineValue
offline_online_value curves h s =
    let v = value_of_reserve curves h in
    rw (price_online curves h s, price_offline curves h s)
    (rounded_monotone v (omega arith), rounded_at_most v (omega (arith, shortage_online_bound curves h s, shortage_offline_bound curves h s)))

module _ (first second : CurveSet) (h h' : Header) (s s' : Sums) (p : pos 0 ≤ℤ h.factor) (d : pos 0 ≤ℤ s.offline) (r : HeaderRaised h h')
    (l : CurvesLowered h first second) (n : SumsNotLower s s') where
  pair_equal : pair_for second h' ≡ pair_for second h
  pair_equal = rw (r.month, r.hour)

  pub shortage_online_monotone : shortage_online second h' s' ≤ shortage_online first h s
  shortage_online_monotone =
      rw (shortage_online_is second h' s', shortage_online_is first h s, pair_equal, l.spread, ← l.floor)
      (probabilities_never_rise.0 _ _ first.floor _ _ (nat_abs (pair_for second h).spread) (reserve_monotone h h' p r.factor r.short n) l.mean)

  pub shortage_offline_monotone : shortage_offline second h' s' ≤ shortage_offline first h s
  shortage_offline_monotone =
      rw (shortage_offline_is second h' s', shortage_offline_is first h s, pair_equal, l.spread, ← l.floor)
      (probabilities_never_rise.1 _ _ first.floor _ _ (nat_abs (pair_for second h).spread)
      (total_monotone h h' p r.factor r.short r.prc r.eea1 d n) l.mean)

  prices_monotone : ((prices_of second h' s').online ≤ (prices_of first h s).online) × ((prices_of second h' s').offline ≤ (prices_of first h s).offline)
  prices_monotone =
      let offline = shortage_offline_monotone in
      let online = shortage_online_monotone in
      let v = value_of_reserve first h in
      rw (
        price_online second h' s',
        price_offline second h' s',
        price_online first h s,
        price_offline first h s,
        ← value_same first second h h' l.voll r.lambda,
      )
      (rounded_monotone v (omega arith), rounded_monotone v offline)

pub more_reserve_never_raises_prices : MoreReserveNeverRaisesPrices
more_reserve_never_raises_prices = prices_monotone
