-- The six numbers of a pricing, one by one, and what each depends on.
use Prim.Native.Nat.{◌+◌}
use mathlib.Core.Path.{◌≡◌, refl}
use lib.IntN.{nat_abs}
use Rattle.curve_probability.specs.Probability.{online_probability, offline_probability}
use Rattle.curve_set.specs.declared.CurveSet.{CurveSet}
use Rattle.pricing_sums.specs.declared.Sums.{Sums}
use Rattle.pricing_sums.specs.declared.header.Header.{Header}
use Rattle.pricing_adder.specs.Reserve.{online_reserve, total_reserve}
use Rattle.pricing_adder.specs.Price.{pair_for, value_of_reserve, rounded, shortage_online, shortage_offline, prices_of}

module _ (curves : CurveSet) (h : Header) (s : Sums) where
  pub price_rs : (prices_of curves h s).rs ≡ online_reserve h s
  unfolding prices_of
  price_rs = refl

  pub price_rsns : (prices_of curves h s).rsns ≡ total_reserve h s
  unfolding prices_of
  price_rsns = refl

  pub price_pis : (prices_of curves h s).pis ≡ shortage_online curves h s
  unfolding prices_of
  price_pis = refl

  pub price_pins : (prices_of curves h s).pins ≡ shortage_offline curves h s
  unfolding prices_of
  price_pins = refl

  pub price_online : (prices_of curves h s).online ≡ rounded (value_of_reserve curves h) (shortage_online curves h s + shortage_offline curves h s)
  unfolding prices_of
  price_online = refl

  pub price_offline : (prices_of curves h s).offline ≡ rounded (value_of_reserve curves h) (shortage_offline curves h s)
  unfolding prices_of
  price_offline = refl

  pub shortage_online_is :
      shortage_online curves h s ≡ online_probability (online_reserve h s) curves.floor (pair_for curves h).mean (nat_abs (pair_for curves h).spread)
  unfolding shortage_online
  shortage_online_is = refl

  pub shortage_offline_is :
      shortage_offline curves h s ≡ offline_probability (total_reserve h s) curves.floor (pair_for curves h).mean (nat_abs (pair_for curves h).spread)
  unfolding shortage_offline
  shortage_offline_is = refl

-- VOLL and lambda alone say what reserve is worth
pub value_same : (first second : CurveSet) (h h' : Header) → first.voll ≡ second.voll → h.lambda ≡ h'.lambda → value_of_reserve first h ≡ value_of_reserve second h'
unfolding value_of_reserve
value_same first second h h' voll lambda = rw (voll, lambda)
