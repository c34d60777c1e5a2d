-- The steps of both prices on plain numbers, so that no law has to read what is known at a place of the code.
use Prim.Native.Nat.{ℕ, ◌+◌, ◌≤◌}
use mathlib.Core.Path.{◌≡◌}
use native.Mathlib.Omega.{arith}
use lib.IntN.{ℤ, nat_abs}
use mir.Syntax.{w32, w64}
use mir.Val.{Fits, SFits}
use Rattle.integer.proofs.Bounds.{abs_fits}
use Rattle.curve_probability.specs.Probability.{online_probability, offline_probability}
use Rattle.curve_set.specs.declared.Pair.{Pair}
use Rattle.curve_set.specs.declared.CurveSet.{CurveSet}
use Rattle.pricing_adder.specs.Reserve.{online_reserve, total_reserve}
use Rattle.pricing_adder.specs.Price.{pair_for, rounded, value_of_reserve, shortage_online, shortage_offline, prices_of}
use Rattle.pricing_sums.specs.declared.Sums.{Sums}
use Rattle.pricing_sums.specs.declared.header.Header.{Header}
use Rattle.pricing_adder.specs.declared.price.Prices.{Prices}
use Rattle.pricing_adder.proofs.Order.{rounded_at_most}

-- equal reserves, curve numbers and values give equal probabilities and prices
module _ (curves : CurveSet) (h : Header) (s : Sums) where
  pub online_same :
      {share spread : ℕ} {reserve floor mean : ℤ} {pair : Pair} → share ≡ online_probability reserve floor mean spread → reserve ≡ online_reserve h s →
      floor ≡ curves.floor → mean ≡ pair.mean → spread ≡ nat_abs pair.spread → pair ≡ pair_for curves h → share ≡ shortage_online curves h s
  unfolding shortage_online
  online_same is r f m d p = rw (is, r, f, m, d, p)

  pub offline_same :
      {share spread : ℕ} {reserve floor mean : ℤ} {pair : Pair} → share ≡ offline_probability reserve floor mean spread → reserve ≡ total_reserve h s →
      floor ≡ curves.floor → mean ≡ pair.mean → spread ≡ nat_abs pair.spread → pair ≡ pair_for curves h → share ≡ shortage_offline curves h s
  unfolding shortage_offline
  offline_same is r f m d p = rw (is, r, f, m, d, p)

  pub prices_same :
      {rs rsns : ℤ} {pis pins value online offline : ℕ} → rs ≡ online_reserve h s → rsns ≡ total_reserve h s → pis ≡ shortage_online curves h s →
      pins ≡ shortage_offline curves h s → value ≡ value_of_reserve curves h → online ≡ rounded value (pis + pins) → offline ≡ rounded value pins →
      ◌≡◌ {A = Prices} (record { rs = rs; rsns = rsns; pis = pis; pins = pins; online = online; offline = offline }) (prices_of curves h s)
  unfolding prices_of
  prices_same a b c d e f g = rw (f, g, a, b, c, d, e)

-- what fits, and the shares of two
pub narrow_fits : {z : ℤ} → nat_abs z ≤ 20000000 → SFits w32 z
narrow_fits h = omega (arith, abs_fits)

pub magnitude_fits : {n : ℕ} → n ≤ 20000000 → Fits w32 n
magnitude_fits h = omega arith

-- probabilities and prices in half the width
pub share_fits : {n : ℕ} → n ≤ 1000000000 → Fits w32 n
share_fits h = omega arith

pub price_fits : (v share : ℕ) {price : ℕ} → v ≤ 4000000 → share ≤ 2000000000 → price ≡ rounded v share → Fits w32 price
price_fits v share h k is = omega (arith, rounded_at_most v k)

pub sum_fits : {a b : ℕ} → a ≤ 1000000000 → b ≤ 1000000000 → Fits w64 (a + b)
sum_fits h k = omega arith

pub sum_bound : {a b : ℕ} → a ≤ 1000000000 → b ≤ 1000000000 → a + b ≤ 2000000000
sum_bound h k = omega arith

pub one_bound : {a : ℕ} → a ≤ 1000000000 → a ≤ 2000000000
one_bound h = omega arith
