-- What the tests of curves, sums and header leave: magnitudes, by which every step of pricing fits its machine number.
use Prim.Native.Nat.{ℕ, ◌≤◌, ◌*◌}
use native.Mathlib.Nat.{le_refl, mul-le-mul}
use mathlib.Core.Path.{◌≡◌}
use mathlib.Core.Bool.{Bool, true, false, cond}
use native.Mathlib.Omega.{arith}
use lib.IntN.{ℤ, pos, nat_abs, ◌+ℤ◌, ◌-ℤ◌, ◌*ℤ◌}
use lib.ListN.{get_or}
use lib.Signed.{le_z}
use mir.Syntax.{w64}
use mir.Val.{SFits}
use Rattle.integer.specs.Order.{max_ℤ}
use Rattle.integer.proofs.Bounds.{abs_add, abs_sub, abs_mul, abs_min, abs_max, abs_fits}
use Rattle.integer.proofs.Floor.{floor_bound}
use Rattle.curve_probability.proofs.ProbabilityOrder.{online_le, offline_le}
use Rattle.curve_set.specs.Curves.{curves_in_range}
use Rattle.curve_set.proofs.InRange.{voll_small, floor_small, mean_small, spread_small}
use Rattle.curve_set.specs.declared.Pair.{Pair}
use Rattle.curve_set.specs.declared.CurveSet.{CurveSet}
use Rattle.pricing_sums.proofs.Headers.{HeaderBound}
use Rattle.pricing_sums.proofs.SumsBounds.{SumsBound}
use Rattle.pricing_adder.specs.Reserve.{twice_loads, twice_online, twice_all, discounted, online_reserve, total_reserve}
use Rattle.pricing_adder.specs.Price.{pair_for, value_of_reserve, shortage_online, shortage_offline}
use Rattle.pricing_sums.specs.declared.Sums.{Sums}
use Rattle.pricing_sums.specs.declared.header.Header.{Header}

-- ---- the curve set

pub record PairBound (pair : Pair) : Type 0 where
  pub mean : nat_abs pair.mean ≤ 20000000
  pub spread : nat_abs pair.spread ≤ 20000000

pub record CurvesBound (curves : CurveSet) : Type 0 where
  pub voll : nat_abs curves.voll ≤ 2000000
  pub floor : nat_abs curves.floor ≤ 20000000
  pub pair : (g : ℕ) → PairBound (get_or curves.pairs g (record { mean = pos 0; spread = pos 0 }))

pub curves_bound : (curves : CurveSet) → curves_in_range curves ≡ true → CurvesBound curves
curves_bound curves e =
    record {
      voll = voll_small curves e;
      floor = floor_small curves e;
      pair = λ g. record { mean = mean_small curves e g; spread = spread_small curves e g };
    }

-- ---- reserves

pub loads_bound : {s : Sums} → SumsBound s → nat_abs (twice_loads s) ≤ 40960000000
unfolding twice_loads
loads_bound {s} b =
    let net = max_ℤ s.validated (pos 0) in
    omega (arith, abs_min (pos 2 *ℤ net) (pos 3 *ℤ s.responsive), abs_mul (pos 2) net, abs_mul (pos 3) s.responsive, abs_max s.validated (pos 0))

pub online_bound : {s : Sums} → SumsBound s → nat_abs (twice_online s) ≤ 110000000000
unfolding twice_online
online_bound {s} b =
    let units = s.generation +ℤ s.controllable in
    omega (arith, loads_bound b, abs_add (pos 2 *ℤ units) (twice_loads s), abs_mul (pos 2) units, abs_add s.generation s.controllable)

pub all_bound : {s : Sums} → SumsBound s → nat_abs (twice_all s) ≤ 130000000000
unfolding twice_all
all_bound {s} b = omega (arith, online_bound b, abs_add (twice_online s) (pos 2 *ℤ s.offline), abs_mul (pos 2) s.offline)

-- ---- v

pub difference_fits : {curves : CurveSet} {h : Header} → CurvesBound curves → HeaderBound h → SFits w64 (curves.voll -ℤ h.lambda)
difference_fits {curves} {h} c b = omega (arith, abs_fits, abs_sub curves.voll h.lambda, c.voll)

pub value_bound : {curves : CurveSet} {h : Header} → CurvesBound curves → HeaderBound h → value_of_reserve curves h ≤ 4000000
unfolding value_of_reserve
value_bound {curves} {h} c b =
    omega (arith, abs_max (pos 0) (curves.voll -ℤ h.lambda), abs_sub curves.voll h.lambda, c.voll)

-- ---- both probabilities are at most one

pub shortage_online_bound : (curves : CurveSet) (h : Header) (s : Sums) → shortage_online curves h s ≤ 1000000000
unfolding shortage_online
shortage_online_bound curves h s =
    online_le (online_reserve h s) curves.floor (pair_for curves h).mean (nat_abs (pair_for curves h).spread)

pub shortage_offline_bound : (curves : CurveSet) (h : Header) (s : Sums) → shortage_offline curves h s ≤ 1000000000
unfolding shortage_offline
shortage_offline_bound curves h s =
    offline_le (total_reserve h s) curves.floor (pair_for curves h).mean (nat_abs (pair_for curves h).spread)

-- ---- the reserves

discounted_bound : {h : Header} (twice : ℤ) → HeaderBound h → nat_abs twice ≤ 130000000000 → nat_abs (discounted h twice) ≤ 100000000000
unfolding discounted
discounted_bound {h} twice b near =
    let product : nat_abs (h.factor *ℤ twice) ≤ 10000 * 130000000000 = rw (abs_mul h.factor twice) (mul-le-mul b.factor near) in
    let taken : nat_abs (pos 20000 *ℤ h.short) ≤ 20000 * 200000000 = rw (abs_mul (pos 20000) h.short) (mul-le-mul (le_refl 20000) b.short) in
    floor_bound (h.factor *ℤ twice -ℤ pos 20000 *ℤ h.short) 20000 100000000000
    (omega (arith, abs_sub (h.factor *ℤ twice) (pos 20000 *ℤ h.short)))

pub online_reserve_bound : {h : Header} {s : Sums} → HeaderBound h → SumsBound s → nat_abs (online_reserve h s) ≤ 100000000000
unfolding online_reserve
online_reserve_bound {h} {s} b sums = discounted_bound (twice_online s) b (omega (arith, online_bound sums))

pub total_reserve_bound : {h : Header} {s : Sums} → HeaderBound h → SumsBound s → nat_abs (total_reserve h s) ≤ 100000000000
unfolding total_reserve
total_reserve_bound {h} {s} b sums = go (le_z h.prc h.eea1)
  where
    go : (low : Bool) → nat_abs (cond low (online_reserve h s) (discounted h (twice_all s))) ≤ 100000000000
    go true = online_reserve_bound b sums
    go false = discounted_bound (twice_all s) b (all_bound sums)
