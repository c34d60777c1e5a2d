-- What the tests of a pricing tell, number by number, and the library's words for the higher and the lower of two numbers.
use Prim.Native.Nat.{ℕ, ◌≤◌}
use mathlib.Core.Path.{◌≡◌}
use native.Mathlib.Omega.{arith}
use native.Mathlib.Nat.{mul-le-mul}
use lib.IntN.{ℤ, pos, nat_abs, ◌+ℤ◌, ◌-ℤ◌, ◌*ℤ◌}
use mir.Syntax.{w64}
use mir.Val.{SFits}
use Rattle.integer.proofs.Bounds.{abs_fits, abs_sub, abs_mul}
use Rattle.std.specs.Int.{int_max, int_min}
use Rattle.std.proofs.lemmas.Int.{ints}
use Rattle.integer.specs.Order.{min_ℤ, max_ℤ}
use Rattle.pricing_sums.specs.declared.Sums.{Sums}
use Rattle.pricing_sums.specs.declared.header.Header.{Header}
use Rattle.pricing_sums.proofs.Headers.{HeaderBound}
use Rattle.curve_set.specs.declared.CurveSet.{CurveSet}
use Rattle.pricing_adder.specs.Price.{value_of_reserve}
use Rattle.pricing_adder.specs.Reserve.{twice_loads, twice_online, twice_all}

pub lower_is : (x y : ℤ) → int_min x y ≡ min_ℤ x y
unfolding min_ℤ
lower_is x y = grind (arith, ints)

pub higher_is : (x : ℤ) → int_max x (pos 0) ≡ max_ℤ x (pos 0)
unfolding max_ℤ
higher_is x = grind (arith, ints)

pub higher_than_none : (x : ℤ) → int_max x (pos 0) ≡ max_ℤ (pos 0) x
unfolding max_ℤ
higher_than_none x = grind (arith, ints)

-- ---- the steps on plain numbers

pub loads_is : (s : Sums) {net loads : ℤ} → net ≡ int_max s.validated (pos 0) → loads ≡ int_min (pos 2 *ℤ net) (pos 3 *ℤ s.responsive) → loads ≡ twice_loads s
unfolding twice_loads
loads_is s n l = rw (l, n, higher_is, lower_is)

pub online_is : (s : Sums) (x : ℤ) {loads : ℤ} → x ≡ pos 2 *ℤ (s.generation +ℤ s.controllable) +ℤ loads → loads ≡ twice_loads s → x ≡ twice_online s
unfolding twice_online
online_is s x is l = rw (is, l)

pub all_is : (s : Sums) (x : ℤ) {online : ℤ} → x ≡ online +ℤ pos 2 *ℤ s.offline → online ≡ twice_online s → x ≡ twice_all s
unfolding twice_all
all_is s x is o = rw (is, o)

module _ (h : Header) (twice : ℤ) (b : HeaderBound h) (k : nat_abs twice ≤ 200000000000) where
  pub share_fits : SFits w64 (h.factor *ℤ twice)
  share_fits = omega (arith, abs_fits, abs_mul h.factor twice, mul-le-mul b.factor k)

  pub short_fits : SFits w64 (pos 20000 *ℤ h.short)
  short_fits = omega (arith, abs_fits, abs_mul (pos 20000) h.short)

  pub rest_fits : SFits w64 (h.factor *ℤ twice -ℤ pos 20000 *ℤ h.short)
  rest_fits =
      omega (
        arith,
        abs_fits,
        abs_sub (h.factor *ℤ twice) (pos 20000 *ℤ h.short),
        abs_mul h.factor twice,
        mul-le-mul b.factor k,
        abs_mul (pos 20000) h.short,
      )

pub value_is : (curves : CurveSet) (h : Header) (v : ℕ) {top : ℤ} → top ≡ int_max (curves.voll -ℤ h.lambda) (pos 0) → v ≡ nat_abs top → v ≡ value_of_reserve curves h
unfolding value_of_reserve
value_is curves h v t is = rw (is, t, higher_than_none)
