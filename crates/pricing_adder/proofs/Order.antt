-- Reserves never fall where no sum is lower, PRC is not lower and `short` is not higher; rounding keeps the order.
use Prim.Native.Nat.{ℕ, ◌≤◌}
use mathlib.Core.Path.{◌≡◌, refl}
use mathlib.Core.Bool.{Bool, true, false, cond}
use native.Mathlib.Nat.{mul-le-mul_left}
use native.Mathlib.Omega.{arith}
use lib.IntN.{ℤ, pos, ◌+ℤ◌, ◌*ℤ◌}
use lib.Signed.{le_z, ◌≤ℤ◌, ≤ℤ_refl, clash_ℤ}
use Rattle.integer.proofs.Floor.{floor_mono}
use Rattle.integer.proofs.Order.{le_z-true, le_z-false, ≤ℤ_trans, +ℤ_mono, -ℤ-mono, *ℤ_mono, *ℤ_mono_pos, min_ℤ_mono, max_ℤ_mono}
use Rattle.integer.proofs.Difference.{view, to_ℕ}
use Rattle.pricing_sums.specs.Sums.{SumsNotLower}
use Rattle.pricing_sums.specs.declared.Sums.{Sums}
use Rattle.pricing_sums.specs.declared.header.Header.{Header}
use Rattle.pricing_adder.specs.Reserve.{twice_loads, twice_online, twice_all, discounted, online_reserve, total_reserve}
use Rattle.pricing_adder.specs.Price.{rounded}

-- ---- before the factor

pub loads_monotone : {s s' : Sums} → SumsNotLower s s' → twice_loads s ≤ℤ twice_loads s'
unfolding twice_loads
loads_monotone n = min_ℤ_mono (*ℤ_mono_pos 2 (max_ℤ_mono n.validated (≤ℤ_refl (pos 0)))) (*ℤ_mono_pos 3 n.responsive)

pub online_monotone : {s s' : Sums} → SumsNotLower s s' → twice_online s ≤ℤ twice_online s'
unfolding twice_online
online_monotone n = +ℤ_mono (*ℤ_mono_pos 2 (+ℤ_mono n.generation n.controllable)) (loads_monotone n)

pub all_monotone : {s s' : Sums} → SumsNotLower s s' → twice_all s ≤ℤ twice_all s'
unfolding twice_all
all_monotone n = +ℤ_mono (online_monotone n) (*ℤ_mono_pos 2 n.offline)

-- D is never negative
pub online_at_most_all : (s : Sums) → pos 0 ≤ℤ s.offline → twice_online s ≤ℤ twice_all s
unfolding twice_all
online_at_most_all s = go (twice_online s) s.offline
  where
    go : (x y : ℤ) → pos 0 ≤ℤ y → x ≤ℤ (x +ℤ pos 2 *ℤ y)
    go x y = rw (view x, view y) (simp to_ℕ (omega arith))

-- ---- the reserves, with the same factor and no more under-generation

module _ (h h' : Header) (factor : pos 0 ≤ℤ h.factor) (same : h.factor ≡ h'.factor) (short : h'.short ≤ℤ h.short) where
  pub discounted_monotone : {x y : ℤ} → x ≤ℤ y → discounted h x ≤ℤ discounted h' y
  unfolding discounted
  discounted_monotone k = rw (← same) (floor_mono 20000 (-ℤ-mono (*ℤ_mono factor k) (*ℤ_mono_pos 20000 short)))

  pub reserve_monotone : {s s' : Sums} → SumsNotLower s s' → online_reserve h s ≤ℤ online_reserve h' s'
  unfolding online_reserve
  reserve_monotone n = discounted_monotone (online_monotone n)

  -- where PRC comes above the PRC at which EEA Level 1 starts, D is added
  pub total_monotone :
      {s s' : Sums} → h.prc ≤ℤ h'.prc → h.eea1 ≡ h'.eea1 → pos 0 ≤ℤ s.offline → SumsNotLower s s' → total_reserve h s ≤ℤ total_reserve h' s'
  unfolding total_reserve online_reserve
  total_monotone {s} {s'} prc level d n = go (le_z h.prc h.eea1) (le_z h'.prc h'.eea1) refl refl
    where
      go : (b b' : Bool) → le_z h.prc h.eea1 ≡ b → le_z h'.prc h'.eea1 ≡ b' →
          cond b (discounted h (twice_online s)) (discounted h (twice_all s)) ≤ℤ cond b' (discounted h' (twice_online s')) (discounted h' (twice_all s'))
      go true true e e' = discounted_monotone (online_monotone n)
      go true false e e' = discounted_monotone (≤ℤ_trans (online_at_most_all s d) (all_monotone n))
      go false true e e' = clash_ℤ (le_z-false _ _ e) (≤ℤ_trans prc (rw level (le_z-true _ _ e')))
      go false false e e' = discounted_monotone (all_monotone n)

-- ---- rounding

pub rounded_monotone : (v : ℕ) {share share' : ℕ} → share ≤ share' → rounded v share ≤ rounded v share'
unfolding rounded
rounded_monotone v k = omega (arith, mul-le-mul_left v k)

-- a share of at most one, in billionths of two
pub rounded_at_most : (v : ℕ) {share : ℕ} → share ≤ 2000000000 → rounded v share ≤ v
unfolding rounded
rounded_at_most v k = omega (arith, mul-le-mul_left v k)
