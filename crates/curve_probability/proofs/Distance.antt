-- Both probabilities from the distance above X alone.
use mathlib.Core.Path.{◌≡◌, refl, sym, ap, ◌∙◌}
use mathlib.Core.Bool.{Bool, true, false, cond}
use lib.ListN.{length, get_or}
use mathlib.Core.List.{List, [], ◌∷◌, map}
use Prim.Native.Nat.{ℕ, zero, suc, ◌-◌, ◌*◌, ◌≤◌, ◌<◌}
use Rattle.std.proofs.lemmas.List.{get_or-map, length-map}
use native.Mathlib.Nat.{add-zero, min-eq_left, min-eq_right, le_of_lt}
use borrow.Author.Tests.{leb-true, leb-false, lt-leb}
use Rattle.std.proofs.Common.{min}
use native.Mathlib.Omega.{arith}
use lib.Dec.{leb}
use lib.IntN.{ℤ, pos, nat_abs, ◌-ℤ◌, ◌*ℤ◌}
use lib.Signed.{le_z, ◌≤ℤ◌, ◌<ℤ◌}
use mir.Syntax.{w32}
use mir.Val.{Fits, SFits}
use Rattle.std.proofs.lemmas.Int.{ints}
use Rattle.integer.proofs.Difference.{view, to_ℕ}
use Rattle.integer.proofs.Order.{le_z-false}
use Rattle.normal.specs.Normal.{normal}
use Rattle.normal.proofs.Order.{normal_full, normal-le}
use Rattle.curve_probability.specs.Probability.{online_probability, offline_probability}
use Rattle.curve_probability.specs.internal.Distance.{distance_above, left_of_one}

pub normal_at_most : (n : ℤ) (d : ℕ) → normal n d ≤ 1000000000
normal_at_most = normal-le

-- of a fraction p at a distance a above X, f a over d: from 2^40 on it is at least 500
abbrev FarFrom : (ℤ → ℤ) → ℕ → Type 0
FarFrom f d = (a : ℤ) → pos 1099511627776 ≤ℤ a → pos (500 * d) ≤ℤ f a

at_distance : (f : ℤ → ℤ) (d : ℕ) → FarFrom f d → (m : ℕ) → 0 < m →
    left_of_one (min m 1099511627776) (normal (f (pos (min m 1099511627776))) d) ≡ 1000000000 - normal (f (pos m)) d
at_distance f d far m p = go (leb m 1099511627776) refl
  where
    left : (n v : ℕ) → 0 < n → left_of_one n v ≡ 1000000000 - v
    left n v h = rw (lt-leb n 0 h)

    none : (a : ℤ) → pos 1099511627776 ≤ℤ a → 1000000000 - normal (f a) d ≡ 0
    none a h = rw (normal_full (f a) d (far a h))

    go : (near : Bool) → leb m 1099511627776 ≡ near → left_of_one (min m 1099511627776) (normal (f (pos (min m 1099511627776))) d) ≡ 1000000000 - normal (f (pos m)) d
    go true e = rw (min-eq_left (leb-true m 1099511627776 e)) (left m _ p)
    go false e =
        let beyond = leb-false m 1099511627776 e in
        rw (min-eq_right (le_of_lt beyond)) (left 1099511627776 _ (omega arith) ∙ none (pos 1099511627776) (simp to_ℕ (omega arith)) ∙ sym (none (pos m) (simp to_ℕ (omega arith))))

capped : (f : ℤ → ℤ) (d : ℕ) → FarFrom f d → (r x : ℤ) →
    left_of_one (distance_above r x) (normal (f (pos (distance_above r x))) d) ≡ cond (le_z r x) 1000000000 (1000000000 - normal (f (r -ℤ x)) d)
capped f d far r x = go (le_z r x) refl
  where
    above_is : (r x : ℤ) → x <ℤ r → (r -ℤ x ≡ pos (nat_abs (r -ℤ x))) × (0 < nat_abs (r -ℤ x))
    above_is r x = rw (view r, view x) (simp to_ℕ (omega arith))

    go : (low : Bool) → le_z r x ≡ low →
        let m = cond low 0 (min (nat_abs (r -ℤ x)) 1099511627776) in
        left_of_one m (normal (f (pos m)) d) ≡ cond low 1000000000 (1000000000 - normal (f (r -ℤ x)) d)
    go true e = refl
    go false e =
        let is = above_is r x (le_z-false r x e) in
        at_distance f d far (nat_abs (r -ℤ x)) is.1 ∙ ap (λ (a : ℤ). 1000000000 - normal (f a) d) (sym is.0)

-- at X and below it
module _ (reserve floor mean : ℤ) (spread : ℕ) (h : le_z reserve floor ≡ true) where
  pub online_at_x : 1000000000 ≡ online_probability reserve floor mean spread
  unfolding online_probability
  online_at_x = rw h refl

  pub offline_at_x : 1000000000 ≡ offline_probability reserve floor mean spread
  unfolding offline_probability
  offline_at_x = rw h refl

module _ (reserve floor mean : ℤ) (spread : ℕ) (m : SFits w32 mean) (s : Fits w32 spread) where
  pub online_is : left_of_one (distance_above reserve floor) (normal (pos 50000 *ℤ (pos 2 *ℤ pos (distance_above reserve floor) -ℤ mean)) (707 * spread))
      ≡ online_probability reserve floor mean spread
  unfolding online_probability
  online_is = capped (λ (a : ℤ). pos 50000 *ℤ (pos 2 *ℤ a -ℤ mean)) (707 * spread) (λ a h. far a mean h m) reserve floor
    where
      far : (a mean : ℤ) → pos 1099511627776 ≤ℤ a → SFits w32 mean → pos (500 * (707 * spread)) ≤ℤ (pos 50000 *ℤ (pos 2 *ℤ a -ℤ mean))
      far a mean h fits = omega (arith, ints)

  pub offline_is : left_of_one (distance_above reserve floor) (normal (pos 100 *ℤ (pos (distance_above reserve floor) -ℤ mean)) spread)
      ≡ offline_probability reserve floor mean spread
  unfolding offline_probability
  offline_is = capped (λ (a : ℤ). pos 100 *ℤ (a -ℤ mean)) spread (λ a h. far a mean h m) reserve floor
    where
      far : (a mean : ℤ) → pos 1099511627776 ≤ℤ a → SFits w32 mean → pos (500 * spread) ≤ℤ (pos 100 *ℤ (a -ℤ mean))
      far a mean h fits = omega (arith, ints)

-- each value of N
pub each_at_most : (numerators : List ℤ) (spread : ℕ) {values : List ℕ} → values ≡ map (λ (numerator : ℤ). normal numerator spread) numerators →
    (i : ℕ) → get_or values i 0 ≤ 1000000000
each_at_most numerators spread v i = rw v (go numerators i)
  where
    go : (numerators : List ℤ) (i : ℕ) → get_or (map (λ (numerator : ℤ). normal numerator spread) numerators) i 0 ≤ 1000000000
    go [] i = omega arith
    go (numerator ∷ numerators) zero = normal-le numerator spread
    go (numerator ∷ numerators) (suc i) = go numerators i

-- N at the place i, of numerators of the distances
pub at_place : (above : List ℕ) (mean : ℤ) (spread : ℕ) {numerators : List ℤ} {values : List ℕ} →
    numerators ≡ map (λ (distance : ℕ). pos 100 *ℤ (pos distance -ℤ mean)) above → values ≡ map (λ (numerator : ℤ). normal numerator spread) numerators →
    (i : ℕ) → i < length above → get_or values i 0 ≡ normal (pos 100 *ℤ (pos (get_or above i 0) -ℤ mean)) spread
at_place above mean spread e v i h =
    rw (
      v,
      e,
      get_or-map (λ (numerator : ℤ). normal numerator spread) (map (λ (distance : ℕ). pos 100 *ℤ (pos distance -ℤ mean)) above) i (pos 0) 0 (rw length-map h),
      get_or-map (λ (distance : ℕ). pos 100 *ℤ (pos distance -ℤ mean)) above i 0 (pos 0) h,
    )

-- what is left at a distance is piNS there
pub left_is : (distance : ℕ) (mean : ℤ) (spread : ℕ) → left_of_one distance (normal (pos 100 *ℤ (pos distance -ℤ mean)) spread)
    ≡ offline_probability (pos distance) (pos 0) mean spread
unfolding offline_probability
left_is distance mean spread = rw (add-zero distance)
