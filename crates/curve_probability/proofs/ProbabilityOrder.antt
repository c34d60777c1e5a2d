-- The two probabilities: at and below X, above it and far above it; neither exceeds one, and neither rises with the reserve, nor when
-- the mean falls.
use native.Mathlib.Nat.{zero-add}
use mathlib.Core.List.{List, [], ◌∷◌, map}
use mathlib.Core.Path.{◌≡◌, refl, ap, ap₂, ◌∙◌}
use mathlib.Core.Bool.{Bool, true, false, cond}
use Prim.Native.Nat.{ℕ, ◌-◌, ◌*◌, ◌≤◌}
use native.Mathlib.Omega.{arith}
use lib.IntN.{ℤ, pos, nat_abs, ◌+ℤ◌, ◌-ℤ◌, ◌*ℤ◌}
use lib.Signed.{le_z, ◌≤ℤ◌, ◌<ℤ◌}
use Rattle.integer.proofs.Difference.{view, to_ℕ}
use Rattle.integer.proofs.Order.{le_z-true, le_z-false, le-le_z, lt-le_z}
use Rattle.normal.specs.Normal.{normal}
use Rattle.normal.proofs.Order.{normal_full, normal_order}
use Rattle.curve_probability.specs.Probability.{online_probability, offline_probability, offline_probabilities}

-- ---- both: one at and below X, else what N leaves of one

abbrev probability : Bool → ℤ → ℕ → ℕ
probability low numerator denominator = cond low 1000000000 (1000000000 - normal numerator denominator)

probability_le : (low : Bool) (n : ℤ) (d : ℕ) → probability low n d ≤ 1000000000
probability_le true n d = omega arith
probability_le false n d = omega arith

still_above : (reserve reserve' floor : ℤ) → reserve ≤ℤ reserve' → floor <ℤ reserve → floor <ℤ reserve'
still_above reserve reserve' floor = rw (view reserve, view reserve', view floor) (simp to_ℕ (omega arith))

never_rises : (reserve reserve' floor n n' : ℤ) (d : ℕ) → reserve ≤ℤ reserve' → n ≤ℤ n' →
    probability (le_z reserve' floor) n' d ≤ probability (le_z reserve floor) n d
never_rises reserve reserve' floor n n' d h k = go (le_z reserve floor) refl
  where
    go : (low : Bool) → le_z reserve floor ≡ low → probability (le_z reserve' floor) n' d ≤ probability low n d
    go true e = probability_le (le_z reserve' floor) n' d
    go false e = rw (lt-le_z (still_above reserve reserve' floor h (le_z-false reserve floor e))) (omega (arith, normal_order d k))

-- from a fraction of 500 on nothing is left
none_left : (n : ℤ) (d : ℕ) → pos (500 * d) ≤ℤ n → 1000000000 - normal n d ≡ 0
none_left n d h = omega (arith, normal_full n d h)

-- ---- piS and piNS

module _ (reserve floor mean : ℤ) (spread : ℕ) where
  pub online_le : online_probability reserve floor mean spread ≤ 1000000000
  unfolding online_probability
  online_le = probability_le (le_z reserve floor) _ _

  pub offline_le : offline_probability reserve floor mean spread ≤ 1000000000
  unfolding offline_probability
  offline_le = probability_le (le_z reserve floor) _ _

  module _ (low : reserve ≤ℤ floor) where
    pub online_low : online_probability reserve floor mean spread ≡ 1000000000
    unfolding online_probability
    online_low = rw (le-le_z low)

    pub offline_low : offline_probability reserve floor mean spread ≡ 1000000000
    unfolding offline_probability
    offline_low = rw (le-le_z low)

  module _ (high : floor <ℤ reserve) where
    pub online_high : online_probability reserve floor mean spread ≡ 1000000000 - normal (pos 50000 *ℤ (pos 2 *ℤ (reserve -ℤ floor) -ℤ mean)) (707 * spread)
    unfolding online_probability
    online_high = rw (lt-le_z high)

    pub offline_high : offline_probability reserve floor mean spread ≡ 1000000000 - normal (pos 100 *ℤ (reserve -ℤ floor -ℤ mean)) spread
    unfolding offline_probability
    offline_high = rw (lt-le_z high)

-- far above X the fraction is at least 500 whatever X, the mean and the spread, within their widths
abbrev pub Far : (reserve floor mean : ℤ) (spread : ℕ) → Type 0
Far reserve floor mean spread =
    (pos 1099511627776 <ℤ reserve) × (nat_abs floor ≤ 2147483648) × (nat_abs mean ≤ 2147483648) × (spread ≤ 4294967296)

far_high : (reserve floor mean : ℤ) (spread : ℕ) → Far reserve floor mean spread → floor <ℤ reserve
far_high r x m s = rw (view r, view x, view m) (simp to_ℕ (omega arith))

module _ (reserve floor mean : ℤ) (spread : ℕ) (far : Far reserve floor mean spread) where
  pub online_far : online_probability reserve floor mean spread ≡ 0
  online_far = online_high reserve floor mean spread (far_high reserve floor mean spread far) ∙ none_left _ _ (beyond reserve floor mean far)
    where
      beyond : (r x m : ℤ) → Far r x m spread → pos (500 * (707 * spread)) ≤ℤ (pos 50000 *ℤ (pos 2 *ℤ (r -ℤ x) -ℤ m))
      beyond r x m = rw (view r, view x, view m) (simp to_ℕ (omega arith))

  pub offline_far : offline_probability reserve floor mean spread ≡ 0
  offline_far = offline_high reserve floor mean spread (far_high reserve floor mean spread far) ∙ none_left _ _ (beyond reserve floor mean far)
    where
      beyond : (r x m : ℤ) → Far r x m spread → pos (500 * spread) ≤ℤ (pos 100 *ℤ (r -ℤ x -ℤ m))
      beyond r x m = rw (view r, view x, view m) (simp to_ℕ (omega arith))

-- not far above X the reserve is small
pub near : (reserve floor : ℤ) → floor <ℤ reserve → reserve ≤ℤ pos 1099511627776 → nat_abs floor ≤ 2147483648 → nat_abs reserve ≤ 1099511627776
near reserve floor = rw (view reserve, view floor) (simp to_ℕ (omega arith))

-- ---- neither rises with the reserve, nor when the mean falls

pub online_never_rises : (reserve reserve' floor mean mean' : ℤ) (spread : ℕ) → reserve ≤ℤ reserve' → mean' ≤ℤ mean →
    online_probability reserve' floor mean' spread ≤ online_probability reserve floor mean spread
unfolding online_probability
online_never_rises reserve reserve' floor mean mean' spread h k =
    never_rises reserve reserve' floor _ _ (707 * spread) h (numerators reserve reserve' floor mean mean' h k)
  where
    numerators : (r r' x m m' : ℤ) → r ≤ℤ r' → m' ≤ℤ m → (pos 50000 *ℤ (pos 2 *ℤ (r -ℤ x) -ℤ m)) ≤ℤ (pos 50000 *ℤ (pos 2 *ℤ (r' -ℤ x) -ℤ m'))
    numerators r r' x m m' = rw (view r, view r', view x, view m, view m') (simp to_ℕ (omega arith))

pub offline_never_rises : (reserve reserve' floor mean mean' : ℤ) (spread : ℕ) → reserve ≤ℤ reserve' → mean' ≤ℤ mean →
    offline_probability reserve' floor mean' spread ≤ offline_probability reserve floor mean spread
unfolding offline_probability
offline_never_rises reserve reserve' floor mean mean' spread h k =
    never_rises reserve reserve' floor _ _ spread h (numerators reserve reserve' floor mean mean' h k)
  where
    numerators : (r r' x m m' : ℤ) → r ≤ℤ r' → m' ≤ℤ m → (pos 100 *ℤ (r -ℤ x -ℤ m)) ≤ℤ (pos 100 *ℤ (r' -ℤ x -ℤ m'))
    numerators r r' x m m' = rw (view r, view r', view x, view m, view m') (simp to_ℕ (omega arith))

-- ---- what counts is how far the reserve lies above X, not where X lies

pub offline_above : (above floor floor' mean : ℤ) (spread : ℕ) →
    offline_probability (floor +ℤ above) floor mean spread ≡ offline_probability (floor' +ℤ above) floor' mean spread
unfolding offline_probability
offline_above above floor floor' mean spread =
    rw (low floor (le_z above (pos 0)) refl, low floor' (le_z above (pos 0)) refl, numerators floor floor' above mean)
  where
    at_most : (x a : ℤ) → a ≤ℤ pos 0 → (x +ℤ a) ≤ℤ x
    at_most x a = rw (view x, view a) (simp to_ℕ (omega arith))

    more : (x a : ℤ) → pos 0 <ℤ a → x <ℤ (x +ℤ a)
    more x a = rw (view x, view a) (simp to_ℕ (omega arith))

    low : (x : ℤ) (none : Bool) → le_z above (pos 0) ≡ none → le_z (x +ℤ above) x ≡ none
    low x true e = le-le_z (at_most x above (le_z-true above (pos 0) e))
    low x false e = lt-le_z (more x above (le_z-false above (pos 0) e))

    numerators : (x x' a m : ℤ) → pos 100 *ℤ ((x +ℤ a) -ℤ x -ℤ m) ≡ pos 100 *ℤ ((x' +ℤ a) -ℤ x' -ℤ m)
    numerators x x' a m = rw (view x, view x', view a, view m) (simp to_ℕ (omega arith))

-- piNS at several reserves above X, wherever X lies
pub offline_many : (above : List ℕ) (floor mean : ℤ) (spread : ℕ) →
    offline_probabilities above mean spread ≡ map (λ (distance : ℕ). offline_probability (floor +ℤ pos distance) floor mean spread) above
unfolding offline_probabilities
offline_many [] floor mean spread = refl
offline_many (distance ∷ above) floor mean spread =
    let here : pos 0 +ℤ pos distance ≡ pos distance = ap pos (zero-add distance) in
    let same : offline_probability (pos distance) (pos 0) mean spread ≡ offline_probability (floor +ℤ pos distance) floor mean spread =
    rw here at (offline_above (pos distance) (pos 0) floor mean spread) in
    ap₂ ◌∷◌ same (offline_many above floor mean spread)
