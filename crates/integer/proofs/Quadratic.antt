-- The quadratic q − 2·x·s + c·x² over ℤ: its least value on whole numbers and a bound next to it, a shift of x, one more error.
use mathlib.Core.Path.{◌≡◌, refl, sym, ap, ◌∙◌, subst}
use mathlib.Core.Logic.{◌⊎◌, inl, inr}
use native.Mathlib.Omega.{arith}
use lib.IntN.{ℤ, pos, neg_ℤ, ◌+ℤ◌, ◌-ℤ◌, ◌*ℤ◌}
use lib.Signed.{◌≤ℤ◌, ◌<ℤ◌}
use Rattle.integer.specs.Quadratic.{quadratic}
use Rattle.integer.proofs.Difference.{view, to_ℕ, to_ℕ_products}
use Rattle.integer.proofs.Order.{≤ℤ_or_<ℤ, product_nonneg, sum_nonneg, square_nonneg, -ℤ-nonneg, pos-≤ℤ, <ℤ-suc, <ℤ_to_≤ℤ}

-- the steps in which code computes it
pub quadratic_is : (s q c x : ℤ) → quadratic s q c x ≡ q -ℤ pos 2 *ℤ (x *ℤ s) +ℤ c *ℤ (x *ℤ x)
unfolding quadratic
quadratic_is s q c x = refl

-- with no errors the squares are left
pub quadratic_none : (q x : ℤ) → quadratic (pos 0) q (pos 0) x ≡ q
unfolding quadratic
quadratic_none q x = rw (view q, view x) (simp to_ℕ (omega arith))

-- every error falls by d, and x too: the value stays
pub quadratic_shift : (s q c x d : ℤ) → quadratic (s -ℤ c *ℤ d) (q -ℤ pos 2 *ℤ (d *ℤ s) +ℤ c *ℤ (d *ℤ d)) c (x -ℤ d) ≡ quadratic s q c x
unfolding quadratic
quadratic_shift s q c x d = rw (view s, view q, view c, view x, view d) (simp to_ℕ_products (omega arith))

-- one more error e adds (e − x)²
pub quadratic-add : (s q c x e : ℤ) → quadratic (s +ℤ e) (q +ℤ e *ℤ e) (c +ℤ pos 1) x ≡ quadratic s q c x +ℤ (e -ℤ x) *ℤ (e -ℤ x)
unfolding quadratic
quadratic-add s q c x e = rw (view s, view q, view c, view x, view e) (simp to_ℕ (omega arith))

-- On either side of s / c the value is at least that at the whole number next to s / c.
left_of : (s q c m k : ℤ) → quadratic s q c (m -ℤ k) ≡ quadratic s q c m +ℤ k *ℤ (pos 2 *ℤ (s -ℤ c *ℤ m) +ℤ c *ℤ k)
unfolding quadratic
left_of s q c m k = rw (view s, view q, view c, view m, view k) (simp to_ℕ_products (omega arith))

right_of : (s q c m k : ℤ) → quadratic s q c (m +ℤ pos 1 +ℤ k) ≡ quadratic s q c (m +ℤ pos 1) +ℤ k *ℤ (pos 2 *ℤ (c *ℤ (m +ℤ pos 1) -ℤ s) +ℤ c *ℤ k)
unfolding quadratic
right_of s q c m k = rw (view s, view q, view c, view m, view k) (simp to_ℕ_products (omega arith))

pub quadratic_nonneg : (s q c m : ℤ) → (c *ℤ m) ≤ℤ s → s <ℤ (c *ℤ (m +ℤ pos 1)) → pos 0 ≤ℤ quadratic s q c m → pos 0 ≤ℤ quadratic s q c (m +ℤ pos 1)
    → (x : ℤ) → pos 0 ≤ℤ quadratic s q c x
quadratic_nonneg s q c m low high f g x = go (≤ℤ_or_<ℤ x m)
  where
    positive : (c m s : ℤ) → (c *ℤ m) ≤ℤ s → s <ℤ (c *ℤ (m +ℤ pos 1)) → pos 0 ≤ℤ c
    positive c m s = rw (view c, view m, view s) (simp to_ℕ (omega arith))

    gap : (c k d : ℤ) → pos 0 ≤ℤ c → pos 0 ≤ℤ k → pos 0 ≤ℤ d → pos 0 ≤ℤ (k *ℤ (pos 2 *ℤ d +ℤ c *ℤ k))
    gap c k d hc hk hd = product_nonneg hk (sum_nonneg (product_nonneg ((pos-≤ℤ 0 2).1 (omega arith)) hd) (product_nonneg hc hk))

    below : (x m : ℤ) → x ≡ m -ℤ (m -ℤ x)
    below x m = rw (view x, view m) (simp to_ℕ (omega arith))

    above : (x m : ℤ) → x ≡ m +ℤ pos 1 +ℤ (x -ℤ (m +ℤ pos 1))
    above x m = rw (view x, view m) (simp to_ℕ (omega arith))

    go : (x ≤ℤ m) ⊎ (m <ℤ x) → pos 0 ≤ℤ quadratic s q c x
    go (inl h) = subst (λ (z : ℤ). pos 0 ≤ℤ z) (sym (ap (quadratic s q c) (below x m) ∙ left_of s q c m (m -ℤ x)))
        (sum_nonneg f (gap c (m -ℤ x) (s -ℤ c *ℤ m) (positive c m s low high) ((-ℤ-nonneg m x).1 h) ((-ℤ-nonneg s (c *ℤ m)).1 low)))
    go (inr h) = subst (λ (z : ℤ). pos 0 ≤ℤ z) (sym (ap (quadratic s q c) (above x m) ∙ right_of s q c m (x -ℤ (m +ℤ pos 1))))
        (sum_nonneg g (gap c (x -ℤ (m +ℤ pos 1)) (c *ℤ (m +ℤ pos 1) -ℤ s) (positive c m s low high)
        ((-ℤ-nonneg x (m +ℤ pos 1)).1 ((<ℤ-suc m x).0 h)) ((-ℤ-nonneg (c *ℤ (m +ℤ pos 1)) s).1 (<ℤ_to_≤ℤ high))))

-- At the floor of s / c the value is at most q + c: with r = s − c·m, the rest is c + m·(c·m + 2·r), and (c·(m + 1)² − 2·m·(c − r)) too
rest_above : (s q c m : ℤ) → q +ℤ c -ℤ quadratic s q c m ≡ c +ℤ m *ℤ (c *ℤ m +ℤ pos 2 *ℤ (s -ℤ c *ℤ m))
unfolding quadratic
rest_above s q c m = rw (view s, view q, view c, view m) (simp to_ℕ_products (omega arith))

rest_below : (s q c m : ℤ) → q +ℤ c -ℤ quadratic s q c m ≡ c *ℤ ((m +ℤ pos 1) *ℤ (m +ℤ pos 1)) +ℤ neg_ℤ m *ℤ (pos 2 *ℤ (c *ℤ (m +ℤ pos 1) -ℤ s))
unfolding quadratic
rest_below s q c m = rw (view s, view q, view c, view m) (simp to_ℕ_products (omega arith))

pub quadratic_bound : (s q c m : ℤ) → pos 0 ≤ℤ c → (c *ℤ m) ≤ℤ s → s <ℤ (c *ℤ (m +ℤ pos 1)) → quadratic s q c m ≤ℤ (q +ℤ c)
quadratic_bound s q c m positive low high = (-ℤ-nonneg (q +ℤ c) (quadratic s q c m)).0 (go (≤ℤ_or_<ℤ (pos 0) m))
  where
    two : pos 0 ≤ℤ pos 2
    two = (pos-≤ℤ 0 2).1 (omega arith)

    turned : (m : ℤ) → m <ℤ pos 0 → pos 0 ≤ℤ neg_ℤ m
    turned m = rw (view m) (simp to_ℕ (omega arith))

    go : (pos 0 ≤ℤ m) ⊎ (m <ℤ pos 0) → pos 0 ≤ℤ (q +ℤ c -ℤ quadratic s q c m)
    go (inl h) = rw rest_above
        (sum_nonneg positive (product_nonneg h (sum_nonneg (product_nonneg positive h) (product_nonneg two ((-ℤ-nonneg s (c *ℤ m)).1 low)))))
    go (inr h) = rw rest_below
        (sum_nonneg (product_nonneg positive (square_nonneg (m +ℤ pos 1)))
        (product_nonneg (turned m h) (product_nonneg two ((-ℤ-nonneg (c *ℤ (m +ℤ pos 1)) s).1 (<ℤ_to_≤ℤ high)))))
