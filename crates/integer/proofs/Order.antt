-- The order of ℤ, its ring laws and its tests. `≤ℤ_refl`, `<ℤ-≤ℤ_trans`, `clash_ℤ` are in lib.Signed, `+ℤ_assoc`, `+ℤ_comm`, `*ℤ-comm` in lib.IntN.
use mathlib.Core.Path.{◌≡◌, refl, sym}
use mathlib.Core.Logic.{◌↔◌, ◌⊎◌, inl, inr}
use mathlib.Core.Bool.{Bool, true, false, not}
use Prim.Native.Nat.{ℕ, suc, ◌+◌, ◌*◌, ◌≤◌, ◌<◌}
use native.Mathlib.Omega.{arith}
use borrow.Author.Tests.{ltb-true, ltb-false, leb-true, leb-false, lt-ltb, le-ltb, le-leb, lt-leb}
use lib.Dec.{T}
use lib.IntN.{ℤ, pos, negsuc, neg_ℤ, ◌+ℤ◌, ◌-ℤ◌, ◌*ℤ◌}
use lib.Signed.{le_z, lt_z, ◌≤ℤ◌, ◌<ℤ◌, clash_ℤ}
use Rattle.integer.specs.Order.{min_ℤ, max_ℤ}
use Rattle.integer.proofs.Difference.{positive_part, negative_part, view, to_ℕ}

-- ---- tests to facts and back

pub le_z-true : (x y : ℤ) → le_z x y ≡ true → x ≤ℤ y
le_z-true x y = rw (view x, view y) (simp to_ℕ (leb-true (positive_part x + negative_part y) (positive_part y + negative_part x)))

pub le_z-false : (x y : ℤ) → le_z x y ≡ false → y <ℤ x
le_z-false x y = rw (view x, view y) (simp to_ℕ (leb-false (positive_part x + negative_part y) (positive_part y + negative_part x)))

pub lt_z-true : (x y : ℤ) → lt_z x y ≡ true → x <ℤ y
lt_z-true x y = rw (view x, view y) (simp to_ℕ (ltb-true (positive_part x + negative_part y) (positive_part y + negative_part x)))

pub lt_z-false : (x y : ℤ) → lt_z x y ≡ false → y ≤ℤ x
lt_z-false x y = rw (view x, view y) (simp to_ℕ (ltb-false (positive_part x + negative_part y) (positive_part y + negative_part x)))

pub le-le_z : {x y : ℤ} → x ≤ℤ y → le_z x y ≡ true
le-le_z {x} {y} = rw (view x, view y) (simp to_ℕ (le-leb (positive_part x + negative_part y) (positive_part y + negative_part x)))

pub lt-le_z : {x y : ℤ} → y <ℤ x → le_z x y ≡ false
lt-le_z {x} {y} = rw (view x, view y) (simp to_ℕ (lt-leb (positive_part x + negative_part y) (positive_part y + negative_part x)))

pub lt-lt_z : {x y : ℤ} → x <ℤ y → lt_z x y ≡ true
lt-lt_z {x} {y} = rw (view x, view y) (simp to_ℕ (lt-ltb (positive_part x + negative_part y) (positive_part y + negative_part x)))

pub le-lt_z : {x y : ℤ} → y ≤ℤ x → lt_z x y ≡ false
le-lt_z {x} {y} = rw (view x, view y) (simp to_ℕ (le-ltb (positive_part x + negative_part y) (positive_part y + negative_part x)))

pub le_z_no : {x y : ℤ} → T (not (le_z x y)) → y <ℤ x
le_z_no {x} {y} t = go (le_z x y) refl t
  where
    go : (b : Bool) → le_z x y ≡ b → T (not b) → y <ℤ x
    go true e t = absurd t
    go false e t = le_z-false x y e

pub ≤ℤ_or_<ℤ : (x y : ℤ) → (x ≤ℤ y) ⊎ (y <ℤ x)
≤ℤ_or_<ℤ x y = go (le_z x y) refl
  where
    go : (b : Bool) → le_z x y ≡ b → (x ≤ℤ y) ⊎ (y <ℤ x)
    go true e = inl (le_z-true x y e)
    go false e = inr (le_z-false x y e)

-- ---- the order

pub ≤ℤ_trans : {x y z : ℤ} → x ≤ℤ y → y ≤ℤ z → x ≤ℤ z
≤ℤ_trans {x} {y} {z} = rw (view x, view y, view z) (simp to_ℕ (omega arith))

pub ≤ℤ_<ℤ_trans : {x y z : ℤ} → x ≤ℤ y → y <ℤ z → x <ℤ z
≤ℤ_<ℤ_trans {x} {y} {z} = rw (view x, view y, view z) (simp to_ℕ (omega arith))

pub ≤ℤ_antisym : {x y : ℤ} → x ≤ℤ y → y ≤ℤ x → x ≡ y
≤ℤ_antisym {x} {y} = rw (view x, view y) (simp to_ℕ (omega arith))

pub ≤ℤ_of_≡ : {x y : ℤ} → x ≡ y → x ≤ℤ y
≤ℤ_of_≡ {x} {y} = rw (view x, view y) (simp to_ℕ (omega arith))

pub <ℤ_to_≤ℤ : {x y : ℤ} → x <ℤ y → x ≤ℤ y
<ℤ_to_≤ℤ {x} {y} = rw (view x, view y) (simp to_ℕ (omega arith))

pub ≤ℤ_total : (x y : ℤ) → (x ≤ℤ y) ⊎ (y ≤ℤ x)
≤ℤ_total x y = go (≤ℤ_or_<ℤ x y)
  where
    go : (x ≤ℤ y) ⊎ (y <ℤ x) → (x ≤ℤ y) ⊎ (y ≤ℤ x)
    go (inl h) = inl h
    go (inr h) = inr (<ℤ_to_≤ℤ h)

pub <ℤ-suc : (x y : ℤ) → (x <ℤ y) ↔ ((x +ℤ pos 1) ≤ℤ y)
<ℤ-suc x y = rw (view x, view y) (simp to_ℕ (omega arith))

pub ≤ℤ-suc : (x y : ℤ) → (x ≤ℤ y) ↔ (x <ℤ (y +ℤ pos 1))
≤ℤ-suc x y = rw (view x, view y) (simp to_ℕ (omega arith))

pub pos-≤ℤ : (m n : ℕ) → (pos m ≤ℤ pos n) ↔ (m ≤ n)
pos-≤ℤ m n = simp to_ℕ (omega arith)

pub pos-<ℤ : (m n : ℕ) → (pos m <ℤ pos n) ↔ (m < n)
pos-<ℤ m n = simp to_ℕ (omega arith)

-- ---- sums

pub +ℤ_mono : {x x' y y' : ℤ} → x ≤ℤ x' → y ≤ℤ y' → (x +ℤ y) ≤ℤ (x' +ℤ y')
+ℤ_mono {x} {x'} {y} {y'} = rw (view x, view x', view y, view y') (simp to_ℕ (omega arith))

pub -ℤ-mono : {x x' y y' : ℤ} → x ≤ℤ x' → y' ≤ℤ y → (x -ℤ y) ≤ℤ (x' -ℤ y')
-ℤ-mono {x} {x'} {y} {y'} = rw (view x, view x', view y, view y') (simp to_ℕ (omega arith))

pub neg_ℤ_mono : {x y : ℤ} → x ≤ℤ y → neg_ℤ y ≤ℤ neg_ℤ x
neg_ℤ_mono {x} {y} = rw (view x, view y) (simp to_ℕ (omega arith))

pub +ℤ_cancel : (x y z : ℤ) → x +ℤ z ≡ y +ℤ z → x ≡ y
+ℤ_cancel x y z = rw (view x, view y, view z) (simp to_ℕ (omega arith))

pub +ℤ_cancel_≤ : (x y z : ℤ) → (x +ℤ z) ≤ℤ (y +ℤ z) → x ≤ℤ y
+ℤ_cancel_≤ x y z = rw (view x, view y, view z) (simp to_ℕ (omega arith))

pub -ℤ-≡0 : (x y : ℤ) → x -ℤ y ≡ pos 0 → x ≡ y
-ℤ-≡0 x y = rw (view x, view y) (simp to_ℕ (omega arith))

pub -ℤ-nonneg : (x y : ℤ) → (pos 0 ≤ℤ (x -ℤ y)) ↔ (y ≤ℤ x)
-ℤ-nonneg x y = rw (view x, view y) (simp to_ℕ (omega arith))

pub sum_nonneg : {x y : ℤ} → pos 0 ≤ℤ x → pos 0 ≤ℤ y → pos 0 ≤ℤ (x +ℤ y)
sum_nonneg {x} {y} = rw (view x, view y) (simp to_ℕ (omega arith))

-- ---- products

pub *ℤ_assoc : (x y z : ℤ) → (x *ℤ y) *ℤ z ≡ x *ℤ (y *ℤ z)
*ℤ_assoc x y z = rw (view x, view y, view z) (simp to_ℕ (omega arith))

pub *ℤ_distrib_l : (x y z : ℤ) → x *ℤ (y +ℤ z) ≡ x *ℤ y +ℤ x *ℤ z
*ℤ_distrib_l x y z = rw (view x, view y, view z) (simp to_ℕ (omega arith))

pub *ℤ_distrib_r : (x y z : ℤ) → (x +ℤ y) *ℤ z ≡ x *ℤ z +ℤ y *ℤ z
*ℤ_distrib_r x y z = rw (view x, view y, view z) (simp to_ℕ (omega arith))

pub *ℤ_distrib_sub : (x y z : ℤ) → x *ℤ (y -ℤ z) ≡ x *ℤ y -ℤ x *ℤ z
*ℤ_distrib_sub x y z = rw (view x, view y, view z) (simp to_ℕ (omega arith))

pub product_nonneg : {x y : ℤ} → pos 0 ≤ℤ x → pos 0 ≤ℤ y → pos 0 ≤ℤ (x *ℤ y)
product_nonneg {x = pos m} {y = pos n} h k = (pos-≤ℤ 0 (m * n)).1 (omega arith)
product_nonneg {x = pos m} {y = negsuc n} h k = absurd k.le
product_nonneg {x = negsuc m} {y} h k = absurd h.le

pub square_nonneg : (x : ℤ) → pos 0 ≤ℤ (x *ℤ x)
square_nonneg (pos n) = (pos-≤ℤ 0 (n * n)).1 (omega arith)
square_nonneg (negsuc n) = (pos-≤ℤ 0 (suc n * suc n)).1 (omega arith)

-- a product by a factor that is not negative keeps the order
pub *ℤ_mono : {z x y : ℤ} → pos 0 ≤ℤ z → x ≤ℤ y → (z *ℤ x) ≤ℤ (z *ℤ y)
*ℤ_mono {z} {x} {y} h k = (-ℤ-nonneg (z *ℤ y) (z *ℤ x)).0 (rw *ℤ_distrib_sub at (product_nonneg h ((-ℤ-nonneg y x).1 k)))

pub *ℤ_mono_pos : (n : ℕ) {x y : ℤ} → x ≤ℤ y → (pos n *ℤ x) ≤ℤ (pos n *ℤ y)
*ℤ_mono_pos n h = *ℤ_mono ((pos-≤ℤ 0 n).1 (omega arith)) h

pub *ℤ_cancel_<ℤ : (n : ℕ) (x y : ℤ) → (pos n *ℤ x) <ℤ (pos n *ℤ y) → x <ℤ y
*ℤ_cancel_<ℤ n x y h = go (≤ℤ_or_<ℤ y x)
  where
    go : (y ≤ℤ x) ⊎ (x <ℤ y) → x <ℤ y
    go (inl k) = clash_ℤ h (*ℤ_mono_pos n k)
    go (inr k) = k

pub *ℤ_cancel_≤ℤ : (n : ℕ) (x y : ℤ) → 0 < n → (pos n *ℤ x) ≤ℤ (pos n *ℤ y) → x ≤ℤ y
*ℤ_cancel_≤ℤ n x y p h = (≤ℤ-suc x y).1 (*ℤ_cancel_<ℤ n x (y +ℤ pos 1) (≤ℤ_<ℤ_trans h (rw (view y) (simp to_ℕ (omega arith)))))

pub *ℤ_cancel : (n : ℕ) (x y : ℤ) → 0 < n → pos n *ℤ x ≡ pos n *ℤ y → x ≡ y
*ℤ_cancel n x y p e = ≤ℤ_antisym (*ℤ_cancel_≤ℤ n x y p (≤ℤ_of_≡ e)) (*ℤ_cancel_≤ℤ n y x p (≤ℤ_of_≡ (sym e)))

-- ---- the lower and the higher of two

pub min_ℤ_first : {x y : ℤ} → x ≤ℤ y → min_ℤ x y ≡ x
min_ℤ_first {x} {y} = rw (view x, view y) (simp to_ℕ (omega arith))

pub min_ℤ_second : {x y : ℤ} → y ≤ℤ x → min_ℤ x y ≡ y
min_ℤ_second {x} {y} = rw (view x, view y) (simp to_ℕ (omega arith))

pub min_ℤ_left : (x y : ℤ) → min_ℤ x y ≤ℤ x
min_ℤ_left x y = rw (view x, view y) (simp to_ℕ (omega arith))

pub min_ℤ_right : (x y : ℤ) → min_ℤ x y ≤ℤ y
min_ℤ_right x y = rw (view x, view y) (simp to_ℕ (omega arith))

pub min_ℤ_greatest : {x y z : ℤ} → z ≤ℤ x → z ≤ℤ y → z ≤ℤ min_ℤ x y
min_ℤ_greatest {x} {y} {z} = rw (view x, view y, view z) (simp to_ℕ (omega arith))

pub min_ℤ_mono : {x x' y y' : ℤ} → x ≤ℤ x' → y ≤ℤ y' → min_ℤ x y ≤ℤ min_ℤ x' y'
min_ℤ_mono {x} {x'} {y} {y'} = rw (view x, view x', view y, view y') (simp to_ℕ (omega arith))

pub max_ℤ_first : {x y : ℤ} → y ≤ℤ x → max_ℤ x y ≡ x
max_ℤ_first {x} {y} = rw (view x, view y) (simp to_ℕ (omega arith))

pub max_ℤ_second : {x y : ℤ} → x ≤ℤ y → max_ℤ x y ≡ y
max_ℤ_second {x} {y} = rw (view x, view y) (simp to_ℕ (omega arith))

pub max_ℤ_left : (x y : ℤ) → x ≤ℤ max_ℤ x y
max_ℤ_left x y = rw (view x, view y) (simp to_ℕ (omega arith))

pub max_ℤ_right : (x y : ℤ) → y ≤ℤ max_ℤ x y
max_ℤ_right x y = rw (view x, view y) (simp to_ℕ (omega arith))

pub max_ℤ_least : {x y z : ℤ} → x ≤ℤ z → y ≤ℤ z → max_ℤ x y ≤ℤ z
max_ℤ_least {x} {y} {z} = rw (view x, view y, view z) (simp to_ℕ (omega arith))

pub max_ℤ_mono : {x x' y y' : ℤ} → x ≤ℤ x' → y ≤ℤ y' → max_ℤ x y ≤ℤ max_ℤ x' y'
max_ℤ_mono {x} {x'} {y} {y'} = rw (view x, view x', view y, view y') (simp to_ℕ (omega arith))
