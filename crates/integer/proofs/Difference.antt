-- `omega` reads naturals only. Here an integer is seen as the difference of two naturals, `dif a b`, so that a statement over ℤ with sums,
-- differences, products, `nat_abs`, `min_ℤ`, `max_ℤ`, `le_z`, `lt_z`, ≡, ≤ℤ, <ℤ and `SFits` becomes one over ℕ, and is proved in one line:
--     law x y = rw (view x, view y) (simp to_ℕ (omega arith))
-- State it over variables and name each integer variable once; leave its hypotheses unbound, in the goal, so that they are rewritten too;
-- call it with the terms that the code has. A polynomial of degree three or more wants `to_ℕ_products` for `to_ℕ`.
-- A sum of two written numbers computes before `simp` sees it, and `negsuc a +ℤ pos b` becomes a test: put a variable for `negsuc a`.
use mathlib.Core.Path.{◌≡◌, refl, sym, ap, ap₂, ◌∙◌, subst}
use mathlib.Core.Logic.{◌↔◌}
use mathlib.Core.Bool.{Bool, true, false, cond}
use Prim.Native.Nat.{ℕ, zero, suc, ◌+◌, ◌-◌, ◌*◌, ◌^◌, ◌≤◌, ◌<◌, min, max}
use native.Mathlib.Nat.{mul-add, add-mul, mul_assoc, mul_comm, mul_left_comm}
use native.Mathlib.Omega.{arith}
use borrow.Author.Tests.{ltb-true, ltb-false, leb-true, leb-false, lt-ltb, le-ltb, le-leb, lt-leb}
use lib.Dec.{T, ltb, leb, ltb→lt, lt→ltb, leb→le, le→leb}
use lib.IntN.{ℤ, pos, negsuc, neg_ℤ, nat_abs, sub_ℕ, ◌+ℤ◌, ◌-ℤ◌, ◌*ℤ◌}
use lib.Signed.{le_z, lt_z, mag, ◌≤ℤ◌, ◌<ℤ◌, ≤ℤ_refl}
use mir.Syntax.{Width, w64}
use mir.Val.{SFits, hbits}
use Rattle.integer.specs.Order.{min_ℤ, max_ℤ}

-- The difference a − b. It does not unfold, so a sum or a product of such differences stays as it is written.
unfoldable pub dif : ℕ → ℕ → ℤ
dif a b = sub_ℕ a b

-- the two naturals by which an integer is seen
unfoldable pub positive_part : ℤ → ℕ
positive_part (pos n) = n
positive_part (negsuc n) = 0

unfoldable pub negative_part : ℤ → ℕ
negative_part (pos n) = 0
negative_part (negsuc n) = suc n

dif_pos : (b p : ℕ) → dif (b + p) b ≡ pos p
unfolding dif
dif_pos b p = rw (le-ltb (b + p) b (omega arith)) (ap pos (omega arith))

dif_neg : (a n : ℕ) → dif a (a + suc n) ≡ negsuc n
unfolding dif
dif_neg a n = rw (lt-ltb a (a + suc n) (omega arith)) (ap negsuc (omega arith))

-- Every difference is one of the two, so a law need be shown only there.
by_sign {ℓ} : (P : ℤ → ℕ → ℕ → Type ℓ) → ((b p : ℕ) → P (pos p) (b + p) b) → ((a n : ℕ) → P (negsuc n) a (a + suc n)) → (a b : ℕ) → P (dif a b) a b
by_sign P f g a b = go (ltb a b) refl
  where
    go : (t : Bool) → ltb a b ≡ t → P (dif a b) a b
    go true e =
        let h : a < b = ltb-true a b e in
        let k : b ≡ a + suc (b - suc a) = omega arith in
        subst (λ (x : ℕ). P (dif a x) a x) (sym k) (rw dif_neg (g a (b - suc a)))
    go false e =
        let h : b ≤ a = ltb-false a b e in
        let k : a ≡ b + (a - b) = omega arith in
        subst (λ (x : ℕ). P (dif x b) x b) (sym k) (rw dif_pos (f b (a - b)))

-- two differences are equal where the crosswise sums are
dif_eq : (a b c d : ℕ) → a + d ≡ c + b → dif a b ≡ dif c d
dif_eq a b c d = by_sign (λ x a b. a + d ≡ c + b → x ≡ dif c d)
    (λ b p e. let k : c ≡ d + p = omega arith in rw (k, dif_pos))
    (λ a n e. let k : d ≡ c + suc n = omega arith in rw (k, dif_neg)) a b

pub pos_dif : (n : ℕ) → pos n ≡ dif n 0
pos_dif n = sym (dif_pos 0 n) ∙ dif_eq (0 + n) 0 n 0 (omega arith)

pub negsuc_dif : (n : ℕ) → negsuc n ≡ dif 0 (suc n)
negsuc_dif n = sym (dif_neg 0 n) ∙ dif_eq 0 (0 + suc n) 0 (suc n) (omega arith)

pub view : (z : ℤ) → z ≡ dif (positive_part z) (negative_part z)
unfolding positive_part negative_part
view (pos n) = pos_dif n
view (negsuc n) = negsuc_dif n

-- ---- the operations

pub neg_pos : (n : ℕ) → neg_ℤ (pos n) ≡ dif 0 n
neg_pos zero = pos_dif 0
neg_pos (suc n) = negsuc_dif n

pub neg_dif : (a b : ℕ) → neg_ℤ (dif a b) ≡ dif b a
neg_dif = by_sign (λ x a b. neg_ℤ x ≡ dif b a)
    (λ b p. neg_pos p ∙ dif_eq 0 p b (b + p) (omega arith))
    (λ a n. pos_dif (suc n) ∙ dif_eq (suc n) 0 (a + suc n) a (omega arith))

sub_dif : (a b : ℕ) → sub_ℕ a b ≡ dif a b
unfolding dif
sub_dif a b = refl

pub add_dif : (a b c d : ℕ) → dif a b +ℤ dif c d ≡ dif (a + c) (b + d)
add_dif a b c d = by_sign (λ x a b. x +ℤ dif c d ≡ dif (a + c) (b + d))
    (λ b p. by_sign (λ y c d. pos p +ℤ y ≡ dif (b + p + c) (b + d))
    (λ d q. pos_dif (p + q) ∙ dif_eq (p + q) 0 (b + p + (d + q)) (b + d) (omega arith))
    (λ c m. sub_dif p (suc m) ∙ dif_eq p (suc m) (b + p + c) (b + (c + suc m)) (omega arith)) c d)
    (λ a n. by_sign (λ y c d. negsuc n +ℤ y ≡ dif (a + c) (a + suc n + d))
    (λ d q. sub_dif q (suc n) ∙ dif_eq q (suc n) (a + (d + q)) (a + suc n + d) (omega arith))
    (λ c m. negsuc_dif (suc (n + m)) ∙ dif_eq 0 (suc (suc (n + m))) (a + c) (a + suc n + (c + suc m)) (omega arith)) c d) a b

pub mul_dif : (a b c d : ℕ) → dif a b *ℤ dif c d ≡ dif (a * c + b * d) (a * d + b * c)
mul_dif a b c d = by_sign (λ x a b. x *ℤ dif c d ≡ dif (a * c + b * d) (a * d + b * c))
    (λ b p. by_sign (λ y c d. pos p *ℤ y ≡ dif ((b + p) * c + b * d) ((b + p) * d + b * c))
    (λ d q. pos_dif (p * q) ∙ dif_eq _ _ _ _ (omega arith))
    (λ c m. ap neg_ℤ (pos_dif (p * suc m)) ∙ neg_dif _ _ ∙ dif_eq _ _ _ _ (omega arith)) c d)
    (λ a n. by_sign (λ y c d. negsuc n *ℤ y ≡ dif (a * c + (a + suc n) * d) (a * d + (a + suc n) * c))
    (λ d q. ap neg_ℤ (pos_dif (suc n * q)) ∙ neg_dif _ _ ∙ dif_eq _ _ _ _ (omega arith))
    (λ c m. pos_dif (suc n * suc m) ∙ dif_eq _ _ _ _ (omega arith)) c d) a b

pub nat_abs_dif : (a b : ℕ) → nat_abs (dif a b) ≡ (a - b) + (b - a)
nat_abs_dif = by_sign (λ x a b. nat_abs x ≡ (a - b) + (b - a)) (λ b p. omega arith) (λ a n. omega arith)

-- ---- the relations

-- two tests of order agree where what they test does
same_test : (p q r s : ℕ) → (p ≤ q → r ≤ s) → (q < p → s < r) → leb p q ≡ leb r s
same_test p q r s f g = go (leb p q) refl
  where
    go : (t : Bool) → leb p q ≡ t → leb p q ≡ leb r s
    go true e = e ∙ sym (le-leb r s (f (leb-true p q e)))
    go false e = e ∙ sym (lt-leb r s (g (leb-false p q e)))

pub le_z_dif : (a b c d : ℕ) → le_z (dif a b) (dif c d) ≡ leb (a + d) (c + b)
le_z_dif a b c d = by_sign (λ x a b. le_z x (dif c d) ≡ leb (a + d) (c + b))
    (λ b p. by_sign (λ y c d. le_z (pos p) y ≡ leb (b + p + d) (c + b))
    (λ d q. same_test p q (b + p + d) (d + q + b) (omega arith) (omega arith))
    (λ c m. sym (lt-leb (b + p + (c + suc m)) (c + b) (omega arith))) c d)
    (λ a n. by_sign (λ y c d. le_z (negsuc n) y ≡ leb (a + d) (c + (a + suc n)))
    (λ d q. sym (le-leb (a + d) (d + q + (a + suc n)) (omega arith)))
    (λ c m. same_test m n (a + (c + suc m)) (c + (a + suc n)) (omega arith) (omega arith)) c d) a b

pub lt_z_dif : (a b c d : ℕ) → lt_z (dif a b) (dif c d) ≡ ltb (a + d) (c + b)
lt_z_dif a b c d = by_sign (λ x a b. lt_z x (dif c d) ≡ ltb (a + d) (c + b))
    (λ b p. by_sign (λ y c d. lt_z (pos p) y ≡ ltb (b + p + d) (c + b))
    (λ d q. same_test (suc p) q (suc (b + p + d)) (d + q + b) (omega arith) (omega arith))
    (λ c m. sym (le-ltb (b + p + (c + suc m)) (c + b) (omega arith))) c d)
    (λ a n. by_sign (λ y c d. lt_z (negsuc n) y ≡ ltb (a + d) (c + (a + suc n)))
    (λ d q. sym (lt-ltb (a + d) (d + q + (a + suc n)) (omega arith)))
    (λ c m. same_test (suc m) n (suc (a + (c + suc m))) (c + (a + suc n)) (omega arith) (omega arith)) c d) a b

pub le_dif : (a b c d : ℕ) → (dif a b ≤ℤ dif c d) ↔ (a + d ≤ c + b)
le_dif a b c d = (
  (λ h. leb→le (a + d) (c + b) (subst T (le_z_dif a b c d) h.le)),
  (λ h. record { le = subst T (sym (le_z_dif a b c d)) (le→leb (a + d) (c + b) h) }),
)

pub lt_dif : (a b c d : ℕ) → (dif a b <ℤ dif c d) ↔ (a + d < c + b)
lt_dif a b c d = (
  (λ h. ltb→lt (a + d) (c + b) (subst T (lt_z_dif a b c d) h.lt)),
  (λ h. record { lt = subst T (sym (lt_z_dif a b c d)) (lt→ltb (a + d) (c + b) h) }),
)

pub eq_dif : (a b c d : ℕ) → (dif a b ≡ dif c d) ↔ (a + d ≡ c + b)
eq_dif a b c d = (
  (λ e.
      let h : a + d ≤ c + b = (le_dif a b c d).0 (subst (λ x. dif a b ≤ℤ x) e (≤ℤ_refl (dif a b))) in
      let k : c + b ≤ a + d = (le_dif c d a b).0 (subst (λ x. x ≤ℤ dif a b) e (≤ℤ_refl (dif a b))) in
      omega arith),
  dif_eq a b c d,
)

pub fits_dif : (w : Width) (a b : ℕ) → SFits w (dif a b) ↔ ((a < b + 2 ^ hbits w) × (b ≤ a + 2 ^ hbits w))
fits_dif w a b = ((λ h. down a b h.sfits), (λ h. record { sfits = up a b h.0 h.1 }))
  where
    down : (a b : ℕ) → mag (dif a b) < 2 ^ hbits w → (a < b + 2 ^ hbits w) × (b ≤ a + 2 ^ hbits w)
    down = by_sign (λ x a b. mag x < 2 ^ hbits w → (a < b + 2 ^ hbits w) × (b ≤ a + 2 ^ hbits w)) (λ b p. omega arith) (λ a n. omega arith)

    up : (a b : ℕ) → a < b + 2 ^ hbits w → b ≤ a + 2 ^ hbits w → mag (dif a b) < 2 ^ hbits w
    up = by_sign (λ x a b. a < b + 2 ^ hbits w → b ≤ a + 2 ^ hbits w → mag x < 2 ^ hbits w) (λ b p. omega arith) (λ a n. omega arith)

pub min_dif : (a b c d : ℕ) → min_ℤ (dif a b) (dif c d) ≡ dif (min (a + d) (c + b)) (b + d)
unfolding min_ℤ
min_dif a b c d = rw le_z_dif (go (leb (a + d) (c + b)) refl)
  where
    go : (t : Bool) → leb (a + d) (c + b) ≡ t → cond t (dif a b) (dif c d) ≡ dif (min (a + d) (c + b)) (b + d)
    go true e = dif_eq a b (min (a + d) (c + b)) (b + d) (omega (arith, leb-true (a + d) (c + b) e))
    go false e = dif_eq c d (min (a + d) (c + b)) (b + d) (omega (arith, leb-false (a + d) (c + b) e))

pub max_dif : (a b c d : ℕ) → max_ℤ (dif a b) (dif c d) ≡ dif (max (a + d) (c + b)) (b + d)
unfolding max_ℤ
max_dif a b c d = rw le_z_dif (go (leb (a + d) (c + b)) refl)
  where
    go : (t : Bool) → leb (a + d) (c + b) ≡ t → cond t (dif c d) (dif a b) ≡ dif (max (a + d) (c + b)) (b + d)
    go true e = dif_eq c d (max (a + d) (c + b)) (b + d) (omega (arith, leb-true (a + d) (c + b) e))
    go false e = dif_eq a b (max (a + d) (c + b)) (b + d) (omega (arith, leb-false (a + d) (c + b) e))

-- Rewrites a statement about differences to one about naturals.
pub ruleset to_ℕ = (pos_dif, negsuc_dif, neg_pos, neg_dif, add_dif, mul_dif, min_dif, max_dif, nat_abs_dif, le_z_dif, lt_z_dif, le_dif, lt_dif, eq_dif, fits_dif)

-- The same with products multiplied out and sorted: for polynomials in which `omega` meets its limit of 64 monomials.
pub ruleset to_ℕ_products = (to_ℕ, mul-add, add-mul, mul_assoc, mul_comm, mul_left_comm)

-- Worked examples.
lower : (x y z : ℤ) → x <ℤ y → z ≤ℤ pos 3 → (x +ℤ z) ≤ℤ (y +ℤ pos 2)
lower x y z = rw (view x, view y, view z) (simp to_ℕ (omega arith))

binomial : (x y : ℤ) → (x -ℤ y) *ℤ (x -ℤ y) ≡ x *ℤ x -ℤ pos 2 *ℤ (x *ℤ y) +ℤ y *ℤ y
binomial x y = rw (view x, view y) (simp to_ℕ (omega arith))

in_range : (x y : ℤ) → SFits w64 x → nat_abs y ≤ 5 → x <ℤ y → SFits w64 (x +ℤ pos 1)
in_range x y = rw (view x, view y) (simp to_ℕ (omega arith))

-- ---- the second way: facts for `omega` in place, over `positive_part` and `negative_part`. Rules for facts and goals are in the set `ints`;
-- list one law for each operation that occurs: `omega (arith, ints, add-nat x y, pos-nat 1)`.

pub add_nat : (x y : ℤ) → positive_part (x +ℤ y) + negative_part x + negative_part y ≡ positive_part x + positive_part y + negative_part (x +ℤ y)
add_nat x y = omega (arith, (eq_dif _ _ _ _).0 (sym (view (x +ℤ y)) ∙ ap₂ ◌+ℤ◌ (view x) (view y) ∙ add_dif (positive_part x) (negative_part x) (positive_part y) (negative_part y)))

pub neg_nat : (x : ℤ) → positive_part (neg_ℤ x) + positive_part x ≡ negative_part x + negative_part (neg_ℤ x)
neg_nat x = omega (arith, (eq_dif _ _ _ _).0 (sym (view (neg_ℤ x)) ∙ ap neg_ℤ (view x) ∙ neg_dif (positive_part x) (negative_part x)))

pub sub_nat : (x y : ℤ) → positive_part (x -ℤ y) + negative_part x + positive_part y ≡ positive_part x + negative_part y + negative_part (x -ℤ y)
sub_nat x y = omega (arith, add_nat x (neg_ℤ y), neg_nat y)

pub mul_nat : (x y : ℤ) → positive_part (x *ℤ y) + positive_part x * negative_part y + negative_part x * positive_part y ≡ positive_part x * positive_part y + negative_part x * negative_part y + negative_part (x *ℤ y)
mul_nat x y = omega (arith, (eq_dif _ _ _ _).0 (sym (view (x *ℤ y)) ∙ ap₂ ◌*ℤ◌ (view x) (view y) ∙ mul_dif (positive_part x) (negative_part x) (positive_part y) (negative_part y)))

pub pos_nat : (n : ℕ) → (positive_part (pos n) ≡ n) × (negative_part (pos n) ≡ 0)
unfolding positive_part negative_part
pos_nat n = (refl, refl)

pub negsuc_nat : (n : ℕ) → (positive_part (negsuc n) ≡ 0) × (negative_part (negsuc n) ≡ suc n)
unfolding positive_part negative_part
negsuc_nat n = (refl, refl)

pub nat_abs_nat : (x : ℤ) → nat_abs x ≡ positive_part x + negative_part x
unfolding positive_part negative_part
nat_abs_nat (pos n) = omega arith
nat_abs_nat (negsuc n) = omega arith

pub le_nat : {x y : ℤ} → x ≤ℤ y → positive_part x + negative_part y ≤ positive_part y + negative_part x
le_nat {x} {y} h = (le_dif (positive_part x) (negative_part x) (positive_part y) (negative_part y)).0 (rw (view x, view y) at h)

pub nat_le : {x y : ℤ} → positive_part x + negative_part y ≤ positive_part y + negative_part x → x ≤ℤ y
nat_le {x} {y} h = rw (view x, view y) ((le_dif (positive_part x) (negative_part x) (positive_part y) (negative_part y)).1 h)

pub lt_nat : {x y : ℤ} → x <ℤ y → positive_part x + negative_part y < positive_part y + negative_part x
lt_nat {x} {y} h = (lt_dif (positive_part x) (negative_part x) (positive_part y) (negative_part y)).0 (rw (view x, view y) at h)

pub nat_lt : {x y : ℤ} → positive_part x + negative_part y < positive_part y + negative_part x → x <ℤ y
nat_lt {x} {y} h = rw (view x, view y) ((lt_dif (positive_part x) (negative_part x) (positive_part y) (negative_part y)).1 h)

pub eq_nat : {x y : ℤ} → x ≡ y → positive_part x + negative_part y ≡ positive_part y + negative_part x
eq_nat {x} {y} h = (eq_dif (positive_part x) (negative_part x) (positive_part y) (negative_part y)).0 (rw (view x, view y) at h)

pub nat_eq : {x y : ℤ} → positive_part x + negative_part y ≡ positive_part y + negative_part x → x ≡ y
nat_eq {x} {y} h = rw (view x, view y) ((eq_dif (positive_part x) (negative_part x) (positive_part y) (negative_part y)).1 h)

pub fits_below : {w : Width} {x : ℤ} → SFits w x → positive_part x < negative_part x + 2 ^ hbits w
fits_below {w} {x} h = ((fits_dif w (positive_part x) (negative_part x)).0 (rw (view x) at h)).0

pub fits_above : {w : Width} {x : ℤ} → SFits w x → negative_part x ≤ positive_part x + 2 ^ hbits w
fits_above {w} {x} h = ((fits_dif w (positive_part x) (negative_part x)).0 (rw (view x) at h)).1

pub nat_fits : {w : Width} {x : ℤ} → (positive_part x - negative_part x) + (negative_part x - suc (positive_part x)) < 2 ^ hbits w → SFits w x
nat_fits {w} {x} h = rw (view x) ((fits_dif w (positive_part x) (negative_part x)).1 (omega arith))

pub ruleset ints = (le_nat, nat_le, lt_nat, nat_lt, eq_nat, nat_eq, fits_below, fits_above, nat_fits)

in_place : (x y : ℤ) → SFits w64 y → x <ℤ y → ((x +ℤ pos 1) ≤ℤ y) × (pos 0 ≤ℤ x → SFits w64 (x +ℤ pos 1))
in_place x y f h = omega (arith, ints, add_nat x (pos 1), pos_nat 1, pos_nat 0)
