-- Signed numbers as code holds them. A local holds bits, so an operand reads `to_z w (of_z w x)`, which is x where x fits: `rw (to_z-of_z f)`,
-- of mir.Facts, with f the field `c.ranges.x` of a parameter x, `sfits_of c.f.type_inv` of the result of a call of f (borrow.Author.Rules),
-- or a law's proof. A test leaves an equation of its flag, which these turn into a fact; where `if a < 0` was taken:
--     less_taken c.args.a (pos 0) c.ranges.a (sfits_lit tt) c.if-a-lt0.true
use mathlib.Core.Path.{◌≡◌, sym, ap, ap₂, ◌∙◌}
use mathlib.Core.Bool.{true, false}
use lib.Dec.{T}
use lib.IntN.{ℤ, pos, nat_abs}
use lib.Signed.{le_z, lt_z, ◌≤ℤ◌, ◌<ℤ◌, non_neg, yes_non_neg}
use mir.Syntax.{Width, w32, w64}
use mir.Val.{Fits, SFits, to_z, of_z}
use mir.Facts.{to_z-of_z, sfits_widen, Fits-nat_abs}
use Rattle.integer.proofs.Order.{lt_z-true, lt_z-false, le_z-true, le_z-false}

-- `if x < y`
pub less_taken : {w : Width} (x y : ℤ) → SFits w x → SFits w y → lt_z (to_z w (of_z w x)) (to_z w (of_z w y)) ≡ true → x <ℤ y
less_taken x y f g e = lt_z-true x y (ap₂ lt_z (sym (to_z-of_z f)) (sym (to_z-of_z g)) ∙ e)

pub less_left : {w : Width} (x y : ℤ) → SFits w x → SFits w y → lt_z (to_z w (of_z w x)) (to_z w (of_z w y)) ≡ false → y ≤ℤ x
less_left x y f g e = lt_z-false x y (ap₂ lt_z (sym (to_z-of_z f)) (sym (to_z-of_z g)) ∙ e)

-- `if x <= y`
pub at_most_taken : {w : Width} (x y : ℤ) → SFits w x → SFits w y → le_z (to_z w (of_z w x)) (to_z w (of_z w y)) ≡ true → x ≤ℤ y
at_most_taken x y f g e = le_z-true x y (ap₂ le_z (sym (to_z-of_z f)) (sym (to_z-of_z g)) ∙ e)

pub at_most_left : {w : Width} (x y : ℤ) → SFits w x → SFits w y → le_z (to_z w (of_z w x)) (to_z w (of_z w y)) ≡ false → y <ℤ x
at_most_left x y f g e = le_z-false x y (ap₂ le_z (sym (to_z-of_z f)) (sym (to_z-of_z g)) ∙ e)

-- numbers of equal bits are equal
pub of_z_injective : {w : Width} (x y : ℤ) → SFits w x → SFits w y → of_z w x ≡ of_z w y → x ≡ y
of_z_injective {w} x y f g e = sym (to_z-of_z f) ∙ ap (to_z w) e ∙ to_z-of_z g

-- what `x as i64` asks of an i32, and its value
pub widens : {x : ℤ} → SFits w32 x → SFits w64 (to_z w32 (of_z w32 x))
widens f = rw (to_z-of_z f) (sfits_widen tt f)

pub widened : {x : ℤ} → SFits w32 x → to_z w64 (of_z w64 (to_z w32 (of_z w32 x))) ≡ x
widened f = to_z-of_z (widens f) ∙ to_z-of_z f

-- what `x as u64` asks, of the bits of a number that is not negative
pub cast_asks : (x : ℤ) → SFits w64 x → pos 0 ≤ℤ x → T (non_neg (to_z w64 (of_z w64 x))) × Fits w64 (nat_abs (to_z w64 (of_z w64 x)))
cast_asks x f h = rw (to_z-of_z f) (yes_non_neg h, Fits-nat_abs tt f)
