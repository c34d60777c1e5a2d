-- A flag as the code tests it: by its bits.
use mathlib.Core.Path.{◌≡◌, refl, ap}
use mathlib.Core.Bool.{Bool, true, false}
use borrow.Author.Tests.{eqb-true}
use lib.IntN.{ℤ, pos, negsuc}
use mir.Facts.{sfits_lit}
use mir.Syntax.{w32}
use mir.Val.{SFits, of_z}
use Rattle.integer.proofs.Signed.{of_z_injective}
use Rattle.pricing_resource.specs.Flag.{is_one}

pub one_is : (z : ℤ) → is_one z ≡ true → z ≡ pos 1
one_is (pos n) e = ap pos (eqb-true n 1 e)
one_is (negsuc n) e = cc

pub flag_set : (z : ℤ) → SFits w32 z → of_z w32 z ≡ 1 → is_one z ≡ true
flag_set z fits e = let is : z ≡ pos 1 = of_z_injective {w = w32} z (pos 1) fits (sfits_lit tt) e in rw is

pub flag_not_set : (z : ℤ) → (of_z w32 z ≡ 1 → ⊥) → is_one z ≡ false
flag_not_set z other = go (is_one z) refl
  where
    go : (b : Bool) → is_one z ≡ b → b ≡ false
    go true e = absurd (other (ap (of_z w32) (one_is z e)))
    go false e = refl
