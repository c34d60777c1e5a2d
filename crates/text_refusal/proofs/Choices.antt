-- What the outcome of a test tells.
use mathlib.Core.Bool.{Bool, true, false, ◌&&◌, cond}
use mathlib.Core.Path.{◌≡◌, refl}
use lib.Dec.{T}

pub is_true : (b : Bool) → T b → b ≡ true
is_true true t = refl
is_true false t = absurd t

pub and_left : (a b : Bool) → (a && b) ≡ true → a ≡ true
and_left true b e = refl
and_left false b e = e

pub and_right : (a b : Bool) → (a && b) ≡ true → b ≡ true
and_right true b e = e
and_right false b e = cc

-- an outcome that is not the other one is the first, and the test held
pub chosen : {A : Type 0} (b : Bool) {one other : A} (result : A) → cond b one other ≡ result → (other ≡ result → ⊥) → (b ≡ true) × (one ≡ result)
chosen true result e no_other = (refl, e)
chosen false result e no_other = absurd (no_other e)

-- an outcome that is not the first is the other one, and the test failed
pub passed_over : {A : Type 0} (b : Bool) {one other : A} (result : A) → cond b one other ≡ result → (one ≡ result → ⊥) → (b ≡ false) × (other ≡ result)
passed_over true result e not_one = absurd (not_one e)
passed_over false result e not_one = (refl, e)
