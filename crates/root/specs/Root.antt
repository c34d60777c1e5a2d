-- The integer square root: the largest whole number whose square is at most x.
use Rattle.std.specs.Prelude.{cond, ℕ, zero, suc, ◌+◌, ◌*◌, ◌/◌, ◌≤◌, ◌<◌, leb}

-- r is the integer square root of x
abbrev pub IsRoot : (x r : ℕ) → Type 0
IsRoot x r = (r * r ≤ x) × (x < (r + 1) * (r + 1))

-- r, or r + 1 where its square is still at most x
unfoldable pub raised : (x r : ℕ) → ℕ
raised x r = cond (leb ((r + 1) * (r + 1)) x) (r + 1) r

-- It is twice the root of x / 4, or one more. The first argument is how often x may still be quartered: x times is enough.
unfoldable pub root_in : ℕ → ℕ → ℕ
root_in zero x = 0
root_in (suc d) zero = 0
root_in (suc d) (suc x) = raised (suc x) (2 * root_in d (suc x / 4))

unfoldable pub root_of : ℕ → ℕ
root_of x = root_in x x
