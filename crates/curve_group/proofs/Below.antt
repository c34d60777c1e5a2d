-- What is computed for all numbers below a bound holds for each of them.
use Prim.Native.Nat.{ℕ, zero, suc, ◌<◌}
use native.Mathlib.Nat.{le_of_suc-le-suc, not-suc-le-zero, eq-or-lt_of_le}
use mathlib.Core.Path.{◌≡◌}
use mathlib.Core.Logic.{◌⊎◌, inl, inr}
use mathlib.Core.List.{List, [], ◌∷◌, map}

-- the numbers below n
abbrev pub below : ℕ → List ℕ
below zero = []
below (suc n) = n ∷ below n

-- what is computed for all of them holds for each
pub each_below : {A : Type 0} (f g : ℕ → A) (n : ℕ) → map f (below n) ≡ map g (below n) → (k : ℕ) → k < n → f k ≡ g k
each_below f g zero same k h = absurd (not-suc-le-zero h)
each_below f g (suc n) same k h = go (each_below f g n (cc) k) (eq-or-lt_of_le (le_of_suc-le-suc h))
  where
    go : (k < n → f k ≡ g k) → (k ≡ n) ⊎ (k < n) → f k ≡ g k
    go before (inl here) = rw here (cc)
    go before (inr less) = before less
