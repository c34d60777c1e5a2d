-- Document 02, W-205: the length of a curve set's text, worked out by hand. The keys with `=`, and byte 10 of each line, have 277 bytes: 6 with `voll=`, 7 with `floor=`,
-- and 24 times 4 with `mu=` and 7 with `sigma=`. The rest is numbers.
use Rattle.text_refusal.specs.declared.refusal.Refusal.{Refusal}
use Rattle.std.specs.Prelude.{ℕ, List, [], ◌∷◌, ℤ, pos, neg_ℤ, Result, Ok, Err}
use Rattle.curve_set.specs.Curves.{even_curves}
use Rattle.curve_text.specs.Length.{curves_length}

-- 0, 0 and the length; or refused by a number at a line
abbrev length_outcome : Result ℕ Refusal → List ℤ
length_outcome (Ok length) = pos 0 ∷ pos 0 ∷ pos length ∷ []
length_outcome (Err found) = pos found.number ∷ pos found.line ∷ []

-- a set with the same pair in each group
abbrev long : ℤ → ℤ → ℤ → ℤ → ℤ → List ℤ × List ℤ
long voll floor mean spread length = (length_outcome (curves_length (even_curves voll floor mean spread)), pos 0 ∷ pos 0 ∷ length ∷ [])

abbrev impossible : ℤ → ℤ → ℤ → ℤ → List ℤ × List ℤ
impossible voll floor mean spread = (length_outcome (curves_length (even_curves voll floor mean spread)), pos 1 ∷ pos 0 ∷ [])

unfoldable pub length_values : List (List ℤ × List ℤ)
length_values =
    -- document 01's listing: 277 + 6 + 7 + 24 × (1 + 7)
    long (pos 900000) (pos 2000000) (pos 0) (pos 1000000) (pos 482)
    -- one digit each: 277 + 1 + 1 + 24 × (1 + 1)
    ∷ long (pos 0) (pos 0) (pos 0) (pos 1) (pos 327)
    -- as many digits as the ranges allow, and the sign of each mean: 277 + 7 + 8 + 24 × (9 + 8)
    ∷ long (pos 2000000) (pos 20000000) (neg_ℤ (pos 20000000)) (pos 20000000) (pos 700)
    -- the same without a sign: 277 + 7 + 8 + 24 × (8 + 8)
    ∷ long (pos 2000000) (pos 20000000) (pos 20000000) (pos 20000000) (pos 676)
    -- below a power of ten and at one: 277 + 1 + 2 + 24 × (2 + 2), 277 + 2 + 3 + 24 × (3 + 2), 277 + 6 + 7 + 24 × (8 + 8)
    ∷ long (pos 9) (pos 10) (neg_ℤ (pos 9)) (pos 10) (pos 376)
    ∷ long (pos 99) (pos 100) (neg_ℤ (pos 10)) (pos 99) (pos 402)
    ∷ long (pos 999999) (pos 1000000) (neg_ℤ (pos 9999999)) (pos 10000000) (pos 674)
    -- a value one beyond its range, below and above: VOLL, X, mu, sigma
    ∷ impossible (neg_ℤ (pos 1)) (pos 0) (pos 0) (pos 1)
    ∷ impossible (pos 2000001) (pos 0) (pos 0) (pos 1)
    ∷ impossible (pos 0) (neg_ℤ (pos 1)) (pos 0) (pos 1)
    ∷ impossible (pos 0) (pos 20000001) (pos 0) (pos 1)
    ∷ impossible (pos 0) (pos 0) (neg_ℤ (pos 20000001)) (pos 1)
    ∷ impossible (pos 0) (pos 0) (pos 20000001) (pos 1)
    ∷ impossible (pos 0) (pos 0) (pos 0) (pos 0)
    ∷ impossible (pos 0) (pos 0) (pos 0) (pos 20000001)
    ∷ []
