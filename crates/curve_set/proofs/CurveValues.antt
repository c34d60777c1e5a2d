-- Laws on a curve set's values in the order of its lines: pair after pair, from a set to its values and from values to their set.
use Prim.Native.Nat.{ℕ, zero, suc, ◌+◌, ◌*◌, ◌<◌}
use native.Mathlib.Numerals.{add-one}
use native.Mathlib.Omega.{arith}
use mathlib.Core.List.{List, [], ◌∷◌, ◌++◌, append_assoc}
use mathlib.Core.Path.{◌≡◌, refl, ap}
use lib.IntN.{ℤ, pos}
use lib.ListN.{length, take, drop, get_or, set}
use lib.Seq.{drop-cons, drop-drop, get_or-drop, lt-length-set, take-suc-set}
use Rattle.curve_set.specs.CurveValues.{pair_values, curve_values, pair_at, pairs_of, curves_of}
use Rattle.curve_set.specs.Curves.{even_curves}
use Rattle.curve_set.specs.declared.Pair.{Pair}
use Rattle.curve_set.specs.declared.CurveSet.{CurveSet}

abbrev pub no_pair : Pair
no_pair = record { mean = pos 0; spread = pos 0 }

-- the values of one pair more
pub values_more :
    (pairs : List Pair) (values : List ℤ) (i : ℕ) → i < length pairs → 3 + 2 * i < length values →
    take (2 + 2 * i) values ++ pair_values (drop i pairs) ≡
    take (2 + 2 * (i + 1)) (set (set values (2 + 2 * i) (get_or pairs i no_pair).mean) (3 + 2 * i) (get_or pairs i no_pair).spread) ++ pair_values (drop (i + 1) pairs)
unfolding pair_values
values_more pairs values i h k =
    let pair : Pair = get_or pairs i no_pair in
    let one : 2 + 2 * (i + 1) ≡ suc (3 + 2 * i) = omega arith in
    let two : 3 + 2 * i ≡ suc (2 + 2 * i) = omega arith in
    let first : take (suc (2 + 2 * i)) (set values (2 + 2 * i) pair.mean) ≡ take (2 + 2 * i) values ++ (pair.mean ∷ []) = take-suc-set values (2 + 2 * i) pair.mean (omega arith) in
    let second = take-suc-set (set values (2 + 2 * i) pair.mean) (3 + 2 * i) pair.spread (lt-length-set values (2 + 2 * i) pair.mean k) in
    rw (drop-cons pairs i no_pair h, one, add-one i, second, two, first) (simp append_assoc)

-- one pair more of the values
pub pairs_more :
    (pairs : List Pair) (values : List ℤ) (i n : ℕ) → i < length pairs →
    take i pairs ++ pairs_of (suc n) (drop (2 + 2 * i) values) ≡
    take (i + 1) (set pairs i (pair_at values i)) ++ pairs_of n (drop (2 + 2 * (i + 1)) values)
unfolding pairs_of
pairs_more pairs values i n h =
    let here : 2 + 2 * i + 0 ≡ 2 + 2 * i = omega arith in
    let there : 2 + 2 * i + 1 ≡ 3 + 2 * i = omega arith in
    let next : 2 + 2 * (i + 1) ≡ 2 + 2 * i + 2 = omega arith in
    rw (
      next,
      add-one i,
      take-suc-set pairs i (pair_at values i) h,
      get_or-drop (2 + 2 * i) values 0 (pos 0),
      get_or-drop (2 + 2 * i) values 1 (pos 0),
      drop-drop 2 (2 + 2 * i) values,
      here,
      there,
    ) (simp append_assoc)

-- ---- the values one after the other, and how many there are

pub values_in_order : (curves : CurveSet) → curve_values curves ≡ curves.voll ∷ curves.floor ∷ pair_values curves.pairs
unfolding curve_values
values_in_order curves = refl

pub no_pair_values : pair_values [] ≡ []
unfolding pair_values
no_pair_values = refl

pub more_pair_values : (pair : Pair) (pairs : List Pair) → pair_values (pair ∷ pairs) ≡ pair.mean ∷ pair.spread ∷ pair_values pairs
unfolding pair_values
more_pair_values pair pairs = refl

pairs_length : (pairs : List Pair) → length (pair_values pairs) ≡ 2 * length pairs
unfolding pair_values
pairs_length [] = refl
pairs_length (pair ∷ pairs) = omega (arith, pairs_length pairs)

pub values_length : (curves : CurveSet) → length curves.pairs ≡ 24 → length (curve_values curves) ≡ 50
unfolding curve_values
values_length curves l = omega (arith, pairs_length curves.pairs)

pub pairs_of-length : (values : List ℤ) → length (curves_of values).pairs ≡ 24
unfolding curves_of pairs_of
pairs_of-length values = refl

-- the same mean and the same spread, n times
abbrev pub even_values : ℕ → ℤ → ℤ → List ℤ
even_values zero mean spread = []
even_values (suc n) mean spread = mean ∷ spread ∷ even_values n mean spread

pub even_values_lem : (voll floor mean spread : ℤ) → curve_values (even_curves voll floor mean spread) ≡ voll ∷ floor ∷ even_values 24 mean spread
unfolding curve_values pair_values
even_values_lem voll floor mean spread = refl

-- ---- a set from its values, and values from their set

pub no_pairs_of : (values : List ℤ) → pairs_of zero values ≡ []
unfolding pairs_of
no_pairs_of values = refl

pub more_pairs_of : (n : ℕ) (mean spread : ℤ) (values : List ℤ) → pairs_of (suc n) (mean ∷ spread ∷ values) ≡ record { mean = mean; spread = spread } ∷ pairs_of n values
unfolding pairs_of
more_pairs_of n mean spread values = refl

pub set_of_lines : (voll floor : ℤ) (values : List ℤ) → curves_of (voll ∷ floor ∷ values) ≡ record { voll = voll; floor = floor; pairs = pairs_of 24 values }
unfolding curves_of
set_of_lines voll floor values = refl

pairs_of_values : (n : ℕ) (pairs : List Pair) → length pairs ≡ n → pairs_of n (pair_values pairs) ≡ pairs
unfolding pairs_of pair_values
pairs_of_values zero [] l = refl
pairs_of_values zero (pair ∷ pairs) l = absurd (omega arith)
pairs_of_values (suc n) [] l = absurd (omega arith)
pairs_of_values (suc n) (pair ∷ pairs) l = ap (λ (rest : List Pair). pair ∷ rest) (pairs_of_values n pairs (omega arith))

pub set_of_values : (curves : CurveSet) → length curves.pairs ≡ 24 → curves_of (curve_values curves) ≡ curves
unfolding curve_values curves_of
set_of_values curves l = rw (pairs_of_values 24 curves.pairs l)

values_of_pairs : (n : ℕ) (values : List ℤ) → length values ≡ 2 * n → pair_values (pairs_of n values) ≡ values
unfolding pairs_of pair_values
values_of_pairs zero [] l = refl
values_of_pairs zero (value ∷ values) l = absurd (omega arith)
values_of_pairs (suc n) [] l = absurd (omega arith)
values_of_pairs (suc n) (mean ∷ []) l = absurd (omega arith)
values_of_pairs (suc n) (mean ∷ (spread ∷ values)) l = ap (λ (rest : List ℤ). mean ∷ spread ∷ rest) (values_of_pairs n values (omega arith))

pub values_of_set : (values : List ℤ) → length values ≡ 50 → curve_values (curves_of values) ≡ values
unfolding curve_values curves_of
values_of_set [] l = absurd (omega arith)
values_of_set (voll ∷ []) l = absurd (omega arith)
values_of_set (voll ∷ (floor ∷ values)) l = ap (λ (rest : List ℤ). voll ∷ floor ∷ rest) (values_of_pairs 24 values (omega arith))
