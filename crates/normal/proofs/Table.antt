-- The table's rule and its rising order, at each of its 501 entries, by one test that antt computes over the whole table; and that each
-- quotient in the rule is exact and A(k) not negative.
-- Assumes nothing.
use mathlib.Core.Path.{◌≡◌, refl, sym, ap, ap₂, ◌∙◌}
use mathlib.Core.Logic.{◌⊎◌, inl, inr}
use mathlib.Core.Bool.{Bool, true, ◌&&◌, and-eq-true_iff}
use mathlib.Core.List.{List, [], ◌∷◌}
use Prim.Native.Nat.{ℕ, zero, suc, ◌+◌, ◌-◌, ◌≤◌, ◌<◌, ◌*◌, ◌^◌, ◌/◌, zero-le}
use native.Mathlib.Nat.{add-zero, zero-add, add-suc, suc-add, le_of_suc-le-suc, not-suc-le-zero, le_refl, add-sub_of_le, eq-or-lt_of_le, mul_left_comm}
use native.Mathlib.Omega.{arith}
use borrow.Author.Tests.{eqb-true, ltb-true, leb-true}
use lib.Dec.{eqb, leb, ltb}
use lib.ListN.{length, get_or}
use Rattle.normal.specs.Knot.{common, denominator, term, even_terms, odd_terms, knot, IsTable}
use Rattle.normal.specs.Promises.{QuotientsAreExact, TermsAreExact, SeriesIsNotNegative, KnotsRise}

-- ---- each quotient by a denominator is exact, by one test over all sixty

abbrev exact : ℕ → Bool
exact n = eqb (denominator n * (common / denominator n)) common

abbrev exact_below : ℕ → Bool
exact_below zero = true
exact_below (suc m) = exact m && exact_below m

exact_below_lem : (m : ℕ) → exact_below m ≡ true → (n : ℕ) → n < m → exact n ≡ true
exact_below_lem zero t n h = absurd (not-suc-le-zero h)
exact_below_lem (suc m) t n h =
    let parts = (and-eq-true_iff (exact m) (exact_below m)).0 t in
    go parts.0 (exact_below_lem m parts.1 n) (eq-or-lt_of_le (le_of_suc-le-suc h))
  where
    go : exact m ≡ true → (n < m → exact n ≡ true) → (n ≡ m) ⊎ (n < m) → exact n ≡ true
    go here below (inl e) = rw e here
    go here below (inr l) = below l

pub quotients_exact : QuotientsAreExact
quotients_exact n h = eqb-true (denominator n * (common / denominator n)) common (exact_below_lem 60 refl n h)

pub terms_exact : TermsAreExact
terms_exact k n h = mul_left_comm (denominator n) (k ^ (2 * n + 1)) (common / denominator n) ∙ ap (λ (x : ℕ). k ^ (2 * n + 1) * x) (quotients_exact n h)

-- ---- the rule, with the factors of the series' terms apart, so that they are computed once: the last term's factor first

abbrev even_factors : ℕ → List ℕ
even_factors zero = []
even_factors (suc m) = common / denominator (2 * m) ∷ even_factors m

abbrev odd_factors : ℕ → List ℕ
odd_factors zero = []
odd_factors (suc m) = common / denominator (2 * m + 1) ∷ odd_factors m

abbrev even_by : ℕ → ℕ → List ℕ → ℕ
even_by k zero factors = 0
even_by k (suc m) [] = 0
even_by k (suc m) (factor ∷ factors) = even_by k m factors + k ^ (2 * (2 * m) + 1) * factor

abbrev odd_by : ℕ → ℕ → List ℕ → ℕ
odd_by k zero factors = 0
odd_by k (suc m) [] = 0
odd_by k (suc m) (factor ∷ factors) = odd_by k m factors + k ^ (2 * (2 * m + 1) + 1) * factor

even_by_lem : (k m : ℕ) → even_by k m (even_factors m) ≡ even_terms k m
even_by_lem k zero = refl
even_by_lem k (suc m) = ap (λ (terms : ℕ). terms + term k (2 * m)) (even_by_lem k m)

odd_by_lem : (k m : ℕ) → odd_by k m (odd_factors m) ≡ odd_terms k m
odd_by_lem k zero = refl
odd_by_lem k (suc m) = ap (λ (terms : ℕ). terms + term k (2 * m + 1)) (odd_by_lem k m)

-- T(k) from the sums of its even and of its odd terms
abbrev knot_of : ℕ → ℕ → ℕ
knot_of even odd = (10 ^ 9 * (10 ^ 16 * common + 2 * 3989422804014327 * (even - odd)) + 10 ^ 16 * common) / (2 * (10 ^ 16 * common))

abbrev knot_by : List ℕ → List ℕ → ℕ → ℕ
knot_by evens odds k = knot_of (even_by k 30 evens) (odd_by k 30 odds)

knot_by_lem : (k : ℕ) → knot_by (even_factors 30) (odd_factors 30) k ≡ knot k
unfolding knot
knot_by_lem k = ap₂ knot_of (even_by_lem k 30) (odd_by_lem k 30)

-- the entry x at place k is T(k), and the next one lies above it, by less than 4000000; and A(k) is not negative
pub record Entry (k x next : ℕ) : Type 0 where
  pub rule : x ≡ knot k
  pub rises : x < next
  pub near : next < x + 4000000
  pub not_negative : odd_terms k 30 ≤ even_terms k 30

-- the same as a test, over the sums of the even and of the odd terms
abbrev test : ℕ → ℕ → ℕ → ℕ → Bool
test even odd x next = eqb x (knot_of even odd) && (ltb x next && (ltb next (x + 4000000) && leb odd even))

-- the factors of all sixty terms
abbrev evens : List ℕ
evens = even_factors 30

abbrev odds : List ℕ
odds = odd_factors 30

entry : (k x next : ℕ) → test (even_by k 30 evens) (odd_by k 30 odds) x next ≡ true → Entry k x next
entry k x next t =
    let even = even_by k 30 evens in
    let odd = odd_by k 30 odds in
    let rule = (and-eq-true_iff (eqb x (knot_of even odd)) (ltb x next && (ltb next (x + 4000000) && leb odd even))).0 t in
    let rises = (and-eq-true_iff (ltb x next) (ltb next (x + 4000000) && leb odd even)).0 rule.1 in
    let near = (and-eq-true_iff (ltb next (x + 4000000)) (leb odd even)).0 rises.1 in
    let sums : odd ≤ even = leb-true odd even near.1 in
    record {
      rule = eqb-true x (knot_of even odd) rule.0 ∙ knot_by_lem k;
      rises = ltb-true x next rises.0;
      near = ltb-true next (x + 4000000) near.0;
      not_negative = rw (even_by_lem k 30, odd_by_lem k 30) at sums;
    }

-- the test at each entry of a list, whose places are counted from i. After the last entry comes 10^9, which is N from 500 on
abbrev tests : List ℕ → List ℕ → ℕ → List ℕ → Bool
tests evens odds i [] = true
tests evens odds i (x ∷ xs) = test (even_by i 30 evens) (odd_by i 30 odds) x (get_or xs 0 1000000000) && tests evens odds (suc i) xs

from : (d : ℕ) (xs : List ℕ) (i : ℕ) → tests evens odds i xs ≡ true → (k : ℕ) → k < length xs → Entry (i + k) (get_or xs k d) (get_or xs (suc k) 1000000000)
from d [] i t k h = absurd (not-suc-le-zero h)
from d (x ∷ xs) i t zero h =
    let next = get_or xs 0 1000000000 in
    rw (add-zero i) (entry i x next ((and-eq-true_iff (test (even_by i 30 evens) (odd_by i 30 odds) x next) (tests evens odds (suc i) xs)).0 t).0)
from d (x ∷ xs) i t (suc k) h =
    let next = get_or xs 0 1000000000 in
    rw (add-suc i k, ← suc-add i k)
    (from d xs (suc i) ((and-eq-true_iff (test (even_by i 30 evens) (odd_by i 30 odds) x next) (tests evens odds (suc i) xs)).0 t).1 k (le_of_suc-le-suc h))

-- A list of 501 numbers that passes the test is the table. The source's table is handed over as `is-table _ refl refl`: the one
-- computed test of its rule and of its order.
pub is_table : (xs : List ℕ) → length xs ≡ 501 → tests evens odds 0 xs ≡ true → IsTable xs
is_table xs size t = record {
  rule = λ k h. (entry_at 0 k (omega arith)).rule;
  rises = λ k h. rw (past (suc k) (omega arith)) at (entry_at 0 k (omega arith)).rises;
}
  where
    entry_at : (d k : ℕ) → k < length xs → Entry k (get_or xs k d) (get_or xs (suc k) 1000000000)
    entry_at d k h = rw (zero-add k) at (from d xs 0 t k h)

    past : (k : ℕ) → k < length xs → get_or xs k 1000000000 ≡ get_or xs k 0
    past k h = (entry_at 1000000000 k h).rule ∙ sym (entry_at 0 k h).rule

-- ---- what holds of the rule itself, whatever the source's table: the test over the list that the rule gives

-- m knots from T(i) on
abbrev ruled : List ℕ → List ℕ → ℕ → ℕ → List ℕ
ruled evens odds i zero = []
ruled evens odds i (suc m) = knot_by evens odds i ∷ ruled evens odds (suc i) m

abbrev knots : List ℕ
knots = ruled evens odds 0 501

tested : tests evens odds 0 knots ≡ true
tested = refl

ruled_length : (i m : ℕ) → length (ruled evens odds i m) ≡ m
ruled_length i zero = refl
ruled_length i (suc m) = ap suc (ruled_length (suc i) m)

rule_entry : (d k : ℕ) → k < 501 → Entry k (get_or knots k d) (get_or knots (suc k) 1000000000)
rule_entry d k h = rw (zero-add k) at (from d knots 0 tested k (rw (ruled_length 0 501) h))

-- A(k) is not negative
pub series-not_negative : SeriesIsNotNegative
series-not_negative k h = (rule_entry 0 k (omega arith)).not_negative

-- the order, said of the rule
pub knot_rises : (k : ℕ) → k < 500 → (knot k < knot (suc k)) × (knot (suc k) < knot k + 4000000)
knot_rises k h =
    let here = rule_entry 0 k (omega arith) in
    let there = rule_entry 1000000000 (suc k) (omega arith) in
    omega arith

pub knots_rise : KnotsRise
knots_rise k h = (knot_rises k h).0

climbs : (j d : ℕ) → j + d ≤ 500 → knot j ≤ knot (j + d)
climbs j zero h = rw (add-zero j) (le_refl (knot j))
climbs j (suc d) h = rw (add-suc j d) (omega (arith, climbs j d (omega arith), knot_rises (j + d) (omega arith)))

pub knot_order : {j k : ℕ} → j ≤ k → k ≤ 500 → knot j ≤ knot k
knot_order {j} {k} h l =
    let e = add-sub_of_le h in
    rw e at (climbs j (k - j) (omega arith))

ends : (knot 0 ≡ 500000000) × (knot 500 ≡ 999999713)
unfolding knot
ends = (refl, refl)

-- the ends of the table bound every entry
pub knot_range : (k : ℕ) → k ≤ 500 → (500000000 ≤ knot k) × (knot k ≤ 999999713)
knot_range k l = omega (arith, ends, knot_order {j = 0} {k = k} zero-le l, knot_order l (le_refl 500))
