-- What the test of the header's numbers tells, and what it asks.
use Prim.Native.Nat.{ℕ, suc, ◌≤◌, ◌<◌}
use mathlib.Core.Path.{◌≡◌, refl}
use mathlib.Core.Bool.{Bool, true, false, cond}
use native.Mathlib.Omega.{arith}
use mathlib.Core.List.{List, [], ◌∷◌}
use lib.IntN.{ℤ, pos, neg_ℤ, nat_abs}
use lib.ListN.{length, get_or, drop, drop_of_length-le}
use lib.Seq.{drop-cons}
use lib.Signed.{◌≤ℤ◌}
use Rattle.std.proofs.lemmas.List.{get_or-map}
use Rattle.integer.specs.Range.{within}
use Rattle.integer.proofs.Ranges.{within_low, within_bound, between_within}
use Rattle.pricing_resource.specs.internal.Range.{Between}
use Rattle.pricing_sums.specs.Header.{HeaderLine, header_lines, low_at, high_at, header_values, fault_from, header_fault}
use Rattle.pricing_sums.specs.declared.header.Header.{Header}

-- each number within its range
pub record HeaderInRange (h : Header) : Type 0 where
  pub month : Between (pos 1) (pos 12) h.month
  pub hour : Between (pos 0) (pos 23) h.hour
  pub lambda : Between (neg_ℤ (pos 2000000)) (pos 2000000) h.lambda
  pub factor : Between (pos 0) (pos 10000) h.factor
  pub prc : Between (pos 0) (pos 200000000) h.prc
  pub eea1 : Between (pos 0) (pos 200000000) h.eea1
  pub short : Between (pos 0) (pos 200000000) h.short
  pub count : Between (pos 0) (pos 4096) h.count

-- then no line is refused
pub header_fault_lem : {h : Header} → HeaderInRange h → header_fault h ≡ 0
unfolding header_fault fault_from
header_fault_lem r =
    rw (
      between_within r.month,
      between_within r.hour,
      between_within r.lambda,
      between_within r.factor,
      between_within r.prc,
      between_within r.eea1,
      between_within r.short,
      between_within r.count,
    )

-- where no line is refused: magnitudes, by which every step of pricing fits its machine number
pub record HeaderBound (h : Header) : Type 0 where
  pub month : nat_abs h.month ≤ 12
  pub hour : nat_abs h.hour ≤ 23
  pub lambda : nat_abs h.lambda ≤ 2000000
  pub factor : nat_abs h.factor ≤ 10000
  pub prc : nat_abs h.prc ≤ 200000000
  pub eea1 : nat_abs h.eea1 ≤ 200000000
  pub short : nat_abs h.short ≤ 200000000
  pub count : nat_abs h.count ≤ 4096
  pub share : pos 0 ≤ℤ h.factor

-- no fault, so none at this line and none at a later one
no_fault : (b : Bool) (later line : ℕ) → cond b later (suc line) ≡ 0 → (b ≡ true) × (later ≡ 0)
no_fault true later line e = (refl, e)
no_fault false later line e = absurd (omega arith)

pub header_bound : (h : Header) → header_fault h ≡ 0 → HeaderBound h
unfolding header_fault fault_from
header_bound h e =
    let month = no_fault _ _ 0 e in
    let hour = no_fault _ _ 1 month.1 in
    let lambda = no_fault _ _ 2 hour.1 in
    let factor = no_fault _ _ 3 lambda.1 in
    let prc = no_fault _ _ 4 factor.1 in
    let eea1 = no_fault _ _ 5 prc.1 in
    let short = no_fault _ _ 6 eea1.1 in
    let count = no_fault _ _ 7 short.1 in
    record {
      month = within_bound (pos 1) (pos 12) h.month 12 refl refl month.0;
      hour = within_bound (pos 0) (pos 23) h.hour 23 refl refl hour.0;
      lambda = within_bound (neg_ℤ (pos 2000000)) (pos 2000000) h.lambda 2000000 refl refl lambda.0;
      factor = within_bound (pos 0) (pos 10000) h.factor 10000 refl refl factor.0;
      prc = within_bound (pos 0) (pos 200000000) h.prc 200000000 refl refl prc.0;
      eea1 = within_bound (pos 0) (pos 200000000) h.eea1 200000000 refl refl eea1.0;
      short = within_bound (pos 0) (pos 200000000) h.short 200000000 refl refl short.0;
      count = within_bound (pos 0) (pos 4096) h.count 4096 refl refl count.0;
      share = within_low (pos 0) (pos 10000) h.factor factor.0;
    }

-- ---- the first fault of some lines

pub header_fault_is : (h : Header) → header_fault h ≡ fault_from 1 header_lines (header_values h)
unfolding header_fault
header_fault_is h = refl

pub fault_none : (line : ℕ) (values : List ℤ) → fault_from line [] values ≡ 0
unfolding fault_from
fault_none line values = refl

module _ (line : ℕ) (due : HeaderLine) (lines : List HeaderLine) where
  pub fault_no_values : fault_from line (due ∷ lines) [] ≡ 0
  unfolding fault_from
  fault_no_values = refl

  pub fault_first : (z : ℤ) (values : List ℤ) → fault_from line (due ∷ lines) (z ∷ values) ≡ cond (within due.low due.high z) (fault_from (suc line) lines values) line
  unfolding fault_from
  fault_first z values = refl

-- the number at a place decides first, by what stands at the place
pub fault_step : (line place : ℕ) (values : List ℤ) → place < 8 → length values ≡ 8 →
    fault_from line (drop place header_lines) (drop place values)
    ≡ cond (within (low_at place) (high_at place) (get_or values place (pos 0))) (fault_from (suc line) (drop (suc place) header_lines) (drop (suc place) values)) line
fault_step line place values h size =
    let inside : place < length values = omega arith in
    rw (
      drop-cons header_lines place no_line h,
      drop-cons values place (pos 0) inside,
      get_or-map (λ (due : HeaderLine). due.low) header_lines place no_line (pos 0) h,
      get_or-map (λ (due : HeaderLine). due.high) header_lines place no_line (pos 0) h,
    ) (fault_first line (get_or header_lines place no_line) (drop (suc place) header_lines) (get_or values place (pos 0)) (drop (suc place) values))
  where
    no_line : HeaderLine
    no_line = record { key = []; low = pos 0; high = pos 0 }

-- past the last place there is none
pub fault_end : (line place : ℕ) (values : List ℤ) → 8 ≤ place → fault_from line (drop place header_lines) (drop place values) ≡ 0
fault_end line place values h = rw (drop_of_length-le header_lines h) (fault_none line (drop place values))
