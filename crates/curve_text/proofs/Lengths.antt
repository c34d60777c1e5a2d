-- How long a curve text is: counted, and between which bounds.
use Prim.Native.Nat.{ℕ, zero, suc, ◌+◌, ◌*◌, ◌^◌, ◌≤◌, ◌<◌}
use native.Mathlib.Omega.{arith}
use mathlib.Core.Bool.{true, false}
use mathlib.Core.List.{List, [], ◌∷◌}
use mathlib.Core.Path.{◌≡◌, refl, ap, ◌∙◌}
use borrow.Author.Tests.{le-leb}
use lib.IntN.{ℤ, pos, negsuc, nat_abs}
use lib.Signed.{◌≤ℤ◌}
use lib.ListN.{length, take}
use lib.Seq.{take_all}
use Rattle.std.specs.Prelude.{Ok, Err}
use Rattle.integer.proofs.Order.{pos-≤ℤ}
use Rattle.integer.proofs.Bounds.{abs_bound}
use Rattle.text_number.specs.Number.{written_number}
use Rattle.text_number.proofs.WrittenDigits.{written_within, natural_within, number_some}
use Rattle.text_writer.specs.internal.Counted.{number_bytes}
use Rattle.text_writer.proofs.Counted.{KeyBytes, key_bytes_lem, lines_bytes, bytes_none, bytes_first}
use Rattle.curve_set.specs.Curves.{voll_range, floor_range, mean_range, spread_range, pairs_in_range, curves_in_range, even_curves}
use Rattle.curve_set.specs.CurveValues.{pair_values, curve_values}
use Rattle.curve_set.specs.declared.Pair.{Pair}
use Rattle.curve_set.specs.declared.CurveSet.{CurveSet}
use Rattle.curve_set.proofs.CurveValues.{values_in_order, values_length, no_pair_values, more_pair_values, even_values, even_values_lem}
use Rattle.curve_set.proofs.InRange.{lies_low, lies_high, pair_range, first_in_range, rest_in_range, in_range_voll, in_range_floor, in_range_pairs}
use Rattle.curve_text.specs.CurveText.{curve_text}
use Rattle.curve_text.specs.Length.{curves_length}
use Rattle.curve_text.proofs.CurveText.{curve_keys, written_by_keys}
use Rattle.curve_text.proofs.CurveCases.{text_of_values}

-- ---- counted: the keys and byte 10 of each line have 277 bytes, the rest is numbers

pub text_counted : (curves : CurveSet) → length curves.pairs ≡ 24 → length (curve_text curves) ≡ 277 + number_bytes (curve_values curves)
text_counted curves l =
    let values : List ℤ = curve_values curves in
    let fifty : length values ≡ 50 = values_length curves l in
    let known : KeyBytes curve_keys 50 277 = key_bytes_lem curve_keys refl refl in
    let all : take 50 values ≡ values = take_all 50 values (omega arith) in
    rw (text_of_values curves, ← (written_by_keys values)) (rw all at (lines_bytes known values (omega arith)))

-- with the same pair in each group
pub even_counted :
    (voll floor mean spread : ℤ) →
    length (curve_text (even_curves voll floor mean spread))
    ≡ 277 + length (written_number voll) + length (written_number floor) + 24 * (length (written_number mean) + length (written_number spread))
even_counted voll floor mean spread =
    omega (
      arith,
      text_counted (even_curves voll floor mean spread) refl,
      ap number_bytes (even_values_lem voll floor mean spread),
      bytes_first voll (floor ∷ even_values 24 mean spread),
      bytes_first floor (even_values 24 mean spread),
      pairs 24,
    )
  where
    pairs : (n : ℕ) → number_bytes (even_values n mean spread) ≡ n * (length (written_number mean) + length (written_number spread))
    pairs zero = omega (arith, bytes_none)
    pairs (suc n) = omega (arith, bytes_first mean (spread ∷ even_values n mean spread), bytes_first spread (even_values n mean spread), pairs n)

-- ---- the length, by the set

module _ (curves : CurveSet) where
  pub curves_length_refused : curves_in_range curves ≡ false → curves_length curves ≡ Err (record { number = 1; line = 0 })
  unfolding curves_length
  curves_length_refused out = rw out

  pub curves_length_told : curves_in_range curves ≡ true → curves_length curves ≡ Ok (length (curve_text curves))
  unfolding curves_length
  curves_length_told inside = rw inside

-- ---- the least and the greatest length

-- a number that is not negative has no sign
unsigned : (low high k : ℕ) (z : ℤ) → high < 10 ^ suc k → pos low ≤ℤ z → z ≤ℤ pos high → length (written_number z) ≤ suc k
unsigned low high k (pos n) few l h = natural_within k (pos n) (le-leb 0 n (omega arith)) (omega (arith, (pos-≤ℤ n high).0 h))
unsigned low high k (negsuc n) few l h = absurd l.le

-- the numbers of a pair have 2 to 17 bytes
pairs_bounded : (pairs : List Pair) → pairs_in_range pairs ≡ true → (2 * length pairs ≤ number_bytes (pair_values pairs)) × (number_bytes (pair_values pairs) ≤ 17 * length pairs)
pairs_bounded [] e = rw (no_pair_values, bytes_none) (omega arith, omega arith)
pairs_bounded (pair ∷ pairs) e =
    let r = pair_range pair (first_in_range pair pairs e) in
    let z = pair.mean in
    let mean : nat_abs z ≤ 20000000 = (abs_bound z 20000000).1 (lies_low mean_range z r.mean, lies_high mean_range z r.mean) in
    let signed = written_within 7 z (omega (arith, mean)) in
    let spread = unsigned 1 20000000 7 pair.spread (omega arith) (lies_low spread_range pair.spread r.spread) (lies_high spread_range pair.spread r.spread) in
    let first = bytes_first z (pair.spread ∷ pair_values pairs) in
    let second = bytes_first pair.spread (pair_values pairs) in
    let rest = pairs_bounded pairs (rest_in_range pair pairs e) in
    rw (more_pair_values pair pairs)
    (omega (arith, first, second, number_some z, number_some pair.spread, rest.0), omega (arith, first, second, signed, spread, rest.1))

module _ (curves : CurveSet) (l : length curves.pairs ≡ 24) (inside : curves_in_range curves ≡ true) where
  values_bytes : number_bytes (curve_values curves) ≡ length (written_number curves.voll) + (length (written_number curves.floor) + number_bytes (pair_values curves.pairs))
  values_bytes =
      rw (values_in_order curves)
      (bytes_first curves.voll (curves.floor ∷ pair_values curves.pairs)
      ∙ ap (λ (n : ℕ). length (written_number curves.voll) + n) (bytes_first curves.floor (pair_values curves.pairs)))

  pub least_length : 327 ≤ length (curve_text curves)
  least_length =
      omega (
        arith,
        text_counted curves l,
        values_bytes,
        number_some curves.voll,
        number_some curves.floor,
        (pairs_bounded curves.pairs (in_range_pairs curves inside)).0,
      )

  pub greatest_length : length (curve_text curves) ≤ 700
  greatest_length =
      let voll = in_range_voll curves inside in
      let floor = in_range_floor curves inside in
      omega (
        arith,
        text_counted curves l,
        values_bytes,
        unsigned 0 2000000 6 curves.voll (omega arith) (lies_low voll_range curves.voll voll) (lies_high voll_range curves.voll voll),
        unsigned 0 20000000 7 curves.floor (omega arith) (lies_low floor_range curves.floor floor) (lies_high floor_range curves.floor floor),
        (pairs_bounded curves.pairs (in_range_pairs curves inside)).1,
      )
