-- A curve set that was read is in range: each line is read by the range of its value.
use Prim.Native.Nat.{ℕ, zero, suc}
use native.Mathlib.Omega.{arith}
use mathlib.Core.Bool.{true}
use mathlib.Core.List.{List, ◌∷◌}
use mathlib.Core.Path.{◌≡◌, refl}
use lib.IntN.{ℤ}
use Rattle.std.specs.Prelude.{Ok}
use Rattle.text_refusal.specs.Bytes.{bytes}
use Rattle.text_line.specs.Field.{Field, LineAnswer, got, refused, field_at}
use Rattle.text_line.proofs.FieldTexts.{field_read}
use Rattle.text_number.proofs.Fields.{number_between}
use Rattle.text_schema.specs.Schema.{and_then, read_fields, repeated}
use Rattle.text_schema.proofs.Fields.{repeated_more}
use Rattle.text_schema.proofs.Readings.{reading_first}
use Rattle.curve_set.specs.Curves.{Range, voll_range, floor_range, mean_range, spread_range, lies_in, pairs_in_range, curves_in_range}
use Rattle.curve_set.specs.CurveValues.{pairs_of, curves_of}
use Rattle.curve_set.proofs.CurveValues.{no_pairs_of, more_pairs_of, set_of_lines}
use Rattle.curve_set.proofs.InRange.{no_pairs_in_range, more_pairs_in_range, set_in_range}
use Rattle.curve_text.specs.CurveText.{ranged_field, voll_field, floor_field, pair_fields, curve_fields, curve_lines}

-- a number that a line gives lies in the line's range
line_in_range : (key : List ℕ) (range : Range) (text : List ℕ) (at : ℕ) {z : ℤ} {next : ℕ} → field_at (ranged_field key range) text at ≡ got z next → lies_in range z ≡ true
line_in_range key range text at {z} e =
    let read = field_read (ranged_field key range) text at e in
    let inside = number_between range.low range.high z read.bytes read.reads in
    rw inside.0 inside.1

-- what holds of the first value and the rest, wherever the first line was read, holds of the values of all lines
by_first :
    (P : List ℤ → Type 0) (field : Field ℤ) (fields : List (Field ℤ)) (text : List ℕ) (at next : ℕ) →
    ((z : ℤ) (mid : ℕ) → field_at field text at ≡ got z mid → (read_fields fields text mid).end ≡ Ok next → P (z ∷ (read_fields fields text mid).values)) →
    (read_fields (field ∷ fields) text at).end ≡ Ok next → P (read_fields (field ∷ fields) text at).values
by_first P field fields text at next holds e =
    rw (reading_first field fields text at) (go (field_at field text at) refl (rw (reading_first field fields text at) at e))
  where
    go : (answer : LineAnswer ℤ) → field_at field text at ≡ answer → (and_then answer (λ mid. read_fields fields text mid)).end ≡ Ok next → P (and_then answer (λ mid. read_fields fields text mid)).values
    go (got z mid) h e = holds z mid h e
    go (refused found) h e = let z : ◌≡◌ {A = ℕ} 0 1 = cc in absurd (omega arith)

pairs_in_range_lem : (n : ℕ) (text : List ℕ) (at next : ℕ) → (read_fields (repeated n pair_fields) text at).end ≡ Ok next → pairs_in_range (pairs_of n (read_fields (repeated n pair_fields) text at).values) ≡ true
pairs_in_range_lem zero text at next e = rw (no_pairs_of (read_fields (repeated zero pair_fields) text at).values) no_pairs_in_range
pairs_in_range_lem (suc n) text at next e =
    let mu = ranged_field (bytes "mu=") mean_range in
    let sigma = ranged_field (bytes "sigma=") spread_range in
    let rest = repeated n pair_fields in
    let again = pairs_in_range_lem n text in
    let Held : List ℤ → Type 0 = λ (values : List ℤ). pairs_in_range (pairs_of (suc n) values) ≡ true in
    rw (repeated_more pair_fields n)
    (by_first Held mu (sigma ∷ rest) text at next
    (λ mean mid h. by_first (λ (values : List ℤ). Held (mean ∷ values)) sigma rest text mid next
    (λ spread last k f.
    rw (more_pairs_of n mean spread (read_fields rest text last).values)
    (more_pairs_in_range (record { mean = mean; spread = spread }) (pairs_of n (read_fields rest text last).values)
    (rw (line_in_range (bytes "mu=") mean_range text at h) (line_in_range (bytes "sigma=") spread_range text mid k)) (again last next f))))
    (rw (repeated_more pair_fields n) at e))

pub lines_in_range : (text : List ℕ) (next : ℕ) → (curve_lines text).end ≡ Ok next → curves_in_range (curves_of (curve_lines text).values) ≡ true
unfolding curve_fields
lines_in_range text next =
    let rest = repeated 24 pair_fields in
    let Held : List ℤ → Type 0 = λ (values : List ℤ). curves_in_range (curves_of values) ≡ true in
    by_first Held voll_field (floor_field ∷ rest) text 0 next
    (λ voll mid h. by_first (λ (values : List ℤ). Held (voll ∷ values)) floor_field rest text mid next
    (λ floor last k f.
    rw (set_of_lines voll floor (read_fields rest text last).values)
    (set_in_range voll floor (pairs_of 24 (read_fields rest text last).values) (line_in_range (bytes "voll=") voll_range text 0 h) (line_in_range (bytes "floor=") floor_range text mid k) (pairs_in_range_lem 24 text last next f))))
