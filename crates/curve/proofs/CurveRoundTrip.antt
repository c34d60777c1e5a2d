-- Every curve set in range has exactly one text: the round trips of the text storey, at the schema of a curve text. And a set that was read is in range.
use Prim.Native.Nat.{ℕ, ◌+◌, ◌≤◌}
use native.Mathlib.Nat.{sub-zero}
use native.Mathlib.Omega.{arith}
use mathlib.Core.List.{List, [], append-nil}
use mathlib.Core.Bool.{true}
use mathlib.Core.Path.{◌≡◌, ap, ◌∙◌}
use lib.IntN.{ℤ}
use lib.ListN.{length}
use lib.Seq.{take_all}
use Rattle.std.specs.Prelude.{Result, Ok}
use Rattle.text_refusal.specs.declared.refusal.Refusal.{Refusal}
use Rattle.curve_set.specs.declared.CurveSet.{CurveSet}
use Rattle.text_schema.specs.Schema.{Reading, write_fields}
use Rattle.text_schema.proofs.Readings.{reading_length}
use Rattle.text.proofs.RoundTrip.{written_is_read_back, read_is_written_back}
use Rattle.curve_set.specs.CurveValues.{curve_values, curves_of}
use Rattle.curve_set.specs.Curves.{curves_in_range}
use Rattle.curve_set.proofs.CurveValues.{set_of_values, values_of_set, pairs_of-length}
use Rattle.curve_text.specs.CurveText.{curve_fields, curve_lines, read_curves, curve_text}
use Rattle.curve_text.proofs.CurveText.{fifty_lines}
use Rattle.curve_text.proofs.CurveCases.{text_of_values, text_read}
use Rattle.curve_text.proofs.CurveInRange.{lines_in_range}
use Rattle.curve_text.proofs.CurveFields.{curves_sound, curves_fit}
use Rattle.curve_text.proofs.Lengths.{greatest_length}
use Rattle.curve.specs.FirstRefusal.{ReadingCurvesCase, curves_too_long, curve_line_refused, bytes_after_curves, curves_read}
use Rattle.curve.specs.Promises.{CurveTextIsReadBack, CurveTextIsWrittenBack, ReadCurvesAreInRange}
use Rattle.curve.proofs.FirstRefusal.{reading_curves_is_refused_first}

-- ---- write then read

pub curve_text_is_read_back : CurveTextIsReadBack
curve_text_is_read_back curves l e =
    let text : List ℕ = write_fields curve_fields (curve_values curves) in
    let same : curve_text curves ≡ text = text_of_values curves in
    let short : length text ≤ 700 = rw same at (greatest_length curves l e) in
    let back : curve_lines text ≡ record { values = curve_values curves; end = Ok (0 + length text) } = rw (append-nil text) at (written_is_read_back ℤ curve_fields (curve_values curves) [] [] curves_sound (curves_fit curves l e)) in
    rw same
    (text_read text (omega arith) (0 + length text) (ap (λ (reading : Reading ℤ). reading.end) back) (omega arith)
    ∙ rw (back, set_of_values curves l))

-- ---- read then write

written_back : (text : List ℕ) (next : ℕ) → (curve_lines text).end ≡ Ok next → length text ≤ next → curve_text (curves_of (curve_lines text).values) ≡ text
written_back text next e over =
    let values : List ℤ = (curve_lines text).values in
    rw (
      text_of_values (curves_of values),
      values_of_set values (reading_length curve_fields text 0 next e ∙ fifty_lines),
      ← (read_is_written_back ℤ curve_fields text 0 next curves_sound e),
      sub-zero,
    ) (take_all next text over)

pub curve_text_is_written_back : CurveTextIsWrittenBack
curve_text_is_written_back text curves e = go (reading_curves_is_refused_first text).applies e
  where
    go : {given : Result CurveSet Refusal} → ReadingCurvesCase text given → given ≡ Ok curves → curve_text curves ≡ text
    go (curves_too_long long) a = let z : ◌≡◌ {A = ℕ} 0 1 = cc in absurd (omega arith)
    go (curve_line_refused short found read) a = let z : ◌≡◌ {A = ℕ} 0 1 = cc in absurd (omega arith)
    go (bytes_after_curves short next read more) a = let z : ◌≡◌ {A = ℕ} 0 1 = cc in absurd (omega arith)
    go (curves_read short next read over) a =
        let same : curves_of (curve_lines text).values ≡ curves = cc in
        rw same at (written_back text next read over)

-- ---- what was read is in range

pub read_curves_are_in_range : ReadCurvesAreInRange
read_curves_are_in_range text curves e = go (reading_curves_is_refused_first text).applies e
  where
    go : {given : Result CurveSet Refusal} → ReadingCurvesCase text given → given ≡ Ok curves → curves_in_range curves ≡ true
    go (curves_too_long long) a = cc
    go (curve_line_refused short found read) a = cc
    go (bytes_after_curves short next read more) a = cc
    go (curves_read short next read over) a =
        let same : curves_of (curve_lines text).values ≡ curves = cc in
        rw same at (lines_in_range text next read)

-- it has twenty-four pairs
pub read_length : (text : List ℕ) (curves : CurveSet) → read_curves text ≡ Ok curves → length curves.pairs ≡ 24
read_length text curves e = go (reading_curves_is_refused_first text).applies e
  where
    go : {given : Result CurveSet Refusal} → ReadingCurvesCase text given → given ≡ Ok curves → length curves.pairs ≡ 24
    go (curves_too_long long) a = cc
    go (curve_line_refused short found read) a = cc
    go (bytes_after_curves short next read more) a = cc
    go (curves_read short next read over) a =
        let same : curves_of (curve_lines text).values ≡ curves = cc in
        rw same at (pairs_of-length (curve_lines text).values)
