-- A curve text has the length that was told, and the least and the greatest length over all sets in range.
use Prim.Native.Nat.{ℕ, ◌+◌, ◌≤◌, ◌<◌}
use native.Mathlib.Omega.{arith}
use mathlib.Core.Bool.{true}
use mathlib.Core.List.{List}
use mathlib.Core.Path.{◌≡◌, refl, ap, ◌∙◌}
use lib.IntN.{pos, neg_ℤ}
use lib.ListN.{length, drop}
use lib.Seq.{take_at, drop_at}
use Rattle.std.specs.Prelude.{Result, Ok}
use Rattle.text_refusal.specs.declared.refusal.Refusal.{Refusal}
use Rattle.text_number.specs.Number.{written_number}
use Rattle.text_number.proofs.WrittenDigits.{count_one, digits_within_lem, digits_beyond, written_natural, written_below}
use Rattle.curve_set.specs.Curves.{curves_in_range}
use Rattle.curve_set.proofs.InRange.{even_in_range}
use Rattle.curve_text.specs.CurveText.{curve_text}
use Rattle.curve_set.specs.declared.CurveSet.{CurveSet}
use Rattle.curve_text.specs.Length.{curves_length}
use Rattle.curve_text.proofs.CurveCases.{short_refused, short_stays, text_written, text_laid}
use Rattle.curve_text.proofs.Lengths.{curves_length_told, even_counted, least_length, greatest_length}
use Rattle.curve.specs.FirstRefusal as cases
use Rattle.curve.specs.Promises.{CurveTextHasTheToldLength, shortest_curves, longest_curves, CurveTextLengthsAreBounded}
use Rattle.curve.proofs.FirstRefusal.{curves_length_is_refused_first}

-- a length is told of sets in range alone, and it is the text's
record Told (curves : CurveSet) (told : ℕ) : Type 0 where
  inside : curves_in_range curves ≡ true
  exact : length (curve_text curves) ≡ told

told_of : (curves : CurveSet) (told : ℕ) → curves_length curves ≡ Ok told → Told curves told
told_of curves told e = go (curves_length_is_refused_first curves).applies e
  where
    go : {found : Result ℕ Refusal} → cases.CurvesLengthCase curves found → found ≡ Ok told → Told curves told
    go (cases.length_impossible out) e = let z : ◌≡◌ {A = ℕ} 0 1 = cc in absurd (omega arith)
    go (cases.length_known inside) e = record { inside = inside; exact = cc }

pub curve_text_has_the_told_length : CurveTextHasTheToldLength
curve_text_has_the_told_length curves told e buffer =
    let inside = (told_of curves told e).inside in
    let exact = (told_of curves told e).exact in
    let text : List ℕ = curve_text curves in
    let behind : 0 + length text ≡ told = omega arith in
    record {
      exact = exact;
      accepted = λ room.
          (let enough : length text ≤ length buffer = omega arith in
          let laid = text_laid curves buffer inside enough in (
            text_written curves buffer inside enough ∙ ap (λ (n : ℕ). Ok n) exact,
            rw laid (take_at text (drop (0 + length text) buffer) told exact),
            rw laid (drop_at text (drop (0 + length text) buffer) told exact ∙ ap (λ (n : ℕ). drop n buffer) behind),
          ));
      refused = λ less. (let short : length buffer < length text = omega arith in (short_refused curves buffer inside short, short_stays curves buffer inside short));
    }

-- ---- the bounds, and a set for each

-- of a length that was told
pub told_bounded : (curves : CurveSet) (told : ℕ) → length curves.pairs ≡ 24 → curves_length curves ≡ Ok told → (327 ≤ told) × (told ≤ 700)
told_bounded curves told l e =
    let t = told_of curves told e in
    (omega (arith, t.exact, least_length curves l t.inside), omega (arith, t.exact, greatest_length curves l t.inside))

one_byte : (n : ℕ) → n < 10 → length (written_number (pos n)) ≡ 1
one_byte n few = ap length (written_natural n) ∙ count_one n few

shortest : length (curve_text shortest_curves) ≡ 327
shortest = omega (arith, even_counted (pos 0) (pos 0) (pos 0) (pos 1), one_byte 0 (omega arith), one_byte 1 (omega arith))

longest : length (curve_text longest_curves) ≡ 700
longest =
    omega (
      arith,
      even_counted (pos 2000000) (pos 20000000) (neg_ℤ (pos 20000000)) (pos 20000000),
      ap length (written_natural 2000000),
      ap length (written_natural 20000000),
      ap length (written_below 19999999),
      digits_within_lem 6 2000000 (omega arith),
      digits_beyond 6 2000000 (omega arith),
      digits_within_lem 7 20000000 (omega arith),
      digits_beyond 7 20000000 (omega arith),
    )

pub curve_text_lengths_are_bounded : CurveTextLengthsAreBounded
curve_text_lengths_are_bounded = (
  (λ curves l e. (least_length curves l e, greatest_length curves l e)),
  curves_length_told shortest_curves (even_in_range (pos 0) (pos 0) (pos 0) (pos 1) refl refl refl) ∙ ap (λ (n : ℕ). Ok n) shortest,
  curves_length_told longest_curves (even_in_range (pos 2000000) (pos 20000000) (neg_ℤ (pos 20000000)) (pos 20000000) refl refl refl) ∙ ap (λ (n : ℕ). Ok n) longest,
)
