-- A text that fits its buffer is printed whole.
use Prim.Native.Nat.{ℕ, ◌+◌, ◌≤◌}
use mathlib.Core.Path.{◌≡◌, refl, sym, ap, ◌∙◌}
use mathlib.Core.Bool.{true}
use mathlib.Core.List.{List, [], ◌∷◌}
use native.Mathlib.Nat.{zero-add}
use native.Mathlib.Omega.{arith}
use borrow.Author.Tests.{le-leb}
use lib.IntN.{ℤ}
use lib.ListN.{length, drop, length-append}
use lib.Seq.{take_at}
use Rattle.std.specs.Prelude.{Option, Some, None, Result, Ok, Err, unwrap_or}
use Rattle.std.specs.Result.{result_unwrap_or}
use Rattle.text_refusal.specs.declared.refusal.Refusal.{Refusal}
use Rattle.curve_set.specs.declared.CurveSet.{CurveSet}
use Rattle.text_writer.specs.Write.{TextWritten}
use Rattle.curve_set.specs.Curves.{curves_in_range}
use Rattle.curve_text.specs.CurveText.{curve_text, CurvesWritten}
use Rattle.curve_text.proofs.CurveCases.{text_written, text_laid}
use Rattle.curve.proofs.Lengths.{curve_text_lengths_are_bounded}
use Rattle.curve_settling.specs.Settle.{settled}
use Rattle.curve_record.specs.declared.Record.{Record}
use Rattle.curve.proofs.Promises.{settled_curves_are_in_range, settled-length}
use Rattle.program_curves.specs.Program.{last_hour, settled_text}
use Rattle.program_curves.specs.Stream.{Printed}
use Rattle.program_curves.specs.Promises.{PrintedTextStandsWhole}

module _ (text before after : List ℕ) (w : Option ℕ) (short : length text ≤ length before) (is : TextWritten text before 0 after w) where
  ended : w ≡ Some (length text)
  ended = is.ends ∙ rw (zero-add (length text), le-leb (length text) (length before) short)

  pub text_printed : (next : ℕ) → w ≡ Some next → Printed text before after next
  text_printed next e =
      record { count = written_next (sym e ∙ ended); bytes = is.bytes ∙ rw (zero-add (length text), le-leb (length text) (length before) short) }
    where
      written_next : ◌≡◌ {A = Option ℕ} (Some next) (Some (length text)) → next ≡ length text
      written_next q = cc

  pub never_short : w ≡ None → ⊥
  never_short e = let z : ◌≡◌ {A = Option ℕ} None (Some (length text)) = sym e ∙ ended in cc

  -- what is written, or nothing, which is never so
  pub printed_or : {printed : ℕ} → printed ≡ unwrap_or w 0 → Printed text before after printed
  printed_or e = rw (e, ended) (text_printed (length text) ended)

pub printed_text_stands_whole : PrintedTextStandsWhole
printed_text_stands_whole text before after count is same =
    let long : length after ≡ length text + length (drop (length text) before) = ap length is.bytes ∙ length-append text (drop (length text) before) in
    (omega arith, rw (is.count, is.bytes) (take_at text (drop (length text) before) (length text) refl))

-- ---- the curve text

module _ (history : Record) (voll floor : ℤ) (curves : CurveSet) (accepted : settled history voll floor ≡ Ok curves)
    (before after : List ℕ) (room : length before ≡ 768) (w : Result ℕ Refusal) (is : CurvesWritten curves before after w) where
  in_range : curves_in_range curves ≡ true
  in_range = settled_curves_are_in_range history voll floor curves accepted

  fits : length (curve_text curves) ≤ length before
  fits = omega (arith, (curve_text_lengths_are_bounded.0 curves (settled-length history voll floor curves accepted) in_range).1)

  curves_ended : w ≡ Ok (length (curve_text curves))
  curves_ended = is.ends ∙ text_written curves before in_range fits

  pub curves_printed : (next : ℕ) → w ≡ Ok next → Printed (settled_text voll floor history) before after next
  curves_printed next e =
      rw accepted
      (record { count = same (sym e ∙ curves_ended); bytes = is.bytes ∙ text_laid curves before in_range fits ∙ rw (zero-add (length (curve_text curves))) })
    where
      same : {m n : ℕ} → ◌≡◌ {A = Result ℕ Refusal} (Ok m) (Ok n) → m ≡ n
      same {m} {n} q = cc

  pub never_refused : (found : Refusal) → w ≡ Err found → ⊥
  never_refused found e = let z : ◌≡◌ {A = Result ℕ Refusal} (Err found) (Ok (length (curve_text curves))) = sym e ∙ curves_ended in cc

  pub curves_printed_or : {printed : ℕ} → printed ≡ result_unwrap_or w 0 → Printed (settled_text voll floor history) before after printed
  curves_printed_or e = rw (e, curves_ended) (curves_printed (length (curve_text curves)) curves_ended)

-- ---- the last hour

pub no_hour : (hour : List ℕ) → length hour ≡ 0 → last_hour hour ≡ []
no_hour [] none = refl
no_hour (byte ∷ hour) none = absurd (omega arith)

pub one_hour : (hour : List ℕ) → (length hour ≡ 0 → ⊥) → last_hour hour ≡ hour ∷ []
one_hour [] some = absurd (some refl)
one_hour (byte ∷ hour) some = refl
