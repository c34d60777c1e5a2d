-- What is printed has at most 1728 bytes: a page has just as many, and the number and line of a refusal are small.
use Prim.Native.Nat.{◌≤◌}
use native.Mathlib.Omega.{arith}
use mathlib.Core.Bool.{Bool, true, false}
use mathlib.Core.Path.{◌≡◌, refl}
use borrow.Author.Tests.{leb-true, leb-false}
use lib.Dec.{leb}
use lib.ListN.{length}
use Rattle.text_refusal.specs.Bytes.{bytes}
use Rattle.std.specs.Prelude.{Result, Ok, Err}
use Rattle.text_refusal.specs.Answer.{answer_of}
use Rattle.curve_set.specs.declared.CurveSet.{CurveSet}
use Rattle.text_refusal.specs.declared.refusal.Refusal.{Refusal}
use Rattle.text_writer.specs.Output.{refusal_lines}
use Rattle.text_writer.proofs.Refused.{refusal_short}
use Rattle.curve_text.specs.CurveText.{read_curves}
use Rattle.curve_text.proofs.CurveCases.{text_too_long}
use Rattle.curve.proofs.CurveRoundTrip.{read_length}
use Rattle.curve.proofs.Numbered.{AnswerListed, curves_listed}
use Rattle.curve.proofs.Pages.{page_has_its_rows}
use Rattle.program_page.specs.Program.{printed_page, page_output}
use Rattle.program_page.specs.Promises.{PageOutputIsShort}

pub page_output_is_short : PageOutputIsShort
unfolding page_output
page_output_is_short input = by_length (leb (length input) 4096) refl
  where
    refused : (found : Refusal) → found.number ≤ 15 → found.line ≤ 4097 → length (refusal_lines found (bytes "curves")) ≤ 1728
    refused found number line = omega (arith, refusal_short found (bytes "curves") (omega arith) (omega arith) (omega arith))

    by_answer : length input ≤ 4096 → (given : Result CurveSet Refusal) → read_curves input ≡ given → AnswerListed input (answer_of given) → length (printed_page given) ≤ 1728
    by_answer short (Ok curves) is listed = omega (arith, (page_has_its_rows curves (read_length input curves is)).0)
    by_answer short (Err found) is listed = refused found listed.most (omega (arith, listed.line))

    by_length : (short : Bool) → leb (length input) 4096 ≡ short → length (printed_page (read_curves input)) ≤ 1728
    by_length true e = by_answer (leb-true (length input) 4096 e) (read_curves input) refl (curves_listed input)
    by_length false e = rw (text_too_long input (leb-false (length input) 4096 e)) (refused (record { number = 2; line = 0 }) (omega arith) (omega arith))
