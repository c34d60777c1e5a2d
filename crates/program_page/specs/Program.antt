-- Document 02, W-201: `page` reads a curve text (2 above 4096 bytes) and prints its page, or the three lines of a refusal as `price` does, and nothing else.
use Rattle.std.specs.Prelude.{ℕ, List, Result, Ok, Err}
use Rattle.text_refusal.specs.Bytes.{bytes}
use Rattle.text_refusal.specs.declared.refusal.Refusal.{Refusal}
use Rattle.text_writer.specs.Output.{refusal_lines}
use Rattle.curve_set.specs.declared.CurveSet.{CurveSet}
use Rattle.curve_text.specs.CurveText.{read_curves}
use Rattle.curve_page.specs.Page.{page_of}

abbrev pub printed_page : Result CurveSet Refusal → List ℕ
printed_page (Ok curves) = page_of curves
printed_page (Err found) = refusal_lines found (bytes "curves")

-- the whole input is the curve text
unfoldable pub page_output : List ℕ → List ℕ
page_output input = printed_page (read_curves input)
