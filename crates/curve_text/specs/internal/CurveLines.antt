-- Internal to `curve_lines`: the values of the lines of a curve text, or what was refused of the lines or of the text's end. No public result is stated by it.
use Rattle.std.specs.Prelude.{ℕ, List, ℤ, Result, Ok, Err}
use Rattle.text_refusal.specs.declared.refusal.Fault.{Fault}
use Rattle.curve_text.specs.CurveText.{curve_lines, end_of_lines}

abbrev pub values_at_end : List ℤ → Result ℕ Fault → Result (List ℤ) Fault
values_at_end values (Ok stop) = Ok values
values_at_end values (Err found) = Err found

abbrev pub line_values : List ℕ → Result (List ℤ) Fault
line_values text = values_at_end (curve_lines text).values (end_of_lines text (curve_lines text).end)
