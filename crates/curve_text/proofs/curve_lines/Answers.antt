use mathlib.Core.Path.{refl, sym, ◌∙◌}
use borrow.Author.Rules.{rules}
use Rattle.curve_text.proofs.CurveText.{CurveLinesRead, curve_lines_read, line_refused, end_refused, lines_read}
use Rattle.curve_text.proofs.curve_lines.Goals as goal
use Rattle.curve_text.proofs.curve_lines.Goals.{After-read_lines}

read : (c : After-read_lines) → CurveLinesRead c.args.text.now c.read_lines.new.out c.read_lines.result
read c = curve_lines_read c.read_lines.ensures c.bounds-lows.ensures c.bounds-highs.ensures refl

pub returns-in_err-next : goal.returns-in_err-next
returns-in_err-next c = let t = line_refused (read (goal.at.returns-in_err-next c).After-read_lines) c.in_err-next.was in search rules

pub returns-in_err-end_at : goal.returns-in_err-end_at
returns-in_err-end_at c = let t = end_refused (read (goal.at.returns-in_err-end_at c).After-read_lines) c.in_ok-next.was (sym c.end_at.ensures ∙ c.in_err-end_at.was) in search rules

pub returns : goal.returns
returns c = lines_read (read (goal.at.returns c).After-read_lines) c.in_ok-next.was (sym c.end_at.ensures ∙ c.in_ok-end_at.was)
