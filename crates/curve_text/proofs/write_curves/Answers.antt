use borrow.Author.Rules.{rules}
use Rattle.curve_text.proofs.CurveText.{curves_laid, set_refused, text_stands, text_short}
use Rattle.curve_text.proofs.write_curves.Goals as goal

pub returns-then-not-curves_in_range : goal.returns-then-not-curves_in_range
returns-then-not-curves_in_range c = set_refused c.args.curves c.args.buffer.now (search rules)

pub returns-in_default : goal.returns-in_default
returns-in_default c = text_short c.args.curves (curves_laid c.args.curves c.write_lines.ensures c.values_of-values.ensures) (search rules) (search rules)

pub returns : goal.returns
returns c = text_stands c.args.curves (curves_laid c.args.curves c.write_lines.ensures c.values_of-values.ensures) (search rules) c.in-Some.is
