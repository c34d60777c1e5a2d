use mathlib.Core.Path.{sym, ap, ◌∙◌}
use borrow.Author.Rules.{rules}
use Rattle.std.specs.Prelude.{Ok}
use Rattle.curve_text.proofs.Lengths.{curves_length_refused, curves_length_told}
use Rattle.curve_text.proofs.length.curves_length.Goals as goal

pub returns-then-not-curves_in_range : goal.returns-then-not-curves_in_range
returns-then-not-curves_in_range c = sym (curves_length_refused c.args.curves (search rules))

pub returns : goal.returns
returns c = ap Ok c.text_length-length.ensures ∙ sym (curves_length_told c.args.curves (search rules))
