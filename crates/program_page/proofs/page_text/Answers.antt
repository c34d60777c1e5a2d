-- Each way to the end prints what the definition says.
use Rattle.std.proofs.Common.{sym, ◌∙◌}
use Rattle.curve.proofs.CurveRoundTrip.{read_curves_are_in_range}
use Rattle.program_page.proofs.Printing.{curves_refused, curves_printed}
use Rattle.program_page.proofs.page_text.Goals as goal

pub print_page-requires : goal.print_page-requires
print_page-requires c = read_curves_are_in_range c.args.input.now _ (sym c.read_curves.ensures ∙ c.in-Ok.is)

pub returns-in-Ok : goal.returns-in-Ok
returns-in-Ok c = rw (← curves_printed c.args.input.now (sym c.read_curves.ensures ∙ c.in-Ok.is)) c.print_page.ensures

pub returns-in-Err : goal.returns-in-Err
returns-in-Err c = rw (← curves_refused c.args.input.now (sym c.read_curves.ensures ∙ c.in-Err.is)) c.write_refusal.ensures
