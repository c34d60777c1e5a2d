-- The answer of the writing is handed on; the buffer is as the writing leaves it.
use Rattle.std.proofs.Common.{refl, sym, ◌∙◌}
use Rattle.curve_set.specs.CurveValues.{curves_of}
use Rattle.curve_page.specs.Page.{PageWritten}
use Rattle.curve.proofs.FirstRefusal.{page_refused_leaves}
use Rattle.ordc.proofs.Answered.{accepted_laid, refused_left}
use Rattle.ordc.proofs.Numbered.{refusals_are_numbered}
use Rattle.ordc.proofs.write_page.ordc_write_page.Goals as goal

pub returns-in-Ok : goal.returns-in-Ok
returns-in-Ok c =
    let written : PageWritten (curves_of c.args.curves.now) c.args.buffer.now c.write_page.new.buffer c.write_page.result = rw c.curves_of.ensures at c.write_page.ensures in
    rw (sym written.ends ∙ c.in-Ok.is) (accepted_laid written.bytes)

pub returns-in-Err : goal.returns-in-Err
returns-in-Err c =
    let written : PageWritten (curves_of c.args.curves.now) c.args.buffer.now c.write_page.new.buffer c.write_page.result = rw c.curves_of.ensures at c.write_page.ensures in
    let e = sym written.ends ∙ c.in-Err.is in
    rw (written.bytes, page_refused_leaves (curves_of c.args.curves.now) c.args.buffer.now e, e)
    (refused_left (rw e at (refusals_are_numbered.page (curves_of c.args.curves.now) c.args.buffer.now)) c.refused.ensures)
