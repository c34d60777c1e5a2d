-- The length is laid where the writing is accepted, and the buffer is as the writing leaves it.
use Rattle.std.proofs.Common.{refl, sym, ◌∙◌}
use Rattle.curve_set.specs.CurveValues.{curves_of}
use Rattle.curve_text.specs.CurveText.{CurvesWritten}
use Rattle.ordc.proofs.Answered.{accepted_laid, refused_left}
use Rattle.ordc.proofs.Numbered.{refusals_are_numbered}
use Rattle.ordc.proofs.write_curves.ordc_write_curves.Goals as goal

pub returns-in-Ok : goal.returns-in-Ok
returns-in-Ok c =
    let written : CurvesWritten (curves_of c.args.curves.now) c.args.buffer.now c.write_curves.new.buffer c.write_curves.result = rw c.curves_of.ensures at c.write_curves.ensures in
    record { count = rw (sym written.ends ∙ c.in-Ok.is) (accepted_laid refl); bytes = written.bytes }

pub returns-in-Err : goal.returns-in-Err
returns-in-Err c =
    let written : CurvesWritten (curves_of c.args.curves.now) c.args.buffer.now c.write_curves.new.buffer c.write_curves.result = rw c.curves_of.ensures at c.write_curves.ensures in
    let e = sym written.ends ∙ c.in-Err.is in
    record { count = rw e (refused_left (rw e at (refusals_are_numbered.writing (curves_of c.args.curves.now) c.args.buffer.now)) c.refused.ensures); bytes = written.bytes }
