-- The length is laid where there is one.
use Rattle.std.proofs.Common.{◌≡◌, refl, sym, ◌∙◌}
use Rattle.curve_set.specs.CurveValues.{curves_of}
use Rattle.curve_text.specs.Length.{curves_length}
use Rattle.ordc.proofs.Answered.{accepted_laid, refused_left}
use Rattle.ordc.proofs.Numbered.{refusals_are_numbered}
use Rattle.ordc.proofs.curves_length.ordc_curves_length.Goals as goal

pub returns-in-Ok : goal.returns-in-Ok
returns-in-Ok c =
    let is : c.curves_length.result ≡ curves_length (curves_of c.args.curves.now) = rw c.curves_of.ensures at c.curves_length.ensures in
    rw (sym is ∙ c.in-Ok.is) (accepted_laid refl)

pub returns-in-Err : goal.returns-in-Err
returns-in-Err c =
    let is : c.curves_length.result ≡ curves_length (curves_of c.args.curves.now) = rw c.curves_of.ensures at c.curves_length.ensures in
    let e = sym is ∙ c.in-Err.is in
    rw e (refused_left (rw e at (refusals_are_numbered.measuring_curves (curves_of c.args.curves.now))) c.refused.ensures)
