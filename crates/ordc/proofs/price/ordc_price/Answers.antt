-- The calls chain to the pricing; the answer is laid where it is accepted.
use Rattle.std.proofs.Common.{◌≡◌, sym, ◌∙◌}
use Rattle.curve_set.specs.CurveValues.{curves_of}
use Rattle.pricing.specs.Pricing.{priced}
use Rattle.ordc.proofs.Answered.{accepted_laid, refused_left}
use Rattle.ordc.proofs.Numbered.{refusals_are_numbered}
use Rattle.ordc.proofs.price.ordc_price.Goals as goal

pub returns-in-Ok : goal.returns-in-Ok
returns-in-Ok c =
    let is : c.price.result ≡ priced (curves_of c.args.curves.now) c.args.text.now = rw c.curves_of.ensures at c.price.ensures in
    rw (sym is ∙ c.in-Ok.is) (accepted_laid c.price_values.ensures)

pub returns-in-Err : goal.returns-in-Err
returns-in-Err c =
    let is : c.price.result ≡ priced (curves_of c.args.curves.now) c.args.text.now = rw c.curves_of.ensures at c.price.ensures in
    let e = sym is ∙ c.in-Err.is in
    rw e (refused_left (rw e at (refusals_are_numbered.pricing (curves_of c.args.curves.now) c.args.text.now)) c.refused.ensures)
