use Rattle.std.proofs.Common.{◌∙◌, lit<}
use Rattle.curve_hour.proofs.Values.{term, power, ◌⊕◌, ◌⊖◌}
use Rattle.curve_hour.proofs.reserve.HourValues.error.Goals as goal

pub returns : goal.returns
returns c =
    let sum = term {z = c.ahead.result} c.ahead.ensures.small ⊖ term {z = c.args.mean} c.requires ⊕ power c.self.invariant.shed in
    sum.is (lit< tt) ∙ rw (c.ahead.ensures.reserve, ← c.self.view_is)
