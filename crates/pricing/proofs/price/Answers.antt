use Rattle.std.proofs.Common.{rules, sym, ◌∙◌}
use Rattle.pricing.proofs.Pricing.{priced_refused, priced_turned, priced_sums}
use Rattle.pricing.proofs.price.Goals as goal

pub returns-then-not-curves_in_range : goal.returns-then-not-curves_in_range
returns-then-not-curves_in_range c = priced_refused c.args.curves c.args.text.now (sym c.curves_in_range.ensures ∙ c.if-not-curves_in_range.true)

pub returns-in_err-read : goal.returns-in_err-read
returns-in_err-read c =
    let turned = priced_turned c.args.curves c.args.text.now (sym c.curves_in_range.ensures ∙ c.if-not-curves_in_range.false) c.read_snapshot.ensures c.in_err-read.was in
    search rules

pub returns : goal.returns
returns c =
    c.price_sums.ensures
    ∙ priced_sums c.args.curves c.args.text.now (sym c.curves_in_range.ensures ∙ c.if-not-curves_in_range.false) c.read_snapshot.ensures c.in_ok-read.was
