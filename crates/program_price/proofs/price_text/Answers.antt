-- Each way to the end prints what the definition says.
use Rattle.std.proofs.Common.{arith, ap, sym, ◌∙◌}
use Rattle.std.proofs.lemmas.List.{length-take-le}
use Rattle.pricing.specs.Pricing.{priced}
use Rattle.program_price.proofs.EmptyLine.{empty_line_within}
use Rattle.program_price.proofs.Printing.{too_long, curves_refused, snapshot_refused, snapshot_priced}
use Rattle.program_price.proofs.price_text.Goals as goal

pub returns-then-input-gt-MOST_BYTES : goal.returns-then-input-gt-MOST_BYTES
returns-then-input-gt-MOST_BYTES c = rw (← too_long _ c.if-input-gt-MOST_BYTES.true) c.write_refusal.ensures

pub slice_bounds-read_curves-end : goal.slice_bounds-read_curves-end
slice_bounds-read_curves-end c = omega (arith, length-take-le c.empty_line-end.result c.args.input.now (omega (arith, empty_line_within)))

pub overflow_add-end : goal.overflow_add-end
overflow_add-end c = omega (arith, empty_line_within)

pub returns-in-Err : goal.returns-in-Err
returns-in-Err c =
    rw (← curves_refused _ _ c.if-input-gt-MOST_BYTES.false c.empty_line-end.ensures (sym c.read_curves.ensures ∙ c.in-Err.is)) c.write_refusal-in-Err.ensures

pub returns-in-Err-price : goal.returns-in-Err-price
returns-in-Err-price c =
    let prices = sym (c.price.ensures ∙ ap (priced _) c.part.ensures) ∙ c.in-Err-price.is in
    rw (← snapshot_refused _ _ c.if-input-gt-MOST_BYTES.false c.empty_line-end.ensures (sym c.read_curves.ensures ∙ c.in-Ok.is) prices) c.write_refusal-in-Err-price.ensures

pub returns-in-Ok-price : goal.returns-in-Ok-price
returns-in-Ok-price c =
    let prices = sym (c.price.ensures ∙ ap (priced _) c.part.ensures) ∙ c.in-Ok-price.is in
    rw (← snapshot_priced _ _ c.if-input-gt-MOST_BYTES.false c.empty_line-end.ensures (sym c.read_curves.ensures ∙ c.in-Ok.is) prices) c.print_prices.ensures
