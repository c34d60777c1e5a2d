use Rattle.std.proofs.Common.{sym, ◌∙◌, arith}
use Rattle.std.proofs.lemmas.List.{length-take-le}
use Rattle.pricing_held.proofs.Counts.{held_within}
use Rattle.pricing_held.proofs.held_number_rows.Goals as goal

pub slice_bounds-result-end : goal.slice_bounds-result-end
slice_bounds-result-end c =
    sym (length-take-le _ c.as_chunks.result.0.now (omega (arith, c.as_chunks.ensures.front_len, held_within c.args.ids.now c.args.numbers.now, c.held_count.ensures)))

pub returns-clause-count : goal.returns-clause-count
returns-clause-count c =
    length-take-le _ c.as_chunks.result.0.now (omega (arith, c.as_chunks.ensures.front_len, held_within c.args.ids.now c.args.numbers.now, c.held_count.ensures)) ∙ c.held_count.ensures
