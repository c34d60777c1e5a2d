-- The header decides, or the rows do, or the first line that a mark turns back.
use Rattle.std.proofs.Common.{rules, arith}
use Rattle.pricing_held.proofs.Counts.{held_ids}
use Rattle.pricing_held.proofs.Held.{header_decides, few_rows, rows_decide, mark_decides, none_decides}
use Rattle.pricing_held.proofs.held_check.Goals as goal

pub header_held-requires : goal.header_held-requires
header_held-requires c = omega (arith, held_ids c.args.ids.now c.args.numbers.now, c.held_number_rows-rows.ensures.count)

pub returns-then-line-ne0 : goal.returns-then-line-ne0
returns-then-line-ne0 c = header_decides c.args.header.now c.args.ids.now c.args.numbers.now c.held_number_rows-rows.ensures.count c.header_held.ensures c.header_fault-line.ensures c.if-line-ne0.true

pub rows_checked-requires : goal.rows_checked-requires
rows_checked-requires c =
    let few = few_rows c.args.header.now c.args.ids.now c.args.numbers.now c.held_number_rows-rows.ensures.count c.header_held.ensures c.header_fault-line.ensures c.if-line-ne0.false in
    (omega (arith, few), omega (arith, held_ids c.args.ids.now c.args.numbers.now, c.held_number_rows-rows.ensures.count))

pub returns-in_err-rows_checked : goal.returns-in_err-rows_checked
returns-in_err-rows_checked c =
    let refused = rows_decide c.args.header.now c.args.ids.now c.args.numbers.now c.held_number_rows-rows.ensures.count c.header_held.ensures c.header_fault-line.ensures c.if-line-ne0.false c.held_number_rows-rows.ensures.rows c.rows_checked.ensures c.in_err-rows_checked.was in
    search rules

pub suspect_line-suspect-requires : goal.suspect_line-suspect-requires
suspect_line-suspect-requires c = few_rows c.args.header.now c.args.ids.now c.args.numbers.now c.held_number_rows-rows.ensures.count c.header_held.ensures c.header_fault-line.ensures c.if-line-ne0.false

pub returns-then-suspect-ne0 : goal.returns-then-suspect-ne0
returns-then-suspect-ne0 c =
    mark_decides c.args.header.now c.args.ids.now c.args.numbers.now c.held_number_rows-rows.ensures.count c.header_held.ensures c.header_fault-line.ensures c.if-line-ne0.false c.held_number_rows-rows.ensures.rows c.rows_checked.ensures c.in_ok-rows_checked.was c.suspect_line-suspect.ensures c.if-suspect-ne0.true

pub returns : goal.returns
returns c =
    none_decides c.args.header.now c.args.ids.now c.args.numbers.now c.held_number_rows-rows.ensures.count c.header_held.ensures c.header_fault-line.ensures c.if-line-ne0.false c.held_number_rows-rows.ensures.rows c.rows_checked.ensures c.in_ok-rows_checked.was c.suspect_line-suspect.ensures c.if-suspect-ne0.false
