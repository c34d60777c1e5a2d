use Rattle.std.proofs.Common.{◌*◌, ◌∙◌, [], ap, List, ℕ, length, get_or, arith}
use Rattle.std.proofs.lemmas.List.{length-append}
use Rattle.text_id_table.specs.Ids.{id_at}
use Rattle.text_id_table.proofs.Ids.{id_few}
use Rattle.pricing_held.specs.internal.Checks.{row_in}
use Rattle.pricing_held_text.specs.internal.RowText.{row_text}
use Rattle.pricing_held_text.proofs.RowTexts.{rows_start, rows_next, rows_over}
use Rattle.pricing_held_text.proofs.rows.rows_length.Goals as goal

pub loop-i-init : goal.loop-i-init
loop-i-init c = (rows_start c.args.ids.now c.args.rows.now, omega arith, omega arith)

pub row_length-total-requires : goal.row_length-total-requires
row_length-total-requires c = rw c.id_at.ensures (id_few 0 c.args.ids.now (32 * c.loop-i.i))

pub overflow_add-total : goal.overflow_add-total
overflow_add-total c = omega (arith, c.row_length-total.ensures.1)

pub loop-i-preserved : goal.loop-i-preserved
loop-i-preserved c =
    let i = c.loop-i.i in
    let values = get_or c.args.rows.now i [] in
    let next = rows_next c.loop-i.invariant.0 c.loop-i-test.true in
    let counted = c.row_length-total.ensures.0 ∙ ap (λ (id : List ℕ). length (row_text (row_in id values))) c.id_at.ensures in (
      next.0,
      omega (arith, counted, c.loop-i.invariant.1, ap length next.1, length-append c.loop-i.invariant.0.done (row_text (row_in (id_at 0 c.args.ids.now (32 * i)) values))),
      omega (arith, c.row_length-total.ensures.1),
    )

pub returns : goal.returns
returns c = (omega (arith, c.loop-i.invariant.1, ap length (rows_over c.loop-i.invariant.0 c.loop-i-test.false)), omega arith)
