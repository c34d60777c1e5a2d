use Rattle.std.proofs.Common.{◌*◌, [], sym, ap, List, ℕ, length, get_or, arith}
use Rattle.std.proofs.lemmas.List.{length-append}
use Rattle.text_id_table.specs.Ids.{id_at}
use Rattle.text_writer.proofs.Laid.{laid_none, laid_both}
use Rattle.pricing_held.specs.internal.Checks.{row_in}
use Rattle.pricing_held_text.specs.internal.RowText.{row_text}
use Rattle.pricing_held_text.proofs.Room.{laid_as}
use Rattle.pricing_held_text.proofs.RowTexts.{rows_start, rows_next, rows_over, rows_within}
use Rattle.pricing_held_text.proofs.rows.put_rows.Goals as goal

pub loop-i-init : goal.loop-i-init
loop-i-init c = (rows_start c.args.ids.now c.args.rows.now, record { ends = omega arith; bytes = sym (laid_none c.args.buffer.now c.args.at) })

pub put_row-next-requires : goal.put_row-next-requires
put_row-next-requires c =
    let values = get_or c.args.rows.now c.loop-i.i [] in
    let next = rows_next c.loop-i.invariant.0 c.loop-i-test.true in
    let row = ap (λ (id : List ℕ). length (row_text (row_in id values))) c.id_at.ensures in
    omega (
      arith,
      row,
      rows_within next.0,
      ap length next.1,
      length-append c.loop-i.invariant.0.done (row_text (row_in (id_at 0 c.args.ids.now (32 * c.loop-i.i)) values)),
      c.loop-i.invariant.1.ends,
      c.loop-i.auto.buffer,
    )

pub loop-i-preserved : goal.loop-i-preserved
loop-i-preserved c =
    let values = get_or c.args.rows.now c.loop-i.i [] in
    let next = rows_next c.loop-i.invariant.0 c.loop-i-test.true in
    let row = ap (λ (id : List ℕ). row_text (row_in id values)) c.id_at.ensures in
    (next.0, rw next.1 (laid_both c.loop-i.invariant.1 (laid_as row c.put_row-next.ensures) (omega (arith, rows_within c.loop-i.invariant.0))))

pub returns : goal.returns
returns c = rw (rows_over c.loop-i.invariant.0 c.loop-i-test.false) c.loop-i.invariant.1.bytes
