use Rattle.std.proofs.Common.{arith, ◌<◌, length, sym, ◌∙◌}
use Rattle.text_writer.specs.Row.{written_cells}
use Rattle.text_writer.proofs.Laid.{laid_both, laid_end}
use Rattle.text_writer.proofs.Rows.{row_length}
use Rattle.text_writer.proofs.Writing.{text_stands}
use borrow.Author.Tests.{ltb-true}
use Rattle.text_writer.proofs.row.write_row.Goals as goal

pub returns : goal.returns
returns c =
    let a = c.args in
    let cells = written_cells a.widths.now a.values.now in
    let enough : length cells < c.in_ok-room.room = ltb-true (length cells) c.in_ok-room.room (sym c.cells_fit.ensures ∙ c.if-not-cells_fit.false) in
    text_stands
    (laid_both c.put_bytes-start.ensures (laid_end 10 c.put_cells-end.ensures (omega (arith, enough, c.put_bytes-start.ensures.ends))) (omega (arith, enough)))
    (omega (arith, enough, row_length a.name.now a.widths.now a.values.now))
