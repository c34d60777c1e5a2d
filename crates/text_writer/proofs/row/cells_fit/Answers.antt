use Rattle.std.proofs.Common.{arith, ◌≡◌, sym, ap, length}
use Rattle.std.specs.Iterator.Adapters.{zip_first, zip_second}
use Rattle.std.specs.Slice.Iter.{iter_rest}
use Rattle.std.proofs.lemmas.List.{length-append}
use Rattle.std.proofs.lemmas.Slice.Zip.{either_empty_from_Zip}
use borrow.Author.Tests.{le-ltb}
use Rattle.text_writer.specs.Row.{number_cell, written_cells}
use Rattle.text_writer.proofs.Rows.{cells_none, cells_over, cells_within, cells_next, cell_length, room_left}
use Rattle.text_writer.proofs.row.cells_fit.Goals as goal

pub loop-width-init : goal.loop-width-init
loop-width-init c =
    let columns : iter_rest (zip_first c.into_iter-width-iterator.result) ≡ c.args.widths.now = cc in
    let numbers : iter_rest (zip_second c.into_iter-width-iterator.result) ≡ c.args.values.now = cc in
    (cells_none columns numbers, omega arith)

pub returns-then-room-width : goal.returns-then-room-width
returns-then-room-width c =
    let l = c.loop-width in
    let next = cells_next l.invariant.0 c.in-Some.ensures.steps.0 c.in-Some.ensures.steps.1 in
    let cell = number_cell c.in-Some.width.now c.in-Some.field-0-1.now in
    sym (le-ltb (length (written_cells c.args.widths.now c.args.values.now)) c.args.room (omega (arith, l.invariant.1, c.if-room-width.true, ap length next.1, length-append l.invariant.0.done cell, cell_length c.in-Some.width.now c.in-Some.field-0-1.now, cells_within next.0)))

pub loop-width-preserved : goal.loop-width-preserved
loop-width-preserved c =
    let l = c.loop-width in
    let next = cells_next l.invariant.0 c.in-Some.ensures.steps.0 c.in-Some.ensures.steps.1 in
    let cell = number_cell c.in-Some.width.now c.in-Some.field-0-1.now in
    (next.0, omega (arith, l.invariant.1, c.if-room-width.false, ap length next.1, length-append l.invariant.0.done cell, cell_length c.in-Some.width.now c.in-Some.field-0-1.now))

pub returns : goal.returns
returns c =
    let l = c.loop-width in
    rw (cells_over l.invariant.0 (either_empty_from_Zip l.width-iterator c.next.new.self c.next.result c.in-None.is c.next.ensures.steps)) (room_left l.room (length l.invariant.0.done) c.args.room l.invariant.1)
