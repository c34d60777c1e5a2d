use Rattle.std.proofs.Common.{arith, rules, ◌≡◌, ap, length, w64}
use mir.Facts.{to_z-of_z}
use mir.Val.{SFits}
use Rattle.std.specs.Iterator.Adapters.{zip_first, zip_second}
use Rattle.std.specs.Slice.Iter.{iter_rest}
use Rattle.std.proofs.lemmas.List.{length-append}
use Rattle.std.proofs.lemmas.Slice.Zip.{either_empty_from_Zip}
use Rattle.text_writer.specs.Row.{number_cell}
use Rattle.text_writer.proofs.Laid.{laid_start, laid_both}
use Rattle.text_writer.proofs.Rows.{cells_none, cells_over, cells_within, cells_next}
use Rattle.text_writer.proofs.row.put_cells.Goals as goal

pub loop-width-init : goal.loop-width-init
loop-width-init c =
    let columns : iter_rest (zip_first c.into_iter-width-iterator.result) ≡ c.args.widths.now = cc in
    let numbers : iter_rest (zip_second c.into_iter-width-iterator.result) ≡ c.args.values.now = cc in
    (cells_none columns numbers, laid_start _ _)

pub put_cell-at-requires : goal.put_cell-at-requires
put_cell-at-requires c =
    let l = c.loop-width in
    let next = cells_next l.invariant.0 c.in-Some.ensures.steps.0 c.in-Some.ensures.steps.1 in
    let fits : SFits w64 c.in-Some.z.now = search rules in
    rw (to_z-of_z fits) (omega (arith, l.invariant.1.ends, c.requires, ap length next.1, length-append l.invariant.0.done (number_cell c.in-Some.width.now c.in-Some.z.now), cells_within next.0))

pub loop-width-preserved : goal.loop-width-preserved
loop-width-preserved c =
    let l = c.loop-width in
    let next = cells_next l.invariant.0 c.in-Some.ensures.steps.0 c.in-Some.ensures.steps.1 in
    let fits : SFits w64 c.in-Some.z.now = search rules in
    let cell = rw (to_z-of_z fits) at c.put_cell-at.ensures in
    (next.0, rw next.1 (laid_both l.invariant.1 cell (omega (arith, c.requires, ap length next.1, length-append l.invariant.0.done (number_cell c.in-Some.width.now c.in-Some.z.now), cells_within next.0))))

pub returns : goal.returns
returns c =
    let l = c.loop-width in
    rw (cells_over l.invariant.0 (either_empty_from_Zip l.width-iterator c.next.new.self c.next.result c.in-None.is c.next.ensures.steps)) l.invariant.1
