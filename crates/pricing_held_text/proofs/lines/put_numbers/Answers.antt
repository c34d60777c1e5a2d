-- Lines of which no number is marked are lines of numbers alone.
use Rattle.std.proofs.Common.{◌≡◌, arith, sym, ap, length}
use Rattle.text_number.specs.Marked.{marked_by}
use Rattle.text_schema.specs.Schema.{keys_of}
use Rattle.text_writer.specs.Write.{written_numbers, written_marked_lines}
use Rattle.text_writer.proofs.MarkedLines.{lines_unmarked}
use Rattle.pricing_held_text.proofs.Room.{laid_of, laid_as}
use Rattle.pricing_held_text.proofs.lines.put_numbers.Goals as goal

pub returns-then-marks-eq0 : goal.returns-then-marks-eq0
returns-then-marks-eq0 c =
    let keys = keys_of c.args.keys.now in
    let values = c.args.values.now in
    let same : written_marked_lines keys (marked_by c.args.marks values) ≡ written_numbers keys values = rw c.if-marks-eq0.true (lines_unmarked keys values) in
    laid_as (sym same) (laid_of c.write_lines.ensures c.unwrap_or.ensures (omega (arith, ap length same, c.requires)))
