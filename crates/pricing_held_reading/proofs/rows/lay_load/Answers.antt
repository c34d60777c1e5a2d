-- The kind and the four numbers stand where the row says, zeros elsewhere.
use Rattle.std.proofs.Common.{◌∙◌, pos, arith}
use mir.Facts.{to_z_pos}
use mir.Syntax.{w64}
use mir.Val.{to_z}
use Rattle.text_number.specs.Marked.{numbers_of, marks_of}
use Rattle.pricing_held_reading.proofs.Numbers.{numbers_counted, marks_fit}
use Rattle.pricing_held_reading.proofs.RowsRead.{load_laid}
use Rattle.pricing_held_reading.proofs.rows.lay_load.Goals as goal

pub overflow_cast-row-2 : goal.overflow_cast-row-2
overflow_cast-row-2 c =
    let n = c.requires.3 in
    let said = c.lay_numbers-four.ensures n.0 n.1.0 n.1.1 in
    let small = marks_fit c.args.text.now c.args.at c.args.sizes.now n.0 n.1.0 n.1.1 (omega (arith, c.requires.1)) in
    rw said.0 (record { sfits = omega (arith, small) })

pub returns : goal.returns
returns c =
    λ values next stand.
    let said = c.lay_numbers-four.ensures values next stand in
    let fits = marks_fit c.args.text.now c.args.at c.args.sizes.now values next stand (omega (arith, c.requires.1)) in (
      rw said.0,
      rw said.1
          (load_laid c.args.row.now (numbers_of values) c.requires.2 (to_z w64 c.args.kind) (pos 0) (to_z w64 c.lay_numbers-four.result.value) (numbers_counted c.args.text.now c.args.at c.args.sizes.now values next stand ∙ c.requires.1)
          ∙ rw (said.0, to_z_pos w64 {n = c.args.kind} (omega (arith, c.requires.0)), to_z_pos w64 {n = marks_of values} (omega (arith, fits)))),
    )
