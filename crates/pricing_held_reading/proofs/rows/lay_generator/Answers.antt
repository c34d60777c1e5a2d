-- The kind, the status and the six numbers stand where the row says.
use Rattle.std.proofs.Common.{◌∙◌, ◌∷◌, [], sym, arith}
use Rattle.std.proofs.lemmas.List.{length-take, length-drop, length-set}
use mir.Facts.{to_z_pos}
use mir.Syntax.{w64}
use mir.Val.{to_z}
use Rattle.text_number.specs.Marked.{numbers_of, marks_of}
use Rattle.pricing_held_reading.specs.internal.Laying.{NumbersStand}
use Rattle.pricing_held_reading.proofs.Numbers.{numbers_counted, marks_fit}
use Rattle.pricing_held_reading.proofs.Readings.{got_same}
use Rattle.pricing_held_reading.proofs.RowsRead.{generator_stands, generator_laid}
use Rattle.pricing_held_reading.proofs.rows.lay_generator.Goals as goal

pub status_at-status-requires : goal.status_at-status-requires
status_at-status-requires c =
    let g = generator_stands c.args.text.now c.args.kind c.args.at c.requires.0 c.requires.1.is in
    (record { value = g.status; next = g.middle; is = g.status_read }, g.status_inside)

pub overflow_cast-row-2 : goal.overflow_cast-row-2
overflow_cast-row-2 c =
    let g = generator_stands c.args.text.now c.args.kind c.args.at c.requires.0 c.requires.1.is in
    let same = got_same c.status_at-status.ensures g.status_read in
    record { sfits = omega (arith, same.0, g.status_few) }

pub lay_numbers-six-requires : goal.lay_numbers-six-requires
lay_numbers-six-requires c =
    let g = generator_stands c.args.text.now c.args.kind c.args.at c.requires.0 c.requires.1.is in
    let same = got_same c.status_at-status.ensures g.status_read in
    ((g.numbers.values, (c.requires.1.next, rw same.1 g.numbers.stand)), simp (length-take, length-drop, length-set) (omega (arith, c.requires.2)), omega arith)

pub overflow_cast-row-3 : goal.overflow_cast-row-3
overflow_cast-row-3 c =
    let g = generator_stands c.args.text.now c.args.kind c.args.at c.requires.0 c.requires.1.is in
    let same = got_same c.status_at-status.ensures g.status_read in
    let stand : NumbersStand c.args.text.now c.status_at-status.result.next (4 ∷ 4 ∷ 4 ∷ 5 ∷ 8 ∷ 7 ∷ []) g.numbers.values c.requires.1.next = rw same.1 g.numbers.stand in
    let small = marks_fit c.args.text.now c.status_at-status.result.next (4 ∷ 4 ∷ 4 ∷ 5 ∷ 8 ∷ 7 ∷ []) g.numbers.values c.requires.1.next stand (omega arith) in
    rw (c.lay_numbers-six.ensures g.numbers.values c.requires.1.next stand).0 (record { sfits = omega (arith, small) })

pub returns : goal.returns
returns c =
    λ one next e.
    let g = generator_stands c.args.text.now c.args.kind c.args.at c.requires.0 e in
    let same = got_same c.status_at-status.ensures g.status_read in
    let stand : NumbersStand c.args.text.now c.status_at-status.result.next (4 ∷ 4 ∷ 4 ∷ 5 ∷ 8 ∷ 7 ∷ []) g.numbers.values next = rw same.1 g.numbers.stand in
    let said = c.lay_numbers-six.ensures g.numbers.values next stand in
    let six = numbers_counted c.args.text.now c.status_at-status.result.next (4 ∷ 4 ∷ 4 ∷ 5 ∷ 8 ∷ 7 ∷ []) g.numbers.values next stand in
    let small = marks_fit c.args.text.now c.status_at-status.result.next (4 ∷ 4 ∷ 4 ∷ 5 ∷ 8 ∷ 7 ∷ []) g.numbers.values next stand (omega arith) in (
      rw said.0,
      rw said.1
          (generator_laid c.args.row.now (numbers_of g.numbers.values) c.requires.2 (to_z w64 c.args.kind) (to_z w64 c.status_at-status.result.value) (to_z w64 c.lay_numbers-six.result.value) six
          ∙ rw (
            said.0,
            to_z_pos w64 {n = c.args.kind} (omega (arith, c.requires.0)),
            to_z_pos w64 {n = c.status_at-status.result.value} (omega (arith, same.0, g.status_few)),
            to_z_pos w64 {n = marks_of g.numbers.values} (omega (arith, small)),
            same.0,
          )
          (sym g.numbers.is)),
    )
