-- The bytes of the id stand where the line's value is.
use Rattle.std.proofs.Common.{◌∙◌, ap, length, arith}
use Rattle.pricing_held_reading.specs.Reading.{id_row}
use Rattle.pricing_held_reading.proofs.IdsRead.{id_stands, id_valued}
use Rattle.pricing_held_reading.proofs.Standing.{stands_within}
use Rattle.pricing_held_reading.proofs.rows.lay_id.Goals as goal

pub put_id-requires : goal.put_id-requires
put_id-requires c =
    let stand = id_stands c.args.text.now c.args.at c.requires.0.is in
    let id = ap length (c.line_value-id.ensures ∙ (id_valued c.args.text.now c.args.at c.requires.0.is).0) in
    (omega (arith, id, stand.few), c.requires.1)

pub overflow_add-result : goal.overflow_add-result
overflow_add-result c =
    let stand = id_stands c.args.text.now c.args.at c.requires.0.is in
    let id = ap length (c.line_value-id.ensures ∙ (id_valued c.args.text.now c.args.at c.requires.0.is).0) in
    omega (arith, stand.stands.next_is, stands_within stand.stands)

pub overflow_add-result-2 : goal.overflow_add-result-2
overflow_add-result-2 c =
    let stand = id_stands c.args.text.now c.args.at c.requires.0.is in
    let id = ap length (c.line_value-id.ensures ∙ (id_valued c.args.text.now c.args.at c.requires.0.is).0) in
    omega (arith, id, stand.stands.next_is, stands_within stand.stands)

pub overflow_add-result-3 : goal.overflow_add-result-3
overflow_add-result-3 c =
    let stand = id_stands c.args.text.now c.args.at c.requires.0.is in
    let id = ap length (c.line_value-id.ensures ∙ (id_valued c.args.text.now c.args.at c.requires.0.is).0) in
    omega (arith, id, stand.stands.next_is, stands_within stand.stands)

pub returns : goal.returns
returns c =
    λ value after e.
    let valued = id_valued c.args.text.now c.args.at e in
    let id = c.line_value-id.ensures ∙ valued.0 in
    (omega (arith, ap length id, valued.1), c.put_id.ensures ∙ ap id_row id)
