-- The kind decides which lines follow.
use Rattle.std.proofs.Common.{◌≡◌, ◌∙◌, refl, sym, arith}
use Rattle.pricing_resource_text.proofs.Readings.{resource_followed}
use Rattle.pricing_held_reading.proofs.RowsRead.{kind_few, of_kind_lem, of_controllable, of_load}
use Rattle.pricing_held_reading.proofs.rows.lay_resource.Goals as goal

pub kind_at-word-requires : goal.kind_at-word-requires
kind_at-word-requires c =
    let f = resource_followed c.args.text.now c.args.at c.requires.0.is in
    record { value = f.one; next = f.after; is = f.given }

pub lay_generator-requires : goal.lay_generator-requires
lay_generator-requires c = (
  c.if-kind-lt4.true,
  record { value = c.requires.0.value; next = c.requires.0.next; is = of_kind_lem c.args.text.now c.args.at c.kind_at-word.ensures c.requires.0.is },
  c.requires.1,
)

pub returns-then-kind-lt4 : goal.returns-then-kind-lt4
returns-then-kind-lt4 c = λ one next read. c.lay_generator.ensures one next (of_kind_lem c.args.text.now c.args.at c.kind_at-word.ensures read)

pub lay_load-requires : goal.lay_load-requires
lay_load-requires c =
    let g = of_controllable c.args.text.now c.args.at c.kind_at-word.ensures c.requires.0.is c.if-kind-eq4.true in
    (kind_few c.args.text.now c.args.at c.kind_at-word.ensures, refl, c.requires.1, (g.values, (c.requires.0.next, g.stand)))

pub returns-then-kind-eq4 : goal.returns-then-kind-eq4
returns-then-kind-eq4 c =
    λ one next read.
    let g = of_controllable c.args.text.now c.args.at c.kind_at-word.ensures read c.if-kind-eq4.true in
    let said = c.lay_load.ensures g.values next g.stand in
    (said.0, said.1 ∙ sym g.is)

pub lay_load-requires-2 : goal.lay_load-requires-2
lay_load-requires-2 c =
    let last : c.kind_at-word.result.value ≡ 5 = omega (arith, kind_few c.args.text.now c.args.at c.kind_at-word.ensures) in
    let g = of_load c.args.text.now c.args.at c.kind_at-word.ensures c.requires.0.is last in
    (kind_few c.args.text.now c.args.at c.kind_at-word.ensures, refl, c.requires.1, (g.values, (c.requires.0.next, g.stand)))

pub returns : goal.returns
returns c =
    λ one next read.
    let last : c.kind_at-word.result.value ≡ 5 = omega (arith, kind_few c.args.text.now c.args.at c.kind_at-word.ensures) in
    let g = of_load c.args.text.now c.args.at c.kind_at-word.ensures read last in
    let said = c.lay_load-2.ensures g.values next g.stand in
    (said.0, said.1 ∙ sym g.is)
