use Rattle.std.proofs.Common.{arith}
use Rattle.std.proofs.lemmas.List.{length-take, length-drop}
use Rattle.pricing_held_reading.proofs.EntryRows.{rows_none, entry_due, rows_more, rows_all}
use Rattle.pricing_held_reading.proofs.rows.lay_rows.Goals as goal

pub loop-i-init : goal.loop-i-init
loop-i-init c = λ entries last e. rows_none c.args.text.now c.args.count c.args.at c.args.ids.now c.args.numbers.now e

pub lay_id-after-requires : goal.lay_id-after-requires
lay_id-after-requires c =
    let due = entry_due (c.loop-i.invariant c.requires.0.value c.requires.0.next c.requires.0.is) c.loop-i-test.true in
    (record { value = due.id; next = due.middle; is = due.id_read }, simp (length-take, length-drop) (omega (arith, c.loop-i.auto.ids)))

pub lay_resource-next-requires : goal.lay_resource-next-requires
lay_resource-next-requires c =
    let due = entry_due (c.loop-i.invariant c.requires.0.value c.requires.0.next c.requires.0.is) c.loop-i-test.true in
    let said = c.lay_id-after.ensures due.id due.middle due.id_read in
    (record { value = due.one; next = due.after; is = rw said.0 due.one_read }, simp (length-take, length-drop) (omega (arith, c.loop-i.auto.numbers)))

pub loop-i-preserved : goal.loop-i-preserved
loop-i-preserved c =
    λ entries last e.
    let so_far = c.loop-i.invariant entries last e in
    let due = entry_due so_far c.loop-i-test.true in
    let said = c.lay_id-after.ensures due.id due.middle due.id_read in
    let says = c.lay_resource-next.ensures due.one due.after (rw said.0 due.one_read) in
    rows_more so_far c.loop-i-test.true says.0 said.1 says.1

pub returns : goal.returns
returns c = λ entries last e. rows_all (c.loop-i.invariant entries last e) c.loop-i-test.false
