use Rattle.std.proofs.Common.{◌≡◌, ◌*◌, true, false, rules}
use Rattle.text_id.specs.Id.{is_id}
use Rattle.text_id_table.specs.Ids.{id_at}
use Rattle.text_id_table.specs.Table.{slot_of}
use Rattle.pricing_held.proofs.RowChecks.{checked_ill_formed, checked_repeated, checked_new}
use Rattle.pricing_held.proofs.rows.check_row.Goals as goal

pub returns-then-not-is_id : goal.returns-then-not-is_id
returns-then-not-is_id c =
    let found : c.is_id.result ≡ is_id (id_at 0 c.args.ids.now (32 * c.args.i)) = search rules in
    let told : c.is_id.result ≡ false = search rules in
    checked_ill_formed c.args.ids.now c.args.i c.args.values.now c.args.line found told

pub returns-then-starts-slot-gt0 : goal.returns-then-starts-slot-gt0
returns-then-starts-slot-gt0 c =
    let found : c.is_id.result ≡ is_id (id_at 0 c.args.ids.now (32 * c.args.i)) = search rules in
    let told : c.is_id.result ≡ true = search rules in
    let slot : c.slot_of-slot.result ≡ slot_of 0 c.args.ids.now c.args.starts.now (id_at 0 c.args.ids.now (32 * c.args.i)) = search rules in
    checked_repeated c.args.ids.now c.args.i c.args.values.now c.args.line found told slot c.if-starts-slot-gt0.true

pub returns : goal.returns
returns c =
    let found : c.is_id.result ≡ is_id (id_at 0 c.args.ids.now (32 * c.args.i)) = search rules in
    let told : c.is_id.result ≡ true = search rules in
    let slot : c.slot_of-slot.result ≡ slot_of 0 c.args.ids.now c.args.starts.now (id_at 0 c.args.ids.now (32 * c.args.i)) = search rules in
    checked_new c.args.ids.now c.args.i c.args.values.now c.args.line found told slot c.if-starts-slot-gt0.false c.check_values.ensures
