-- The answer of the first look decides, then the count of the rows.
use Rattle.std.proofs.Common.{◌≡◌, Err, nat_abs, rules, arith}
use Rattle.pricing_held_reading.proofs.Held.{held_refused, rows_few, held_room, held_laid}
use Rattle.pricing_held_reading.proofs.read_held.Goals as goal

pub returns-in_err-snapshot : goal.returns-in_err-snapshot
returns-in_err-snapshot c =
    let handed_on : c.from_residual.result ≡ Err c.in_err-snapshot.field-0.0 = search rules in
    rw handed_on (held_refused c.args.text.now c.args.header.now c.args.ids.now c.args.numbers.now c.read_snapshot.ensures c.in_err-snapshot.was)

pub returns-then-held_count-count : goal.returns-then-held_count-count
returns-then-held_count-count c =
    let counted : c.magnitude-count.result ≡ nat_abs c.in_ok-snapshot.snapshot.header.count = search rules in
    rows_few c.args.text.now c.args.header.now c.args.ids.now c.args.numbers.now c.read_snapshot.ensures c.in_ok-snapshot.was counted (omega (arith, c.held_count.ensures))

pub lay_snapshot-requires : goal.lay_snapshot-requires
lay_snapshot-requires c =
    let counted : c.magnitude-count.result ≡ nat_abs c.in_ok-snapshot.snapshot.header.count = search rules in
    held_room c.args.text.now c.args.header.now c.args.ids.now c.args.numbers.now c.read_snapshot.ensures c.in_ok-snapshot.was counted (omega (arith, c.held_count.ensures))

pub returns : goal.returns
returns c =
    let counted : c.magnitude-count.result ≡ nat_abs c.in_ok-snapshot.snapshot.header.count = search rules in
    held_laid c.args.text.now c.args.header.now c.args.ids.now c.args.numbers.now c.read_snapshot.ensures c.in_ok-snapshot.was counted (omega (arith, c.held_count.ensures)) c.lay_snapshot.ensures
