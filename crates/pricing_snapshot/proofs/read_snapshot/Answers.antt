use Prim.Native.Nat.{◌≤◌}
use native.Mathlib.Omega.{arith}
use mathlib.Core.Path.{◌≡◌}
use borrow.Author.Rules.{rules}
use lib.ListN.{length}
use Rattle.text_refusal.specs.Refusal.{refusal_of}
use Rattle.text_refusal.proofs.MapErr.{mapped_ok, mapped_err}
use Rattle.pricing_snapshot.proofs.Snapshots.{snapshot_header, count_few, snapshot_rest}
use Rattle.pricing_snapshot.proofs.read_snapshot.Goals as goal

pub returns-in_err-read : goal.returns-in_err-read
returns-in_err-read c =
    let short : length c.args.text.now ≤ 1048576 = omega arith in
    let m = mapped_err _ c.header_at.result c.map_err.result c.map_err.ensures.cases c.in_err-read.was in
    let made : c.in_err-read.field-0.0 ≡ refusal_of c.args.text.now m.0 = search (rules, m.2) in
    let refused = snapshot_header c.args.text.now c.header_at.result c.header_at.ensures short m.1 made in
    search rules

pub after_header-requires : goal.after_header-requires
after_header-requires c = count_few c.args.text.now c.header_at.result c.header_at.ensures (mapped_ok _ c.header_at.result c.map_err.result c.map_err.ensures.cases c.in_ok-read.was)

pub returns : goal.returns
returns c =
    let short : length c.args.text.now ≤ 1048576 = omega arith in
    snapshot_rest c.args.text.now c.header_at.result c.header_at.ensures short (mapped_ok _ c.header_at.result c.map_err.result c.map_err.ensures.cases c.in_ok-read.was) c.after_header.ensures
