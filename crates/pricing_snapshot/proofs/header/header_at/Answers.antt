use mathlib.Core.Path.{refl}
use borrow.Author.Rules.{rules}
use Rattle.pricing_snapshot.specs.Snapshot.{header_fields}
use Rattle.pricing_snapshot.proofs.Snapshots.{header_schema, header_refused_at, header_got}
use Rattle.pricing_snapshot.proofs.header.header_at.Goals as goal

pub returns-in_err-next : goal.returns-in_err-next
unfolding header_schema header_fields
returns-in_err-next c =
    let refused = header_refused_at c.args.text.now refl c.read_lines.ensures c.in_err-next.was in
    search rules

pub returns : goal.returns
unfolding header_schema header_fields
returns c = header_got c.args.text.now refl c.read_lines.ensures c.in_ok-next.was c.header_of.ensures
