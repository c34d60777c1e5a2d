use Prim.Native.Nat.{◌+◌, ◌-◌}
use native.Mathlib.Nat.{sub-zero}
use native.Mathlib.Omega.{arith}
use mathlib.Core.Path.{◌≡◌, sym}
use borrow.Author.Rules.{rules}
use Rattle.pricing_sums.proofs.Parts.{part-within}
use Rattle.pricing_resource_text.proofs.Readings.{resource_read}
use Rattle.pricing_snapshot.proofs.Summing.{summing_start, summing_within, summing_no_id, summing_refused, summing_next, summing_over}
use Rattle.pricing_snapshot.proofs.resources.resources_at.Goals as goal

pub loop-taken-init : goal.loop-taken-init
loop-taken-init c = rw (sub-zero c.args.count) (summing_start c.args.text.now c.args.at c.args.count c.requires.fact_1 c.requires.fact_2)

pub returns-in_err-after : goal.returns-in_err-after
returns-in_err-after c =
    let refused = summing_no_id c.loop-taken.invariant (omega arith) c.new_id.ensures c.in_err-after.was in
    search rules

pub returns-in_err-read : goal.returns-in_err-read
returns-in_err-read c =
    let refused = summing_refused c.loop-taken.invariant (omega arith) c.new_id.ensures c.in_ok-after.was (rw c.in_err-read.was at c.resource_at.ensures) in
    search rules

pub tally_with-tally-requires-clause-fact_1 : goal.tally_with-tally-requires-clause-fact_1
tally_with-tally-requires-clause-fact_1 c = summing_within c.loop-taken.invariant (omega arith)

pub tally_with-tally-requires-clause-fact_2 : goal.tally_with-tally-requires-clause-fact_2
tally_with-tally-requires-clause-fact_2 c = part-within c.in_ok-read.read.resource (resource_read c.args.text.now c.in_ok-after.after (sym (rw c.in_ok-read.was at c.resource_at.ensures)))

pub loop-taken-preserved : goal.loop-taken-preserved
loop-taken-preserved c =
    let one_fewer : c.args.count - (c.loop-taken._taken + 1) ≡ c.args.count - c.loop-taken._taken - 1 = omega arith in
    rw one_fewer
    (summing_next c.loop-taken.invariant (omega arith) c.new_id.ensures c.in_ok-after.was (rw c.in_ok-read.was at c.resource_at.ensures) c.tally_with-tally.ensures c.new_id.auto.starts)

pub returns : goal.returns
returns c = summing_over c.loop-taken.invariant (omega arith)
