use Rattle.std.proofs.Common.{◌≡◌, ◌+◌, arith, rules, subst}
use Rattle.std.proofs.lemmas.Int.{ints}
use lib.IntN.{ℤ, ◌+ℤ◌}
use mir.Syntax.{w64}
use mir.Val.{to_z, of_z}
use Rattle.curve_hour.proofs.Runs.{RunsRead, runs_over, runs_refused, runs_more, reserve_small}
use Rattle.curve_hour.proofs.intervals.read_intervals.Goals as goal

pub returns-in_err-run : goal.returns-in_err-run
returns-in_err-run c = let refused = runs_refused c.loop-run.invariant c.loop-run-test.true c.run_at.ensures c.in_err-run.was in search rules

pub overflow_add-sum : goal.overflow_add-sum
overflow_add-sum c =
    let some = c.loop-run.invariant.small in
    let small = reserve_small c.loop-run.invariant c.loop-run-test.true c.run_at.ensures c.in_ok-run.was in
    omega (arith, ints)

pub loop-run-preserved : goal.loop-run-preserved
loop-run-preserved c =
    let sum = to_z w64 c.loop-run.sum-bits in
    let run = c.in_ok-run.run' in
    let some = c.loop-run.invariant.small in
    let small = reserve_small c.loop-run.invariant c.loop-run-test.true c.run_at.ensures c.in_ok-run.was in
    let more = runs_more c.loop-run.invariant c.loop-run-test.true c.run_at.ensures c.in_ok-run.was in
    let is : sum +ℤ run.sum ≡ to_z w64 (of_z w64 (sum +ℤ to_z w64 (of_z w64 run.sum))) = omega (arith, ints) in
    subst (λ (z : ℤ). RunsRead c.args.runs c.args.part.now z run.next (c.loop-run._run + 1)) is more

pub returns : goal.returns
returns c = runs_over c.loop-run.invariant c.loop-run-test.false
