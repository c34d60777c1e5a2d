-- The whole part's answer is the sum so far with what the runs that are left give.
use Rattle.curve_hour.proofs.Runs.{RunsRead}
use Rattle.curve_hour.proofs.intervals.read_intervals.Given as goal

abbrev pub invariant-loop-run : goal.invariant-loop-run
invariant-loop-run l = RunsRead l.runs l.fn.part l.sum l.next l._run
