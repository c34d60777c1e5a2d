use Rattle.std.proofs.Common.{rules, ◌∙◌, ap}
use Rattle.curve_hour.specs.Hour.{sced_reserve}
use Rattle.curve_hour.proofs.Values.{held}
use Rattle.curve_hour.proofs.Runs.{run_in_range, one_refused, one_read}
use Rattle.curve_hour.proofs.intervals.run_at.Goals as goal

pub of-requires : goal.of-requires
of-requires c = run_in_range c.read_lines.ensures _ c.in_ok-next.was

pub returns-in_err-next : goal.returns-in_err-next
returns-in_err-next c = let refused = one_refused c.read_lines.ensures c.in_err-next.was in search rules

pub returns : goal.returns
returns c = one_read c.read_lines.ensures c.in_ok-next.was (held c.reserve.result c.reserve.type_inv ∙ c.reserve.ensures ∙ ap sced_reserve c.of.ensures)
