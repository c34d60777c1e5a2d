-- The hour's own lines are read by their schema.
use Rattle.curve_hour.proofs.Hours.{hour_long, hour_refused, own_ranges, next_within, runs_left}
use Rattle.std.proofs.Common.{rules}
use Rattle.text_refusal.proofs.MapErr.{mapped_ok, mapped_err}
use Rattle.curve_hour.proofs.read.read_hour.Goals as goal

pub returns-then-text-gt65536 : goal.returns-then-text-gt65536
returns-then-text-gt65536 c = hour_long _ c.if-text-gt65536.true

pub of-requires : goal.of-requires
of-requires c = own_ranges c.if-text-gt65536.false c.read_lines.ensures _ (mapped_ok _ _ _ c.map_err.ensures.cases c.in_ok-next.was)

pub returns-in_err-next : goal.returns-in_err-next
returns-in_err-next c =
    let found = mapped_err _ _ _ c.map_err.ensures.cases c.in_err-next.was in
    let refused = hour_refused c.if-text-gt65536.false c.read_lines.ensures found.0 found.1 in
    search rules

pub runs_at-requires-clause-inside : goal.runs_at-requires-clause-inside
runs_at-requires-clause-inside c =
    next_within c.if-text-gt65536.false c.read_lines.ensures _ (mapped_ok _ _ _ c.map_err.ensures.cases c.in_ok-next.was)

pub returns : goal.returns
returns c =
    rw (c.runs_at.ensures, c.of.ensures)
    (runs_left c.if-text-gt65536.false c.read_lines.ensures _ (mapped_ok _ _ _ c.map_err.ensures.cases c.in_ok-next.was))
