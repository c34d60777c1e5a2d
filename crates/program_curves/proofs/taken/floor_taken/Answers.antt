use Rattle.std.proofs.Common.{rules, sym, ◌∙◌, []}
use Rattle.program_curves.specs.Stream.{state_of}
use Rattle.program_curves.proofs.SettleLines.{floor_got, floor_refused}
use Rattle.program_curves.proofs.taken.floor_taken.Goals as goal

pub returns-in-Ok : goal.returns-in-Ok
returns-in-Ok c = rw (floor_got (state_of c.args.stream []) _ c.in-Ok.floor (sym c.line_number.ensures ∙ c.in-Ok.is)) (search rules)

pub returns-in-Err : goal.returns-in-Err
returns-in-Err c = rw (floor_refused (state_of c.args.stream []) _ c.in-Err.fault (sym c.line_number.ensures ∙ c.in-Err.is)) c.line_refused.ensures
