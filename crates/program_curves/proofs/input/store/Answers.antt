use Rattle.std.proofs.Common.{arith, sym, ◌∙◌}
use Rattle.program_curves.proofs.Feeding.{stored_on}
use Rattle.program_curves.proofs.input.store.Goals as goal

pub loop-stored-preserved : goal.loop-stored-preserved
loop-stored-preserved c = stored_on c.loop-stored.invariant c.requires.waits (omega arith) (sym c.stops.ensures ∙ c.if-stops.false)
