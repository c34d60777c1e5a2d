use Rattle.std.proofs.Common.{arith}
use Rattle.pricing_held.proofs.RowLines.{controllable_checked}
use Rattle.pricing_held.proofs.values.check_controllable.Goals as goal

pub returns : goal.returns
returns c = controllable_checked c.args.values.now c.args.line (omega arith) c.check_numbers.ensures
