-- The source's own numbers pass the computed test.
use Rattle.std.proofs.Common.{refl}
use Rattle.normal.proofs.Table.{is_table}
use Rattle.normal.proofs.lookup.Table.new.Goals as goal

pub invariant_of-result : goal.invariant_of-result
invariant_of-result c = record { is_table = is_table _ refl refl }
