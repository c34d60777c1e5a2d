-- What the walk finds from a slot on is what it finds from the id's bucket on.
use Rattle.text_id_table.proofs.Slots.{SlotFrom}
use Rattle.text_id_table.proofs.slot_of.Given as goal

abbrev pub invariant-loop-slot : goal.invariant-loop-slot
invariant-loop-slot l = SlotFrom l.mark l.bytes l.starts l.id l.slot
