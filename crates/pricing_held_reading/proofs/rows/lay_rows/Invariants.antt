-- So many resources were laid, whichever were read there.
use Rattle.std.proofs.Common.{◌≡◌, ℕ, List, []}
use Rattle.text_line.specs.Field.{got}
use Rattle.pricing_resource_text.specs.Resource.{resource_at}
use Rattle.pricing_snapshot.specs.Snapshot.{Entry, resources_at}
use Rattle.pricing_held_reading.proofs.EntryRows.{RowsFrom}
use Rattle.pricing_held_reading.proofs.rows.lay_rows.Given as goal

abbrev pub invariant-loop-i : goal.invariant-loop-i
invariant-loop-i l =
    (entries : List Entry) (last : ℕ) → resources_at resource_at l.count [] l.text l.at ≡ got entries last →
    RowsFrom l.text l.count entries last l.initial.ids l.initial.numbers l.ids l.numbers l.next l.i
