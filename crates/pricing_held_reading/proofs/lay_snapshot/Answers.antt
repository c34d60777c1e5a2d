-- The header's numbers stand at the front, and the resources behind them.
use Rattle.std.proofs.Common.{◌≡◌, ◌∙◌, [], List, ℕ, ap, sym, rules}
use Rattle.text_line.specs.Field.{got}
use Rattle.text_number.specs.Marked.{marked_by}
use Rattle.text_number.proofs.Marks.{by_numbers}
use Rattle.text_schema.specs.Schema.{laid_over}
use Rattle.pricing_resource_text.specs.Resource.{resource_at}
use Rattle.pricing_sums.specs.Header.{header_values}
use Rattle.pricing_snapshot.specs.Snapshot.{Entry, SnapshotAnswer, resources_at}
use Rattle.pricing_snapshot.proofs.Entries.{snapshot_lines}
use Rattle.pricing_held_reading.specs.Reading.{id_rows, number_rows, header_read, entries_read}
use Rattle.pricing_held_reading.proofs.RowsRead.{header_stands}
use Rattle.pricing_held_reading.proofs.lay_snapshot.Goals as goal

moved :
    (text : List ℕ) {count due at next : ℕ} {entries : List Entry} {last : ℕ} → count ≡ due → at ≡ next → resources_at resource_at due [] text next ≡ got entries last →
    resources_at resource_at count [] text at ≡ got entries last
moved text counted ends e = rw (counted, ends) e

pub lay_numbers-laid-requires : goal.lay_numbers-laid-requires
lay_numbers-laid-requires c =
    let lines = snapshot_lines c.args.text.now c.requires.is in
    ((marked_by 0 (header_values c.requires.header), (lines.next, header_stands c.args.text.now lines.header_read)), search rules, search rules)

pub lay_rows-requires : goal.lay_rows-requires
lay_rows-requires c =
    let lines = snapshot_lines c.args.text.now c.requires.is in
    let said = c.lay_numbers-laid.ensures (marked_by 0 (header_values c.requires.header)) lines.next (header_stands c.args.text.now lines.header_read) in
    (record { value = c.requires.entries; next = lines.last; is = moved c.args.text.now c.requires.counted (ap (λ r. r.next) said.0) lines.entries_read }, c.requires.id_room, c.requires.number_room)

pub returns : goal.returns
returns c =
    let lines = snapshot_lines c.args.text.now c.requires.is in
    let said = c.lay_numbers-laid.ensures (marked_by 0 (header_values c.requires.header)) lines.next (header_stands c.args.text.now lines.header_read) in
    let says = c.lay_rows.ensures c.requires.entries lines.last (moved c.args.text.now c.requires.counted (ap (λ r. r.next) said.0) lines.entries_read) in
    record {
      header_is = said.1 ∙ by_numbers 0 (header_values c.requires.header) ∙ sym (ap header_read c.requires.is);
      ids_are = says.0 ∙ sym (ap (λ (a : SnapshotAnswer). laid_over (id_rows (entries_read a)) c.args.ids.now) c.requires.is);
      numbers_are = says.1 ∙ sym (ap (λ (a : SnapshotAnswer). laid_over (number_rows (entries_read a)) c.args.numbers.now) c.requires.is);
    }
