-- The known values of snapshots held as values hold, by computation.
use mathlib.Core.Path.{refl}
use Rattle.text_number.specs.Number.{all_digits, value_of, number_of, digits_within, written_number}
use Rattle.text_word.specs.Word.{same_bytes, word_among, written_word}
use Rattle.text_id.specs.Id.{all_id_bytes, is_id}
use Rattle.text_id_table.specs.Ids.{before, id_at, stands_in}
use Rattle.text_schema.specs.Checked.{checked_lines, text_of, first_refused}
use Rattle.pricing_resource_text.specs.Resource.{generator_fields, controllable_fields, load_fields}
use Rattle.pricing_snapshot.specs.Snapshot.{header_fields}
use Rattle.text_number.specs.Marked.{marked_in, written_marked, marks_of, marked_by}
use Rattle.pricing_resource.specs.Online.{counted_online}
use Rattle.pricing_resource.specs.Offline.{counted_offline}
use Rattle.pricing_resource.specs.Suspect.{marks_turn_back, unmarked_before, suspect_place, suspect_from}
use Rattle.pricing_held.specs.Rows.{held_count, row_at, rows_from, entry_of, contents_held}
use Rattle.pricing_held.specs.Lines.{row_lines, rows_lines, held_lines, held_answer, held_text}
use Rattle.known.specs.Statement.{AllHold}
use Rattle.known.specs.Held.{held_values}

pub held_values_lem : AllHold held_values
unfolding held_values held_answer held_text held_lines rows_lines row_lines rows_from row_at held_count header_fields generator_fields controllable_fields load_fields checked_lines text_of first_refused id_at before stands_in same_bytes word_among written_word is_id all_id_bytes number_of all_digits value_of written_number digits_within contents_held entry_of marked_in written_marked marks_of marked_by marks_turn_back counted_online counted_offline unmarked_before suspect_place suspect_from
held_values_lem = refl
