-- The known values of readings marked suspect hold, by computation.
use mathlib.Core.Path.{◌≡◌, refl}
use mathlib.Core.List.{[], ◌∷◌}
use lib.IntN.{pos}
use Rattle.integer.specs.Floor.{floor_div}
use Rattle.integer.specs.Order.{min_ℤ, max_ℤ}
use Rattle.normal.specs.Knot.{knot}
use Rattle.normal.specs.Normal.{normal, upper, interpolated}
use Rattle.text_refusal.specs.Refusal.{ended_lines}
use Rattle.text_line.specs.Line.{line_in, line_length, begins}
use Rattle.text_number.specs.Number.{number_of, all_digits, value_of}
use Rattle.text_word.specs.Word.{word_among, same_bytes}
use Rattle.text_id.specs.Id.{is_id, all_id_bytes}
use Rattle.text_id_table.specs.Ids.{stands_in}
use Rattle.text_line.specs.Field.{field_at}
use Rattle.text_schema.specs.Schema.{read_fields}
use Rattle.curve_probability.specs.Probability.{online_probability, offline_probability}
use Rattle.curve_group.specs.Season.{season_of, block_of, group_of}
use Rattle.curve_set.specs.Curves.{curves_in_range, pairs_in_range}
use Rattle.pricing_sums.specs.Sums.{plus}
use Rattle.pricing_snapshot.specs.Snapshot.{header_fields, resources_at, due_lines, snapshot_in}
use Rattle.pricing_adder.specs.Reserve.{twice_loads, twice_online, twice_all, discounted, online_reserve, total_reserve}
use Rattle.pricing_adder.specs.Price.{value_of_reserve, rounded, shortage_online, shortage_offline, prices_of}
use Rattle.pricing_resource_text.specs.Resource.{generator_fields, controllable_fields, load_fields, resource_at}
use Rattle.pricing_resource.specs.Online.{counted_online}
use Rattle.pricing_resource.specs.Offline.{counted_offline}
use Rattle.pricing_sums.specs.Part.{part_of, sums_of}
use Rattle.pricing.specs.Pricing.{priced}
use Rattle.text_number.specs.Number.{digits_within, written_number}
use Rattle.text_number.specs.Marked.{marked_in, written_marked, marks_of, marked_by}
use Rattle.text_word.specs.Word.{written_word}
use Rattle.text_id_table.specs.Ids.{before, id_at}
use Rattle.text_schema.specs.Checked.{checked_lines, text_of, first_refused}
use Rattle.pricing_resource.specs.Suspect.{marks_turn_back, unmarked_before, suspect_place, suspect_from}
use Rattle.pricing_held.specs.Rows.{held_count, row_at, rows_from, entry_of, contents_held}
use Rattle.pricing_held.specs.Lines.{row_lines, rows_lines, held_lines, held_answer, held_text}
use Rattle.known.specs.Statement.{AllHold}
use Rattle.known.specs.Pricing.{printed, listed_curves}
use Rattle.known.specs.Marks.{marked_values, marked_hsl, marked_below, marked_out, marked_load, twice_marked, marked_header, marked_and_more, marked_texts, marked_held}

pub marked_values_lem : AllHold marked_values
unfolding marked_values marked_in number_of all_digits value_of
marked_values_lem = refl

marked_hsl_lem : printed (priced listed_curves marked_hsl) ≡ pos 15 ∷ pos 14 ∷ []
unfolding marked_hsl ended_lines line_in line_length begins number_of all_digits value_of word_among is_id all_id_bytes field_at read_fields header_fields generator_fields controllable_fields load_fields resource_at resources_at stands_in same_bytes due_lines snapshot_in priced curves_in_range pairs_in_range sums_of part_of counted_online counted_offline plus prices_of value_of_reserve rounded shortage_online shortage_offline online_probability offline_probability normal upper interpolated knot group_of season_of block_of online_reserve total_reserve discounted twice_online twice_all twice_loads floor_div min_ℤ max_ℤ marked_in marks_of marks_turn_back suspect_place suspect_from unmarked_before
marked_hsl_lem = refl

marked_below_lem : printed (priced listed_curves marked_below) ≡ pos 15 ∷ pos 21 ∷ []
unfolding marked_below ended_lines line_in line_length begins number_of all_digits value_of word_among is_id all_id_bytes field_at read_fields header_fields generator_fields controllable_fields load_fields resource_at resources_at stands_in same_bytes due_lines snapshot_in priced curves_in_range pairs_in_range sums_of part_of counted_online counted_offline plus prices_of value_of_reserve rounded shortage_online shortage_offline online_probability offline_probability normal upper interpolated knot group_of season_of block_of online_reserve total_reserve discounted twice_online twice_all twice_loads floor_div min_ℤ max_ℤ marked_in marks_of marks_turn_back suspect_place suspect_from unmarked_before
marked_below_lem = refl

marked_out_lem : printed (priced listed_curves marked_out) ≡ pos 4 ∷ pos 4 ∷ pos 1000000000 ∷ pos 1000000000 ∷ pos 900000 ∷ pos 450000 ∷ []
unfolding marked_out ended_lines line_in line_length begins number_of all_digits value_of word_among is_id all_id_bytes field_at read_fields header_fields generator_fields controllable_fields load_fields resource_at resources_at stands_in same_bytes due_lines snapshot_in priced curves_in_range pairs_in_range sums_of part_of counted_online counted_offline plus prices_of value_of_reserve rounded shortage_online shortage_offline online_probability offline_probability normal upper interpolated knot group_of season_of block_of online_reserve total_reserve discounted twice_online twice_all twice_loads floor_div min_ℤ max_ℤ marked_in marks_of marks_turn_back suspect_place suspect_from unmarked_before
marked_out_lem = refl

marked_load_lem : printed (priced listed_curves marked_load) ≡ pos 15 ∷ pos 12 ∷ []
unfolding marked_load ended_lines line_in line_length begins number_of all_digits value_of word_among is_id all_id_bytes field_at read_fields header_fields generator_fields controllable_fields load_fields resource_at resources_at stands_in same_bytes due_lines snapshot_in priced curves_in_range pairs_in_range sums_of part_of counted_online counted_offline plus prices_of value_of_reserve rounded shortage_online shortage_offline online_probability offline_probability normal upper interpolated knot group_of season_of block_of online_reserve total_reserve discounted twice_online twice_all twice_loads floor_div min_ℤ max_ℤ marked_in marks_of marks_turn_back suspect_place suspect_from unmarked_before
marked_load_lem = refl

twice_marked_lem : printed (priced listed_curves twice_marked) ≡ pos 6 ∷ pos 12 ∷ []
unfolding twice_marked ended_lines line_in line_length begins number_of all_digits value_of word_among is_id all_id_bytes field_at read_fields header_fields generator_fields controllable_fields load_fields resource_at resources_at stands_in same_bytes due_lines snapshot_in priced curves_in_range pairs_in_range sums_of part_of counted_online counted_offline plus prices_of value_of_reserve rounded shortage_online shortage_offline online_probability offline_probability normal upper interpolated knot group_of season_of block_of online_reserve total_reserve discounted twice_online twice_all twice_loads floor_div min_ℤ max_ℤ marked_in marks_of marks_turn_back suspect_place suspect_from unmarked_before
twice_marked_lem = refl

marked_header_lem : printed (priced listed_curves marked_header) ≡ pos 6 ∷ pos 3 ∷ []
unfolding marked_header ended_lines line_in line_length begins number_of all_digits value_of word_among is_id all_id_bytes field_at read_fields header_fields generator_fields controllable_fields load_fields resource_at resources_at stands_in same_bytes due_lines snapshot_in priced curves_in_range pairs_in_range sums_of part_of counted_online counted_offline plus prices_of value_of_reserve rounded shortage_online shortage_offline online_probability offline_probability normal upper interpolated knot group_of season_of block_of online_reserve total_reserve discounted twice_online twice_all twice_loads floor_div min_ℤ max_ℤ marked_in marks_of marks_turn_back suspect_place suspect_from unmarked_before
marked_header_lem = refl

marked_and_more_lem : printed (priced listed_curves marked_and_more) ≡ pos 9 ∷ pos 15 ∷ []
unfolding marked_and_more ended_lines line_in line_length begins number_of all_digits value_of word_among is_id all_id_bytes field_at read_fields header_fields generator_fields controllable_fields load_fields resource_at resources_at stands_in same_bytes due_lines snapshot_in priced curves_in_range pairs_in_range sums_of part_of counted_online counted_offline plus prices_of value_of_reserve rounded shortage_online shortage_offline online_probability offline_probability normal upper interpolated knot group_of season_of block_of online_reserve total_reserve discounted twice_online twice_all twice_loads floor_div min_ℤ max_ℤ marked_in marks_of marks_turn_back suspect_place suspect_from unmarked_before
marked_and_more_lem = refl

pub marked_texts_lem : AllHold marked_texts
unfolding marked_texts
marked_texts_lem = rw (marked_hsl_lem, marked_below_lem, marked_out_lem, marked_load_lem, twice_marked_lem, marked_header_lem, marked_and_more_lem)

pub marked_held_lem : AllHold marked_held
unfolding marked_held held_answer held_text held_lines contents_held entry_of rows_lines row_lines rows_from row_at held_count header_fields generator_fields controllable_fields load_fields checked_lines text_of first_refused id_at before stands_in same_bytes word_among written_word is_id all_id_bytes number_of all_digits value_of written_number digits_within marked_in written_marked marks_of marked_by marks_turn_back counted_online counted_offline unmarked_before suspect_place suspect_from
marked_held_lem = refl
