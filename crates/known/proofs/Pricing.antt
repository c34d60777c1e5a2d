-- The known values of pricing, and document 01's traps, by computation over whole texts.
use mathlib.Core.Path.{◌≡◌, refl}
use mathlib.Core.List.{[], ◌∷◌}
use lib.IntN.{pos, negsuc}
use Rattle.integer.specs.Floor.{floor_div}
use Rattle.integer.specs.Order.{min_ℤ, max_ℤ}
use Rattle.normal.specs.Knot.{knot}
use Rattle.normal.specs.Normal.{normal, upper, interpolated}
use Rattle.text_refusal.specs.Refusal.{ended_lines}
use Rattle.text_line.specs.Line.{line_in, line_length, begins}
use Rattle.text_number.specs.Number.{number_of, all_digits, value_of}
use Rattle.text_word.specs.Word.{word_among, same_bytes}
use Rattle.text_id.specs.Id.{is_id, all_id_bytes}
use Rattle.text_id_table.specs.Ids.{stands_in}
use Rattle.text_line.specs.Field.{field_at}
use Rattle.text_schema.specs.Schema.{read_fields}
use Rattle.curve_probability.specs.Probability.{online_probability, offline_probability}
use Rattle.curve_group.specs.Season.{season_of, block_of, group_of}
use Rattle.curve_set.specs.Curves.{curves_in_range, pairs_in_range}
use Rattle.pricing_sums.specs.Sums.{plus}
use Rattle.pricing_snapshot.specs.Snapshot.{header_fields, resources_at, due_lines, snapshot_in}
use Rattle.pricing_adder.specs.Reserve.{twice_loads, twice_online, twice_all, discounted, online_reserve, total_reserve}
use Rattle.pricing_adder.specs.Price.{value_of_reserve, rounded, shortage_online, shortage_offline, prices_of}
use Rattle.pricing_resource_text.specs.Resource.{generator_fields, controllable_fields, load_fields, resource_at}
use Rattle.pricing_resource.specs.Online.{counted_online}
use Rattle.pricing_resource.specs.Offline.{counted_offline}
use Rattle.pricing_resource.specs.Suspect.{marks_turn_back, unmarked_before, suspect_place, suspect_from}
use Rattle.text_number.specs.Marked.{marked_in, marks_of}
use Rattle.pricing_sums.specs.Part.{part_of, sums_of}
use Rattle.pricing.specs.Pricing.{priced}
use Rattle.known.specs.Statement.{AllHold}
use Rattle.known.specs.Pricing.{printed, listed_curves, with_mean, as_listed, at_level_one, below_minimum, empty_hsl, one_load, short_load, two_loads, missing_lpc, other_ids, repeated_id, priced_values}

as_listed_lem : printed (priced listed_curves as_listed) ≡ pos 2707000 ∷ pos 3000000 ∷ pos 158655254 ∷ pos 158655254 ∷ pos 142393 ∷ pos 71197 ∷ []
unfolding as_listed ended_lines line_in line_length begins number_of all_digits value_of word_among is_id all_id_bytes field_at read_fields header_fields generator_fields controllable_fields load_fields resource_at resources_at stands_in same_bytes due_lines snapshot_in priced curves_in_range pairs_in_range sums_of part_of counted_online counted_offline plus prices_of value_of_reserve rounded shortage_online shortage_offline online_probability offline_probability normal upper interpolated knot group_of season_of block_of online_reserve total_reserve discounted twice_online twice_all twice_loads floor_div min_ℤ max_ℤ marked_in marks_of marks_turn_back suspect_place suspect_from unmarked_before
as_listed_lem = refl

at_level_one_lem : printed (priced listed_curves at_level_one) ≡ pos 2707000 ∷ pos 2707000 ∷ pos 158655254 ∷ pos 239785544 ∷ pos 178800 ∷ pos 107604 ∷ []
unfolding at_level_one ended_lines line_in line_length begins number_of all_digits value_of word_among is_id all_id_bytes field_at read_fields header_fields generator_fields controllable_fields load_fields resource_at resources_at stands_in same_bytes due_lines snapshot_in priced curves_in_range pairs_in_range sums_of part_of counted_online counted_offline plus prices_of value_of_reserve rounded shortage_online shortage_offline online_probability offline_probability normal upper interpolated knot group_of season_of block_of online_reserve total_reserve discounted twice_online twice_all twice_loads floor_div min_ℤ max_ℤ marked_in marks_of marks_turn_back suspect_place suspect_from unmarked_before
at_level_one_lem = refl

below_minimum_lem : printed (priced listed_curves below_minimum) ≡ pos 1800000 ∷ pos 2093000 ∷ pos 1000000000 ∷ pos 462952174 ∷ pos 656500 ∷ pos 207750 ∷ []
unfolding below_minimum ended_lines line_in line_length begins number_of all_digits value_of word_among is_id all_id_bytes field_at read_fields header_fields generator_fields controllable_fields load_fields resource_at resources_at stands_in same_bytes due_lines snapshot_in priced curves_in_range pairs_in_range sums_of part_of counted_online counted_offline plus prices_of value_of_reserve rounded shortage_online shortage_offline online_probability offline_probability normal upper interpolated knot group_of season_of block_of online_reserve total_reserve discounted twice_online twice_all twice_loads floor_div min_ℤ max_ℤ marked_in marks_of marks_turn_back suspect_place suspect_from unmarked_before
below_minimum_lem = refl

empty_hsl_lem : printed (priced listed_curves empty_hsl) ≡ pos 5 ∷ pos 14 ∷ []
unfolding empty_hsl ended_lines line_in line_length begins number_of all_digits value_of word_among is_id all_id_bytes field_at read_fields header_fields generator_fields controllable_fields load_fields resource_at resources_at stands_in same_bytes due_lines snapshot_in priced curves_in_range pairs_in_range sums_of part_of counted_online counted_offline plus prices_of value_of_reserve rounded shortage_online shortage_offline online_probability offline_probability normal upper interpolated knot group_of season_of block_of online_reserve total_reserve discounted twice_online twice_all twice_loads floor_div min_ℤ max_ℤ marked_in marks_of marks_turn_back suspect_place suspect_from unmarked_before
empty_hsl_lem = refl

one_load_lem : printed (priced listed_curves one_load) ≡ pos 4 ∷ pos 4 ∷ pos 1000000000 ∷ pos 1000000000 ∷ pos 900000 ∷ pos 450000 ∷ []
unfolding one_load ended_lines line_in line_length begins number_of all_digits value_of word_among is_id all_id_bytes field_at read_fields header_fields generator_fields controllable_fields load_fields resource_at resources_at stands_in same_bytes due_lines snapshot_in priced curves_in_range pairs_in_range sums_of part_of counted_online counted_offline plus prices_of value_of_reserve rounded shortage_online shortage_offline online_probability offline_probability normal upper interpolated knot group_of season_of block_of online_reserve total_reserve discounted twice_online twice_all twice_loads floor_div min_ℤ max_ℤ marked_in marks_of marks_turn_back suspect_place suspect_from unmarked_before
one_load_lem = refl

short_load_lem : printed (priced listed_curves short_load) ≡ negsuc 0 ∷ negsuc 0 ∷ pos 1000000000 ∷ pos 1000000000 ∷ pos 0 ∷ pos 0 ∷ []
unfolding short_load ended_lines line_in line_length begins number_of all_digits value_of word_among is_id all_id_bytes field_at read_fields header_fields generator_fields controllable_fields load_fields resource_at resources_at stands_in same_bytes due_lines snapshot_in priced curves_in_range pairs_in_range sums_of part_of counted_online counted_offline plus prices_of value_of_reserve rounded shortage_online shortage_offline online_probability offline_probability normal upper interpolated knot group_of season_of block_of online_reserve total_reserve discounted twice_online twice_all twice_loads floor_div min_ℤ max_ℤ marked_in marks_of marks_turn_back suspect_place suspect_from unmarked_before
short_load_lem = refl

two_loads_lem : printed (priced listed_curves two_loads) ≡ pos 4 ∷ pos 4 ∷ pos 1000000000 ∷ pos 1000000000 ∷ pos 900000 ∷ pos 450000 ∷ []
unfolding two_loads ended_lines line_in line_length begins number_of all_digits value_of word_among is_id all_id_bytes field_at read_fields header_fields generator_fields controllable_fields load_fields resource_at resources_at stands_in same_bytes due_lines snapshot_in priced curves_in_range pairs_in_range sums_of part_of counted_online counted_offline plus prices_of value_of_reserve rounded shortage_online shortage_offline online_probability offline_probability normal upper interpolated knot group_of season_of block_of online_reserve total_reserve discounted twice_online twice_all twice_loads floor_div min_ℤ max_ℤ marked_in marks_of marks_turn_back suspect_place suspect_from unmarked_before
two_loads_lem = refl

missing_lpc_lem : printed (priced listed_curves missing_lpc) ≡ pos 4 ∷ pos 13 ∷ []
unfolding missing_lpc ended_lines line_in line_length begins number_of all_digits value_of word_among is_id all_id_bytes field_at read_fields header_fields generator_fields controllable_fields load_fields resource_at resources_at stands_in same_bytes due_lines snapshot_in priced curves_in_range pairs_in_range sums_of part_of counted_online counted_offline plus prices_of value_of_reserve rounded shortage_online shortage_offline online_probability offline_probability normal upper interpolated knot group_of season_of block_of online_reserve total_reserve discounted twice_online twice_all twice_loads floor_div min_ℤ max_ℤ marked_in marks_of marks_turn_back suspect_place suspect_from unmarked_before
missing_lpc_lem = refl

other_ids_lem : printed (priced listed_curves other_ids) ≡ pos 4 ∷ pos 4 ∷ pos 1000000000 ∷ pos 1000000000 ∷ pos 900000 ∷ pos 450000 ∷ []
unfolding other_ids ended_lines line_in line_length begins number_of all_digits value_of word_among is_id all_id_bytes field_at read_fields header_fields generator_fields controllable_fields load_fields resource_at resources_at stands_in same_bytes due_lines snapshot_in priced curves_in_range pairs_in_range sums_of part_of counted_online counted_offline plus prices_of value_of_reserve rounded shortage_online shortage_offline online_probability offline_probability normal upper interpolated knot group_of season_of block_of online_reserve total_reserve discounted twice_online twice_all twice_loads floor_div min_ℤ max_ℤ marked_in marks_of marks_turn_back suspect_place suspect_from unmarked_before
other_ids_lem = refl

repeated_id_lem : printed (priced listed_curves repeated_id) ≡ pos 8 ∷ pos 15 ∷ []
unfolding repeated_id ended_lines line_in line_length begins number_of all_digits value_of word_among is_id all_id_bytes field_at read_fields header_fields generator_fields controllable_fields load_fields resource_at resources_at stands_in same_bytes due_lines snapshot_in priced curves_in_range pairs_in_range sums_of part_of counted_online counted_offline plus prices_of value_of_reserve rounded shortage_online shortage_offline online_probability offline_probability normal upper interpolated knot group_of season_of block_of online_reserve total_reserve discounted twice_online twice_all twice_loads floor_div min_ℤ max_ℤ marked_in marks_of marks_turn_back suspect_place suspect_from unmarked_before
repeated_id_lem = refl

on_its_group : printed (priced (with_mean 16) as_listed) ≡ pos 2707000 ∷ pos 3000000 ∷ pos 176373156 ∷ pos 184060125 ∷ pos 161744 ∷ pos 82597 ∷ []
unfolding as_listed ended_lines line_in line_length begins number_of all_digits value_of word_among is_id all_id_bytes field_at read_fields header_fields generator_fields controllable_fields load_fields resource_at resources_at stands_in same_bytes due_lines snapshot_in priced curves_in_range pairs_in_range sums_of part_of counted_online counted_offline plus prices_of value_of_reserve rounded shortage_online shortage_offline online_probability offline_probability normal upper interpolated knot group_of season_of block_of online_reserve total_reserve discounted twice_online twice_all twice_loads floor_div min_ℤ max_ℤ marked_in marks_of marks_turn_back suspect_place suspect_from unmarked_before
on_its_group = refl

on_no_other : printed (priced (with_mean 15) as_listed) ≡ pos 2707000 ∷ pos 3000000 ∷ pos 158655254 ∷ pos 158655254 ∷ pos 142393 ∷ pos 71197 ∷ []
unfolding as_listed ended_lines line_in line_length begins number_of all_digits value_of word_among is_id all_id_bytes field_at read_fields header_fields generator_fields controllable_fields load_fields resource_at resources_at stands_in same_bytes due_lines snapshot_in priced curves_in_range pairs_in_range sums_of part_of counted_online counted_offline plus prices_of value_of_reserve rounded shortage_online shortage_offline online_probability offline_probability normal upper interpolated knot group_of season_of block_of online_reserve total_reserve discounted twice_online twice_all twice_loads floor_div min_ℤ max_ℤ marked_in marks_of marks_turn_back suspect_place suspect_from unmarked_before
on_no_other = refl

pub priced_values_lem : AllHold priced_values
unfolding priced_values
priced_values_lem = rw (as_listed_lem, at_level_one_lem, below_minimum_lem, empty_hsl_lem, one_load_lem, short_load_lem, two_loads_lem, missing_lpc_lem, other_ids_lem, repeated_id_lem, on_its_group, on_no_other)
