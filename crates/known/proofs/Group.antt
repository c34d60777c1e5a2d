-- The known groups hold, by computation.
use mathlib.Core.Path.{refl}
use Rattle.integer.specs.Floor.{floor_div}
use Rattle.integer.specs.Quadratic.{quadratic}
use Rattle.text_line.specs.Line.{line_in, line_length, begins}
use Rattle.text_number.specs.Number.{number_of, all_digits, value_of}
use Rattle.text_line.specs.Field.{field_at}
use Rattle.text_schema.specs.Schema.{read_fields, repeated}
use Rattle.curve_group.specs.Season.{season_of, block_of, group_of}
use Rattle.curve_hour.specs.Hour.{hour_fields, run_fields, runs_of, hour_in, hour_ahead, sced_reserve, sced_sum, error_of}
use Rattle.curve_record.specs.Record.{fresh, group_at, with_group, groups_from}
use Rattle.curve_record.specs.Possible.{record_possible, all_possible, possible, mean_of, squares_around}
use Rattle.curve_booking.specs.Booking.{book_error, with_error, booked}
use Rattle.known.specs.Statement.{AllHold}
use Rattle.known.specs.Group.{july_hour, group_values}

pub group_values_lem : AllHold group_values
unfolding group_values july_hour floor_div quadratic line_in line_length begins number_of all_digits value_of field_at read_fields repeated season_of block_of group_of hour_fields run_fields runs_of hour_in hour_ahead sced_reserve sced_sum error_of fresh group_at with_group groups_from record_possible all_possible possible mean_of squares_around book_error with_error booked
group_values_lem = refl
