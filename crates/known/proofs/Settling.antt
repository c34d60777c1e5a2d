-- The known values of settling hold, by computation.
use mathlib.Core.Path.{refl}
use Rattle.integer.specs.Floor.{floor_div}
use Rattle.integer.specs.Quadratic.{quadratic}
use Rattle.root.specs.Root.{raised, root_in, root_of}
use Rattle.curve_set.specs.CurveValues.{pair_values}
use Rattle.known.specs.Statement.{AllHold}
use Rattle.curve_booking.specs.Booking.{with_error}
use Rattle.curve_record.specs.Possible.{mean_of, squares_around, possible, all_possible, record_possible}
use Rattle.curve_record.specs.Record.{group_at, groups_from}
use Rattle.curve_settling.specs.Settle.{spread_of, pair_of, settled_groups, settled}
use Rattle.known.specs.Settling.{settled_values}

pub settled_values_lem : AllHold settled_values
unfolding settled_values floor_div quadratic raised root_in root_of with_error mean_of squares_around possible group_at groups_from record_possible all_possible spread_of pair_of settled_groups settled pair_values
settled_values_lem = refl
