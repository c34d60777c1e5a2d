-- The known values of the normal table and of the probabilities hold, by computation.
use mathlib.Core.Path.{refl}
use Rattle.normal.specs.Knot.{knot}
use Rattle.normal.specs.Normal.{interpolated, upper, normal}
use Rattle.curve_probability.specs.Probability.{offline_probability}
use Rattle.known.specs.Statement.{AllHold}
use Rattle.known.specs.Probability.{table_values}

pub table_values_lem : AllHold table_values
unfolding table_values knot interpolated upper normal offline_probability
table_values_lem = refl
