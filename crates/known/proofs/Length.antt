-- The known lengths of curve texts hold, by computation.
use mathlib.Core.Path.{refl}
use Rattle.text_number.specs.Number.{digits_within, written_number}
use Rattle.text_schema.specs.Schema.{write_fields, repeated}
use Rattle.curve_set.specs.Curves.{pairs_in_range, curves_in_range}
use Rattle.curve_set.specs.CurveValues.{pair_values, curve_values}
use Rattle.curve_text.specs.CurveText.{curve_fields, curve_text}
use Rattle.curve_text.specs.Length.{curves_length}
use Rattle.known.specs.Statement.{AllHold}
use Rattle.known.specs.Length.{length_values}

pub length_values_lem : AllHold length_values
unfolding length_values curves_length curve_text curve_fields curves_in_range pairs_in_range curve_values pair_values write_fields repeated written_number digits_within
length_values_lem = refl
