-- Document 02, W-205: the length of a curve set's text before it is written. An impossible set is refused by 1.
use Rattle.text_refusal.specs.declared.refusal.Refusal.{Refusal}
use Rattle.std.specs.Prelude.{ℕ, cond, length, Result, Ok, Err}
use Rattle.curve_set.specs.Curves.{curves_in_range}
use Rattle.curve_set.specs.declared.CurveSet.{CurveSet}
use Rattle.curve_text.specs.CurveText.{curve_text}

-- as many bytes as the text has
unfoldable pub curves_length : CurveSet → Result ℕ Refusal
curves_length curves = cond (curves_in_range curves) (Ok (length (curve_text curves))) (Err (record { number = 1; line = 0 }))
