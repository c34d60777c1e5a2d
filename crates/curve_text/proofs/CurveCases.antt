-- What reading and writing a curve text give, case by case.
use Prim.Native.Nat.{ℕ, ◌≤◌, ◌<◌}
use mathlib.Core.Bool.{true, false}
use mathlib.Core.List.{List}
use mathlib.Core.Path.{◌≡◌, refl}
use lib.ListN.{length}
use borrow.Author.Tests.{lt-ltb, le-ltb, le-leb, lt-leb}
use Rattle.std.specs.Prelude.{Ok, Err}
use Rattle.text_refusal.specs.Refusal.{line_of, refusal_of}
use Rattle.text_refusal.specs.declared.refusal.Fault.{Fault}
use Rattle.text_schema.specs.Schema.{read_fields, write_fields}
use Rattle.text_writer.specs.Write.{laid_at}
use Rattle.curve_set.specs.Curves.{curves_in_range, refused_curves}
use Rattle.curve_set.specs.CurveValues.{curve_values, curves_of}
use Rattle.curve_set.specs.declared.CurveSet.{CurveSet}
use Rattle.curve_text.specs.CurveText.{curve_fields, read_curves, curve_text, writing_curves, written_buffer}

-- ---- reading

module _ (text : List ℕ) where
  pub text_too_long : 4096 < length text → read_curves text ≡ refused_curves 2 0
  unfolding read_curves
  text_too_long long = rw (lt-ltb 4096 (length text) long)

  module _ (short : length text ≤ 4096) where
    pub text_line_refused : (found : Fault) → (read_fields curve_fields text 0).end ≡ Err found → read_curves text ≡ Err (refusal_of text found)
    unfolding read_curves
    text_line_refused found e = rw (le-ltb 4096 (length text) short, e)

    module _ (next : ℕ) (e : (read_fields curve_fields text 0).end ≡ Ok next) where
      pub text_bytes_follow : next < length text → read_curves text ≡ refused_curves 9 (line_of text next)
      unfolding read_curves
      text_bytes_follow more = rw (le-ltb 4096 (length text) short, e, lt-ltb next (length text) more)

      pub text_read : length text ≤ next → read_curves text ≡ Ok (curves_of (read_fields curve_fields text 0).values)
      unfolding read_curves
      text_read over = rw (le-ltb 4096 (length text) short, e, le-ltb next (length text) over)

-- ---- writing

pub text_of_values : (curves : CurveSet) → curve_text curves ≡ write_fields curve_fields (curve_values curves)
unfolding curve_text
text_of_values curves = refl

module _ (curves : CurveSet) (buffer : List ℕ) where
  module _ (out : curves_in_range curves ≡ false) where
    pub impossible_refused : writing_curves curves buffer ≡ Err (record { number = 1; line = 0 })
    unfolding writing_curves
    impossible_refused = rw out

    pub impossible_stays : written_buffer curves buffer ≡ buffer
    unfolding written_buffer
    impossible_stays = rw out

  module _ (inside : curves_in_range curves ≡ true) where
    module _ (short : length buffer < length (curve_text curves)) where
      pub short_refused : writing_curves curves buffer ≡ Err (record { number = 14; line = 0 })
      unfolding writing_curves
      short_refused = rw (inside, lt-leb (length (curve_text curves)) (length buffer) short)

      pub short_stays : written_buffer curves buffer ≡ buffer
      unfolding written_buffer
      short_stays = rw (inside, lt-leb (length (curve_text curves)) (length buffer) short)

    module _ (room : length (curve_text curves) ≤ length buffer) where
      pub text_written : writing_curves curves buffer ≡ Ok (length (curve_text curves))
      unfolding writing_curves
      text_written = rw (inside, le-leb (length (curve_text curves)) (length buffer) room)

      pub text_laid : written_buffer curves buffer ≡ laid_at buffer 0 (curve_text curves)
      unfolding written_buffer
      text_laid = rw (inside, le-leb (length (curve_text curves)) (length buffer) room)
