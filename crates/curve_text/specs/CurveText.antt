-- Document 01, "History to curves": the curve text: `voll`, `floor` (X), then 24 pairs `mu`, `sigma`.
use Rattle.text_refusal.specs.declared.refusal.Fault.{Fault}
use Rattle.text_refusal.specs.declared.refusal.Refusal.{Refusal}
use Rattle.std.specs.Prelude.{ℕ, ◌≡◌, ◌&&◌, cond, List, [], ◌∷◌, leb, ltb, ℤ, length, Result, Ok, Err}
use Rattle.text_refusal.specs.Bytes.{bytes}
use Rattle.text_refusal.specs.Refusal.{refusal_of}
use Rattle.text_line.specs.Lines.{end_at}
use Rattle.text_line.specs.Field.{Field}
use Rattle.text_number.specs.Field.{number_field}
use Rattle.text_schema.specs.Schema.{Reading, read_fields, write_fields, repeated}
use Rattle.text_writer.specs.Write.{laid_at}
use Rattle.text_refusal.specs.Answer.{Answer, answer_of}
use Rattle.curve_set.specs.Curves.{Range, voll_range, floor_range, mean_range, spread_range, curves_in_range, refused_curves}
use Rattle.curve_set.specs.declared.CurveSet.{CurveSet}
use Rattle.curve_set.specs.CurveValues.{curve_values, curves_of}

-- a line that holds a number of a range
abbrev pub ranged_field : List ℕ → Range → Field ℤ
ranged_field key range = number_field key range.low range.high

-- the `voll` line, and the `floor` line (X)
abbrev pub voll_field : Field ℤ
voll_field = ranged_field (bytes "voll=") voll_range

abbrev pub floor_field : Field ℤ
floor_field = ranged_field (bytes "floor=") floor_range

-- the two lines of a group
abbrev pub pair_fields : List (Field ℤ)
pair_fields = ranged_field (bytes "mu=") mean_range ∷ ranged_field (bytes "sigma=") spread_range ∷ []

-- `voll`, `floor`, then 24 pairs `mu`, `sigma`
unfoldable pub curve_fields : List (Field ℤ)
curve_fields = voll_field ∷ floor_field ∷ repeated 24 pair_fields

-- ---- reading: 2 above 4096 bytes, the lines with 3 to 7, then 9

-- the lines of a curve text
abbrev pub curve_lines : List ℕ → Reading ℤ
curve_lines text = read_fields curve_fields text 0

-- where the lines end, or what was refused: a line, or bytes after the last one
abbrev pub end_of_lines : List ℕ → Result ℕ Fault → Result ℕ Fault
end_of_lines text (Err found) = Err found
end_of_lines text (Ok next) = end_at text next

-- the curve set of the values read, or the refusal
abbrev pub after_curves : List ℕ → List ℤ → Result ℕ Fault → Result CurveSet Refusal
after_curves text values (Err found) = Err (refusal_of text found)
after_curves text values (Ok stop) = Ok (curves_of values)

-- a curve text read
unfoldable pub read_curves : List ℕ → Result CurveSet Refusal
read_curves text =
    cond (ltb 4096 (length text))
    (refused_curves 2 0)
    (after_curves text (curve_lines text).values (end_of_lines text (curve_lines text).end))

-- ---- writing: 1, then 14; bytes after the text stay, and a refused write leaves the buffer

-- the text of a curve set
unfoldable pub curve_text : CurveSet → List ℕ
curve_text curves = write_fields curve_fields (curve_values curves)

-- how writing ends: the length of the text, or the refusal
unfoldable pub writing_curves : CurveSet → List ℕ → Result ℕ Refusal
writing_curves curves buffer =
    cond (curves_in_range curves)
    (cond (leb (length (curve_text curves)) (length buffer))
    (Ok (length (curve_text curves)))
    (Err (record { number = 14; line = 0 })))
    (Err (record { number = 1; line = 0 }))

-- the buffer after writing
unfoldable pub written_buffer : CurveSet → List ℕ → List ℕ
written_buffer curves buffer =
    cond (curves_in_range curves && leb (length (curve_text curves)) (length buffer)) (laid_at buffer 0 (curve_text curves)) buffer

-- what writing a curve set into a lent buffer gives
pub record CurvesWritten (curves : CurveSet) (buffer after : List ℕ) (ended : Result ℕ Refusal) : Type 0 where
  pub ends : ended ≡ writing_curves curves buffer
  pub bytes : after ≡ written_buffer curves buffer

-- document 01's number and line of how writing ended, and the value: the length of the text
abbrev pub writing_answer : Result ℕ Refusal → Answer
writing_answer ended = answer_of ended

abbrev pub written_length : Result ℕ Refusal → ℕ
written_length (Ok length) = length
written_length (Err found) = 0
