-- The effect of reading a curve text, of asking for the length of one, and of writing it. A curve set is 50 numbers: VOLL, X, then mean and spread of each of the
-- 24 groups in order.
use Rattle.std.specs.Prelude.{ℕ, ◌≡◌, List, [], ℤ, Result, Ok, Err}
use Rattle.text_refusal.specs.Answer.{answer_of}
use Rattle.text_refusal.specs.declared.refusal.Refusal.{Refusal}
use Rattle.curve_set.specs.declared.CurveSet.{CurveSet}
use Rattle.curve_set.specs.CurveValues.{curve_values, curves_of}
use Rattle.curve_text.specs.CurveText.{read_curves, writing_curves, written_buffer, writing_answer, written_length}
use Rattle.curve_text.specs.Length.{curves_length}
use Rattle.ordc.specs.Reply.{reply_to, Answered}
use Rattle.ordc.specs.declared.reply.Reply.{Reply}

-- the 50 numbers of a curve set that is given; a refusal gives none
abbrev pub values_given : Result CurveSet Refusal → List ℤ
values_given (Ok curves) = curve_values curves
values_given (Err found) = []

-- an accepted text lays its curve set; a refused one leaves the lent set
abbrev pub ReadCurvesCalled : List ℕ → List ℤ → List ℤ → Reply → Type 0
ReadCurvesCalled text before after r = Answered (reply_to (answer_of (read_curves text))) before (values_given (read_curves text)) after r

-- a set in range gives its text's length; another one leaves the length that is lent
abbrev pub CurvesLengthCalled : List ℤ → ℕ → ℕ → Reply → Type 0
CurvesLengthCalled values before after r =
    Answered (reply_to (writing_answer (curves_length (curves_of values)))) before (written_length (curves_length (curves_of values))) after r

-- an accepted set lays its text and gives the text's length; a refused one leaves the buffer and the length
pub record WriteCurvesCalled (values : List ℤ) (buffer : List ℕ) (before : ℕ) (buffer' : List ℕ) (after : ℕ) (r : Reply) : Type 0 where
  pub count : Answered (reply_to (writing_answer (writing_curves (curves_of values) buffer))) before (written_length (writing_curves (curves_of values) buffer)) after r
  pub bytes : buffer' ≡ written_buffer (curves_of values) buffer
