-- Every refusal on history and curves has one of the numbers 1 to 14; that of a curve text is at a line of the text or the one after its last.
use Prim.Native.Nat.{ℕ, ◌≤◌}
use native.Mathlib.Omega.{arith}
use mathlib.Core.List.{List}
use mathlib.Core.Path.{◌≡◌, subst}
use lib.IntN.{ℤ, pos, nat_abs}
use lib.ListN.{replicate}
use Rattle.std.specs.Prelude.{Result, Ok, Err}
use Rattle.text_refusal.specs.Answer.{Answer, answer_of}
use Rattle.text_refusal.specs.Refusal.{fault, refusal_of}
use Rattle.text_refusal.specs.declared.refusal.Fault.{Fault}
use Rattle.text_refusal.specs.declared.refusal.Refusal.{Refusal}
use Rattle.text_refusal.proofs.Refusals.{Listed, fault_listed}
use Rattle.text_line.proofs.FieldTexts.{OfLines}
use Rattle.text_schema.specs.Schema.{repeated, keys_of, number_fields}
use Rattle.text_schema.proofs.Fields.{FieldsNumbered, reading_numbered, numbers_numbered, placed_numbered, repeated_numbered}
use Rattle.curve_text.specs.CurveText.{curve_fields, read_curves, writing_curves, writing_answer}
use Rattle.curve_text.specs.Length.{curves_length}
use Rattle.curve_page.specs.Page.{writing_page}
use Rattle.curve_hour.specs.Hour.{hour_fields, run_fields, own_hour}
use Rattle.curve_hour.specs.declared.read.HourlyError.{HourlyError}
use Rattle.curve_settling.specs.Settle.{settled}
use Rattle.curve_booking.specs.Booking.{booked}
use Rattle.curve.specs.FirstRefusal.{
  hour_answer,
  HourCase,
  hour_too_long,
  hour_line_refused,
  run_line_refused,
  bytes_after_hour,
  hour_read,
  BookingCase,
  record_impossible,
  hour_is_refused,
  group_full,
  error_too_large,
  hour_booked,
  SettlingCase,
  unsettled_record,
  voll_outside,
  floor_outside,
  too_few_hours,
  no_spread,
  record_settled,
  ReadingCurvesCase,
  curves_too_long,
  curve_line_refused,
  bytes_after_curves,
  curves_read,
  Writing,
  WritingCurvesCase,
  set_impossible,
  buffer_short,
  text_written,
  CurvesLengthCase,
  length_impossible,
  length_known,
  PageWriting,
  WritingPageCase,
  page_impossible,
  page_buffer_short,
  page_written,
}
use Rattle.curve.proofs.FirstRefusal.{booking_is_refused_first, settling_is_refused_first, reading_curves_is_refused_first, writing_curves_is_refused_first, curves_length_is_refused_first, writing_pages_is_refused_first}
use Rattle.curve_hour.proofs.Runs.{run_keys, run_schema}
use Rattle.curve_hour.proofs.Hours.{hour_keys, hour_lows, hour_highs, hour_places}
use Rattle.curve_text.proofs.CurveText.{curve_keys, curve_lows, curve_highs, curve_schema}
use Rattle.curve_set.specs.declared.CurveSet.{CurveSet}
use Rattle.curve_record.specs.declared.Record.{Record}

abbrev pub AnswerNumbered : Answer → Type 0
AnswerNumbered (Ok accepted) = Unit
AnswerNumbered (Err found) = (1 ≤ found.number) × (found.number ≤ 14)

abbrev pub AnswerListed : List ℕ → Answer → Type 0
AnswerListed text (Ok accepted) = Unit
AnswerListed text (Err found) = Listed text found

of_lines : (text : List ℕ) (found : Fault) → OfLines found.number → Listed text (refusal_of text found)
of_lines text found n = fault_listed text found n.0 (let few = n.1 in omega arith)

-- ---- booking

hour_fields_lem : FieldsNumbered hour_fields
hour_fields_lem = subst FieldsNumbered hour_places (placed_numbered 13 (number_fields (keys_of hour_keys) hour_lows hour_highs) (numbers_numbered (keys_of hour_keys) hour_lows hour_highs))

run_fields_lem : FieldsNumbered run_fields
run_fields_lem = subst FieldsNumbered run_schema (numbers_numbered (keys_of run_keys) (replicate 9 (pos 0)) (replicate 9 (pos 100000000)))

abbrev HourNumbered : Result HourlyError Refusal → Type 0
HourNumbered (Ok hourly) = Unit
HourNumbered (Err found) = (1 ≤ found.number) × (found.number ≤ 9)

hour_numbered : (text : List ℕ) {found : Result HourlyError Refusal} → HourCase text found → HourNumbered found
hour_numbered text (hour_too_long long) = (omega arith, omega arith)
hour_numbered text (hour_line_refused short found e) = rw e at (reading_numbered hour_fields hour_fields_lem text 0)
hour_numbered text (run_line_refused short at own found e) =
    let runs = nat_abs (own_hour text).runs in
    rw e at (reading_numbered (repeated runs run_fields) (repeated_numbered runs run_fields run_fields_lem) text at)
hour_numbered text (bytes_after_hour short at own next runs more) = (omega arith, omega arith)
hour_numbered text (hour_read short at own next runs over) = tt

pub booked_numbered : (history : Record) (text : List ℕ) → AnswerNumbered (answer_of (booked history text))
booked_numbered history text = go (booking_is_refused_first history text).applies
  where
    by_answer : (hour : Result HourlyError Refusal) → HourNumbered hour → {found : Refusal} → hour_answer hour ≡ Err found → (1 ≤ found.number) × (found.number ≤ 14)
    by_answer (Err other) n {found} e =
        let same : other ≡ found = cc in
        let n : (1 ≤ found.number) × (found.number ≤ 9) = rw same at n in
        (n.0, (let few = n.1 in omega arith))
    by_answer (Ok hourly) n {found} e = let z : ◌≡◌ {A = ℕ} 0 1 = cc in absurd (omega arith)

    go : {booking : Result Record Refusal} → BookingCase history text booking → AnswerNumbered (answer_of booking)
    go (record_impossible p) = (omega arith, omega arith)
    go (hour_is_refused p hour reading found e) = by_answer hour (hour_numbered text reading) e
    go (group_full p hourly reading full) = (omega arith, omega arith)
    go (error_too_large p hourly reading room far) = (omega arith, omega arith)
    go (hour_booked p hourly reading room near) = tt

-- ---- settling

pub settled_numbered : (history : Record) (voll floor : ℤ) → AnswerNumbered (answer_of (settled history voll floor))
settled_numbered history voll floor = go (settling_is_refused_first history voll floor).applies
  where
    go : {curves : Result CurveSet Refusal} → SettlingCase history voll floor curves → AnswerNumbered (answer_of curves)
    go (unsettled_record p) = (omega arith, omega arith)
    go (voll_outside p v) = (omega arith, omega arith)
    go (floor_outside p v f) = (omega arith, omega arith)
    go (too_few_hours p v f g below earlier few) = (omega arith, omega arith)
    go (no_spread p v f g below earlier enough flat) = (omega arith, omega arith)
    go (record_settled p v f fine) = tt

-- ---- curve texts

curve_fields_lem : FieldsNumbered curve_fields
curve_fields_lem = subst FieldsNumbered curve_schema (numbers_numbered (keys_of curve_keys) curve_lows curve_highs)

pub curves_listed : (text : List ℕ) → AnswerListed text (answer_of (read_curves text))
curves_listed text = go (reading_curves_is_refused_first text).applies
  where
    go : {curves : Result CurveSet Refusal} → ReadingCurvesCase text curves → AnswerListed text (answer_of curves)
    go (curves_too_long long) = record { least = omega arith; most = omega arith; line = omega arith }
    go (curve_line_refused short found e) = of_lines text found (rw e at (reading_numbered curve_fields curve_fields_lem text 0))
    go (bytes_after_curves short next e more) = fault_listed text (fault 9 next) (omega arith) (omega arith)
    go (curves_read short next e over) = tt

pub writing_numbered : (curves : CurveSet) (buffer : List ℕ) → AnswerNumbered (writing_answer (writing_curves curves buffer))
writing_numbered curves buffer = go (writing_curves_is_refused_first curves buffer).applies
  where
    go : {written : Writing} → WritingCurvesCase curves buffer written → AnswerNumbered written.answer
    go (set_impossible out) = (omega arith, omega arith)
    go (buffer_short inside short) = (omega arith, omega arith)
    go (text_written inside room) = tt

pub length_numbered : (curves : CurveSet) → AnswerNumbered (writing_answer (curves_length curves))
length_numbered curves = go (curves_length_is_refused_first curves).applies
  where
    go : {found : Result ℕ Refusal} → CurvesLengthCase curves found → AnswerNumbered (writing_answer found)
    go (length_impossible out) = (omega arith, omega arith)
    go (length_known inside) = tt

-- ---- pages

pub page_numbered : (curves : CurveSet) (buffer : List ℕ) → AnswerNumbered (writing_page curves buffer)
page_numbered curves buffer = go (writing_pages_is_refused_first curves buffer).applies
  where
    go : {written : PageWriting} → WritingPageCase curves buffer written → AnswerNumbered written.answer
    go (page_impossible out) = (omega arith, omega arith)
    go (page_buffer_short inside short) = (omega arith, omega arith)
    go (page_written inside room) = tt
