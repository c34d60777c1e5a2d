-- Document 01, "Turned back, in checking order", and document 02, W-201 and W-205, for the operations on history and curves (demand 1). For each operation a list of
-- cases in checking order: each case says when it applies, which rules out every case above it, and what the operation then answers. The last case of each list is
-- acceptance. An operation's answer is decided by its list: one of the cases applies, so that nothing else is refused, and any case that applies gives that answer.
use Rattle.std.specs.Prelude.{ℕ, ◌≤◌, ◌<◌, true, false, List, map, ◌≡◌, ℤ, nat_abs, length, Result, Ok, Err}
use Rattle.text_refusal.specs.Refusal.{line_of}
use Rattle.text_refusal.specs.declared.refusal.Fault.{Fault}
use Rattle.text_refusal.specs.declared.refusal.Refusal.{Refusal}
use Rattle.text_writer.specs.Write.{laid_at}
use Rattle.text_refusal.specs.Answer.{Answer, refusal, answer_of}
use Rattle.curve_set.specs.Curves.{voll_in_range, floor_in_range, curves_in_range, refused_curves}
use Rattle.curve_set.specs.CurveValues.{curves_of}
use Rattle.curve_set.specs.declared.CurveSet.{CurveSet}
use Rattle.curve_text.specs.CurveText.{curve_lines, curve_text}
use Rattle.curve_page.specs.Page.{page_of}
use Rattle.curve_hour.specs.Hour.{hour_group, error_of, own_lines, own_hour, run_lines, own_runs}
use Rattle.curve_hour.specs.declared.read.HourlyError.{HourlyError}
use Rattle.curve_record.specs.Record.{group_at, with_group, all_groups}
use Rattle.curve_record.specs.Possible.{record_possible}
use Rattle.curve_record.specs.declared.Record.{Record}
use Rattle.curve_booking.specs.Booking.{with_error, kept}
use Rattle.curve_settling.specs.Settle.{spread_of, pair_of, Faultless}

-- a list of cases decides an answer: one of them applies and gives it, and none that applies gives another
pub record Decides {A : Type 0} (Case : A → Type 0) (given : A) : Type 0 where
  pub applies : Case given
  pub only : (other : A) → Case other → other ≡ given

-- ---- reading an hour's text: 2, the first faulty line with 3 to 7, 9

-- document 01's number and line of the hour reader's answer; the values of an accepted hour are its group and its error
abbrev pub hour_answer : Result HourlyError Refusal → Answer
hour_answer given = answer_of given

-- an hour refused by a number, at a line
abbrev pub hour_refused : ℕ → ℕ → Result HourlyError Refusal
hour_refused number line = Err (record { number = number; line = line })

pub data HourCase (text : List ℕ) : Result HourlyError Refusal → Type 0 where
  -- 2: the text exceeds 65536 bytes
  hour_too_long : 65536 < length text → HourCase text (hour_refused 2 0)
  -- 3 to 7: a line of the hour itself, the first faulty one
  hour_line_refused :
      length text ≤ 65536 → (found : Fault) → (own_lines text).end ≡ Err found → HourCase text (hour_refused found.number (line_of text found.at))
  -- 3 to 7: a line of a run, the first faulty one, the runs starting where the hour's own lines end
  run_line_refused :
      length text ≤ 65536 → (at : ℕ) → (own_lines text).end ≡ Ok at → (found : Fault) → (run_lines text at).end ≡ Err found →
      HourCase text (hour_refused found.number (line_of text found.at))
  -- 9: bytes follow the last due line
  bytes_after_hour :
      length text ≤ 65536 → (at : ℕ) → (own_lines text).end ≡ Ok at → (next : ℕ) → (run_lines text at).end ≡ Ok next → next < length text →
      HourCase text (hour_refused 9 (line_of text next))
  -- accepted: the group and the error of the hour
  hour_read :
      length text ≤ 65536 → (at : ℕ) → (own_lines text).end ≡ Ok at → (next : ℕ) → (run_lines text at).end ≡ Ok next → length text ≤ next →
      HourCase text (Ok (record { group = hour_group (own_hour text); error = error_of (own_hour text) (own_runs text at) }))

-- ---- booking an hour: 1, then what its text is refused by, 10, 11; a refused hour gives no record, and so leaves the one from before

pub data BookingCase (history : Record) (text : List ℕ) : Result Record Refusal → Type 0 where
  -- 1: the record is impossible
  record_impossible : record_possible history ≡ false → BookingCase history text (kept 1 0)
  -- 2, 3 to 7, 9: the hour's text is refused
  hour_is_refused :
      record_possible history ≡ true → (hour : Result HourlyError Refusal) → HourCase text hour → (found : Refusal) → hour_answer hour ≡ Err found →
      BookingCase history text (kept found.number found.line)
  -- 10: the hour's group already has 1000 hours
  group_full :
      record_possible history ≡ true → (hourly : HourlyError) → HourCase text (Ok hourly) → 1000 ≤ (group_at history hourly.group).count →
      BookingCase history text (kept 10 0)
  -- 11: the error lies beyond ±20000000
  error_too_large :
      record_possible history ≡ true → (hourly : HourlyError) → HourCase text (Ok hourly) → (group_at history hourly.group).count < 1000 →
      20000000 < nat_abs hourly.error → BookingCase history text (kept 11 0)
  -- accepted: the record with one error more in the hour's group, and no other change
  hour_booked :
      record_possible history ≡ true → (hourly : HourlyError) → HourCase text (Ok hourly) → (group_at history hourly.group).count < 1000 →
      nat_abs hourly.error ≤ 20000000 →
      BookingCase history text (Ok (with_group history hourly.group (with_error (group_at history hourly.group) hourly.error)))

-- ---- settling: 1, 7 for VOLL, 7 for X, then the first faulty group, within it 12 before 13; refused curves are no curves

pub data SettlingCase (history : Record) (voll floor : ℤ) : Result CurveSet Refusal → Type 0 where
  -- 1: the record is impossible
  unsettled_record : record_possible history ≡ false → SettlingCase history voll floor (refused_curves 1 0)
  -- 7: VOLL is outside its range
  voll_outside : record_possible history ≡ true → voll_in_range voll ≡ false → SettlingCase history voll floor (refused_curves 7 0)
  -- 7: X is outside its range
  floor_outside :
      record_possible history ≡ true → voll_in_range voll ≡ true → floor_in_range floor ≡ false → SettlingCase history voll floor (refused_curves 7 0)
  -- 12: the first faulty group has fewer than 2 hours
  too_few_hours :
      record_possible history ≡ true → voll_in_range voll ≡ true → floor_in_range floor ≡ true → (g : ℕ) → g < 24 →
      ((earlier : ℕ) → earlier < g → Faultless (group_at history earlier)) → (group_at history g).count < 2 →
      SettlingCase history voll floor (refused_curves 12 g)
  -- 13: the first faulty group has sigma 0
  no_spread :
      record_possible history ≡ true → voll_in_range voll ≡ true → floor_in_range floor ≡ true → (g : ℕ) → g < 24 →
      ((earlier : ℕ) → earlier < g → Faultless (group_at history earlier)) → 2 ≤ (group_at history g).count → spread_of (group_at history g) ≡ 0 →
      SettlingCase history voll floor (refused_curves 13 g)
  -- accepted: VOLL, X, and mu and sigma of each of the twenty-four groups
  record_settled :
      record_possible history ≡ true → voll_in_range voll ≡ true → floor_in_range floor ≡ true → ((g : ℕ) → g < 24 → Faultless (group_at history g)) →
      SettlingCase history voll floor
      (Ok (record { voll = voll; floor = floor; pairs = map pair_of (all_groups history) }))

-- ---- reading a curve text: 2, the first faulty line with 3 to 7, 9; refused curves are no curves

pub data ReadingCurvesCase (text : List ℕ) : Result CurveSet Refusal → Type 0 where
  -- 2: the text exceeds 4096 bytes
  curves_too_long : 4096 < length text → ReadingCurvesCase text (refused_curves 2 0)
  -- 3 to 7: the first faulty line
  curve_line_refused :
      length text ≤ 4096 → (found : Fault) → (curve_lines text).end ≡ Err found →
      ReadingCurvesCase text (refused_curves found.number (line_of text found.at))
  -- 9: bytes follow the last due line
  bytes_after_curves :
      length text ≤ 4096 → (next : ℕ) → (curve_lines text).end ≡ Ok next → next < length text →
      ReadingCurvesCase text (refused_curves 9 (line_of text next))
  -- accepted: the curve set of the values read
  curves_read :
      length text ≤ 4096 → (next : ℕ) → (curve_lines text).end ≡ Ok next → length text ≤ next →
      ReadingCurvesCase text (Ok (curves_of (curve_lines text).values))

-- ---- writing a curve text: 1, then 14; a refused write leaves the buffer

-- what a call gives: the answer, the length of the text (0 where refused), and the buffer after the call
pub record Writing : Type 0 where
  pub answer : Answer
  pub length : ℕ
  pub buffer : List ℕ

pub data WritingCurvesCase (curves : CurveSet) (buffer : List ℕ) : Writing → Type 0 where
  -- 1: a curve value is out of range
  set_impossible : curves_in_range curves ≡ false → WritingCurvesCase curves buffer (record { answer = refusal 1 0; length = 0; buffer = buffer })
  -- 14: the buffer is shorter than the curve text
  buffer_short :
      curves_in_range curves ≡ true → length buffer < length (curve_text curves) →
      WritingCurvesCase curves buffer (record { answer = refusal 14 0; length = 0; buffer = buffer })
  -- accepted: the text in place of the buffer's first bytes; bytes after it stay
  text_written :
      curves_in_range curves ≡ true → length (curve_text curves) ≤ length buffer →
      WritingCurvesCase curves buffer
      (record { answer = Ok tt; length = length (curve_text curves); buffer = laid_at buffer 0 (curve_text curves) })

-- ---- the length of a curve text before it is written: 1

pub data CurvesLengthCase (curves : CurveSet) : Result ℕ Refusal → Type 0 where
  -- 1: a curve value is out of range
  length_impossible : curves_in_range curves ≡ false → CurvesLengthCase curves (Err (record { number = 1; line = 0 }))
  -- accepted: as many bytes as the text has
  length_known : curves_in_range curves ≡ true → CurvesLengthCase curves (Ok (length (curve_text curves)))

-- ---- writing a page: 1, then 14; a refused write leaves the buffer

-- what a call gives: the answer, and the buffer after the call
pub record PageWriting : Type 0 where
  pub answer : Answer
  pub buffer : List ℕ

pub data WritingPageCase (curves : CurveSet) (buffer : List ℕ) : PageWriting → Type 0 where
  -- 1: a curve value is out of range
  page_impossible : curves_in_range curves ≡ false → WritingPageCase curves buffer (record { answer = refusal 1 0; buffer = buffer })
  -- 14: the buffer is shorter than the page
  page_buffer_short :
      curves_in_range curves ≡ true → length buffer < 1728 → WritingPageCase curves buffer (record { answer = refusal 14 0; buffer = buffer })
  -- accepted: the page in place of the buffer's first bytes; bytes after it stay
  page_written :
      curves_in_range curves ≡ true → 1728 ≤ length buffer →
      WritingPageCase curves buffer (record { answer = Ok tt; buffer = laid_at buffer 0 (page_of curves) })
