-- Named statements over what hosts call: the layouts, demand 1 with the number by which hosts know a refusal, the length of a curve text (document 02, W-205), and
-- demand 3.
use Rattle.text_refusal.specs.Answer.{Answer, answer_of}
use Rattle.std.specs.Prelude.{ℕ, ◌≤◌, ◌<◌, true, false, List, ◌≡◌, eqb, ℤ, pos, length, take, drop, ◌≤ℤ◌, Result, Ok, Err}
use Rattle.text_refusal.specs.declared.refusal.Refusal.{Refusal}
use Rattle.text_schema.specs.Schema.{laid_over}
use Rattle.text_writer.specs.Write.{laid_at}
use Rattle.curve_set.specs.CurveValues.{curve_values, curves_of}
use Rattle.curve_set.specs.declared.CurveSet.{CurveSet}
use Rattle.curve_text.specs.CurveText.{read_curves, curve_text, writing_curves, writing_answer, written_length, written_buffer}
use Rattle.curve_text.specs.Length.{curves_length}
use Rattle.curve_page.specs.Page.{writing_page, page_buffer}
use Rattle.curve_record.specs.Possible.{record_possible}
use Rattle.curve_record.specs.declared.Record.{Record}
use Rattle.curve_settling.specs.Settle.{settled}
use Rattle.curve_booking.specs.Booking.{booked, record_after}
use Rattle.pricing_sums.specs.declared.header.Header.{Header}
use Rattle.pricing_snapshot.specs.Snapshot.{Entry, read, snapshot_in}
use Rattle.pricing_held.specs.Lines.{held_answer, held_text}
use Rattle.pricing_held_reading.specs.Reading.{id_rows, number_rows, reading_held, header_read, entries_read}
use Rattle.pricing_held_text.specs.Writing.{writing_held}
use Rattle.pricing_adder.specs.Price.{value_of_reserve, pricing_values}
use Rattle.pricing_adder.specs.Price.{Pricing}
use Rattle.pricing.specs.Pricing.{priced}
use Rattle.pricing.specs.Promises.{SnapshotRaised}
use Rattle.ordc.specs.Record.{record_of, record_values, BookCalled, SettleCalled}
use Rattle.ordc.specs.CurveText.{values_given, ReadCurvesCalled, CurvesLengthCalled, WriteCurvesCalled}
use Rattle.ordc.specs.Page.{WritePageCalled}
use Rattle.ordc.specs.Price.{pricing_answer, PriceCalled, online_price, offline_price}
use Rattle.ordc.specs.Snapshot.{ReadSnapshotCalled, SnapshotLengthCalled, WriteSnapshotCalled}
use Rattle.ordc.specs.Calls.{Accepted, HistoryPriced, BookCallsLowered}
use Rattle.ordc.specs.declared.reply.Reply.{Reply}

-- ---- the layouts

-- a record's numbers give the record back, so that calls one after another book as the bookings themselves do
abbrev pub RecordIsReadBack : Type 0
RecordIsReadBack = (history : Record) → length history.groups ≡ 24 → record_of (record_values history) ≡ history

-- 72 numbers are those of the record that they stand for, unless it is impossible (1)
abbrev pub RecordIsWrittenBack : Type 0
RecordIsWrittenBack = (values : List ℤ) → length values ≡ 72 → record_possible (record_of values) ≡ true → record_values (record_of values) ≡ values

-- a curve set's numbers give the curve set back
abbrev pub CurveSetIsReadBack : Type 0
CurveSetIsReadBack = (curves : CurveSet) → length curves.pairs ≡ 24 → curves_of (curve_values curves) ≡ curves

-- any 50 numbers are those of the curve set that they stand for
abbrev pub CurveSetIsWrittenBack : Type 0
CurveSetIsWrittenBack = (values : List ℤ) → length values ≡ 50 → curve_values (curves_of values) ≡ values

-- ---- demand 1 over the calls

-- a refusal has a number other than 0
abbrev pub Numbered : Answer → Type 0
Numbered (Ok accepted) = Unit
Numbered (Err found) = eqb found.number 0 ≡ false

-- number 0 means accepted, whatever is called with whatever is lent
pub record RefusalsAreNumbered : Type 0 where
  pub booking : (history : Record) (text : List ℕ) → Numbered (answer_of (booked history text))
  pub settling : (history : Record) (voll floor : ℤ) → Numbered (answer_of (settled history voll floor))
  pub reading : (text : List ℕ) → Numbered (answer_of (read_curves text))
  pub measuring_curves : (curves : CurveSet) → Numbered (writing_answer (curves_length curves))
  pub writing : (curves : CurveSet) (buffer : List ℕ) → Numbered (writing_answer (writing_curves curves buffer))
  pub page : (curves : CurveSet) (buffer : List ℕ) → Numbered (writing_page curves buffer)
  pub pricing : (curves : CurveSet) (text : List ℕ) → Numbered (pricing_answer (priced curves text))
  pub reading_snapshot : (text ids : List ℕ) (numbers : List ℤ) → Numbered (reading_held text ids numbers)
  pub snapshot_length : (header : List ℤ) (ids : List ℕ) (numbers : List ℤ) → Numbered (held_answer header ids numbers)
  pub writing_snapshot : (header : List ℤ) (ids : List ℕ) (numbers : List ℤ) (buffer : List ℕ) → Numbered (writing_held header ids numbers buffer)

-- how a call ends, by the answer of the operation that it calls: the refusal first in document 01's order, or none; nothing else is refused
pub record CallEnds {A : Type 0} (ended : Answer) (before given after : A) (r : Reply) : Type 0 where
  -- an accepted call has number 0 and line 0, and what is lent is what the operation gives
  pub accepted : ended ≡ Ok tt → (r ≡ record { number = 0; line = 0 }) × (after ≡ given)
  -- a refused one has the refusal's number and line, and what is lent stands as before
  pub refused : (found : Refusal) → ended ≡ Err found → (r ≡ record { number = found.number; line = found.line }) × (after ≡ before)
  -- number 0 means accepted
  pub numbered : Accepted r → ended ≡ Ok tt

-- `ordc_book` is refused as the booking is, and then leaves the record
abbrev pub BookCallIsRefusedFirst : Type 0
BookCallIsRefusedFirst =
    (before after : List ℤ) (text : List ℕ) (r : Reply) → BookCalled before text after r →
    let booking : Result Record Refusal = booked (record_of before) text in
    CallEnds (answer_of booking) before (record_values (record_after (record_of before) booking)) after r

-- `ordc_settle` is refused as the settling is, and then leaves the curve set
abbrev pub SettleCallIsRefusedFirst : Type 0
SettleCallIsRefusedFirst =
    (history before after : List ℤ) (voll floor : ℤ) (r : Reply) → SettleCalled history voll floor before after r →
    let curves : Result CurveSet Refusal = settled (record_of history) voll floor in
    CallEnds (answer_of curves) before (values_given curves) after r

-- `ordc_read_curves` is refused as the reading is, and then leaves the curve set
abbrev pub ReadCurvesCallIsRefusedFirst : Type 0
ReadCurvesCallIsRefusedFirst =
    (before after : List ℤ) (text : List ℕ) (r : Reply) → ReadCurvesCalled text before after r →
    CallEnds (answer_of (read_curves text)) before (values_given (read_curves text)) after r

-- `ordc_curves_length` is refused as the length is, and then leaves the length that is lent
abbrev pub CurvesLengthCallIsRefusedFirst : Type 0
CurvesLengthCallIsRefusedFirst =
    (values : List ℤ) (before after : ℕ) (r : Reply) → CurvesLengthCalled values before after r →
    let ended : Result ℕ Refusal = curves_length (curves_of values) in
    CallEnds (writing_answer ended) before (written_length ended) after r

-- `ordc_write_curves` is refused as the writing is, and then leaves the length and the buffer
abbrev pub WriteCurvesCallIsRefusedFirst : Type 0
WriteCurvesCallIsRefusedFirst =
    (values : List ℤ) (buffer buffer' : List ℕ) (before after : ℕ) (r : Reply) → WriteCurvesCalled values buffer before buffer' after r →
    let ended : Result ℕ Refusal = writing_curves (curves_of values) buffer in
    CallEnds (writing_answer ended) before (written_length ended) after r
    × CallEnds (writing_answer ended) buffer (written_buffer (curves_of values) buffer) buffer' r

-- `ordc_write_page` is refused as the writing of the page is, and then leaves the buffer
abbrev pub WritePageCallIsRefusedFirst : Type 0
WritePageCallIsRefusedFirst =
    (values : List ℤ) (before after : List ℕ) (r : Reply) → WritePageCalled values before after r →
    CallEnds (writing_page (curves_of values) before) before (page_buffer (curves_of values) before) after r

-- `ordc_price` is refused as the pricing is, and then leaves the answer
abbrev pub PriceCallIsRefusedFirst : Type 0
PriceCallIsRefusedFirst =
    (curves before after : List ℤ) (text : List ℕ) (r : Reply) → PriceCalled curves text before after r →
    let pricing : Pricing = priced (curves_of curves) text in
    CallEnds (pricing_answer pricing) before (pricing_values pricing) after r

-- `ordc_read_snapshot` is refused as the reading is, and then leaves header, ids and numbers
abbrev pub ReadSnapshotCallIsRefusedFirst : Type 0
ReadSnapshotCallIsRefusedFirst =
    (text : List ℕ) (header : List ℤ) (ids : List ℕ) (numbers header' : List ℤ) (ids' : List ℕ) (numbers' : List ℤ) (r : Reply) →
    ReadSnapshotCalled text header ids numbers header' ids' numbers' r →
    CallEnds (reading_held text ids numbers) header (header_read (snapshot_in text)) header' r
    × CallEnds (reading_held text ids numbers) ids (laid_over (id_rows (entries_read (snapshot_in text))) ids) ids' r
    × CallEnds (reading_held text ids numbers) numbers (laid_over (number_rows (entries_read (snapshot_in text))) numbers) numbers' r

-- `ordc_snapshot_length` is refused as the first refused line is, and then leaves the length
abbrev pub SnapshotLengthCallIsRefusedFirst : Type 0
SnapshotLengthCallIsRefusedFirst =
    (header : List ℤ) (ids : List ℕ) (numbers : List ℤ) (before after : ℕ) (r : Reply) → SnapshotLengthCalled header ids numbers before after r →
    CallEnds (held_answer header ids numbers) before (length (held_text header ids numbers)) after r

-- `ordc_write_snapshot` is refused as the writing is, and then leaves the length and the buffer
abbrev pub WriteSnapshotCallIsRefusedFirst : Type 0
WriteSnapshotCallIsRefusedFirst =
    (header : List ℤ) (ids : List ℕ) (numbers : List ℤ) (buffer buffer' : List ℕ) (before after : ℕ) (r : Reply) →
    WriteSnapshotCalled header ids numbers buffer before buffer' after r →
    CallEnds (writing_held header ids numbers buffer) before (length (held_text header ids numbers)) after r
    × CallEnds (writing_held header ids numbers buffer) buffer (laid_at buffer 0 (held_text header ids numbers)) buffer' r

-- ---- the length of a curve text, over the calls

-- what `ordc_curves_length` told is what `ordc_write_curves` takes: a buffer of just that length is accepted, and so is a longer one, of which bytes after the text
-- stay; a shorter one is refused by 14, and buffer and length stand
abbrev pub WriteCurvesCallTakesTheToldLength : Type 0
WriteCurvesCallTakesTheToldLength =
    (values : List ℤ) (lent told : ℕ) (asked : Reply) → CurvesLengthCalled values lent told asked → Accepted asked →
    (buffer buffer' : List ℕ) (before after : ℕ) (r : Reply) → WriteCurvesCalled values buffer before buffer' after r →
    (told ≤ length buffer →
    Accepted r × (after ≡ told) × (take told buffer' ≡ curve_text (curves_of values)) × (drop told buffer' ≡ drop told buffer))
    × (length buffer < told → (r ≡ record { number = 14; line = 0 }) × (after ≡ before) × (buffer' ≡ buffer))

-- a length that is told is at least 327 and at most 700
abbrev pub ToldLengthsAreBounded : Type 0
ToldLengthsAreBounded = (values : List ℤ) (lent told : ℕ) (asked : Reply) → CurvesLengthCalled values lent told asked → Accepted asked → (327 ≤ told) × (told ≤ 700)

-- ---- demand 3 over the calls

-- neither price of the second answer is above that of the first
abbrev pub NeitherAnswerRises : List ℤ → List ℤ → Type 0
NeitherAnswerRises answer answer' = (online_price answer' ≤ℤ online_price answer) × (offline_price answer' ≤ℤ offline_price answer)

-- two runs of calls, each booking a list of hours from 72 zeros on, settling, and pricing a snapshot: every hour-ahead reserve lower by the same d, VOLL and X equal,
-- the snapshot raised, both settlings and both pricings accepted
abbrev pub RaisedReserveNeverRaisesAnswers : Type 0
RaisedReserveNeverRaisesAnswers =
    (d : ℕ) (texts texts' : List (List ℕ)) (replies replies' : List Reply) (voll floor : ℤ) (snapshot snapshot' : List ℕ) (answer answer' : List ℤ) →
    HistoryPriced texts replies voll floor snapshot answer →
    HistoryPriced texts' replies' voll floor snapshot' answer' →
    BookCallsLowered d texts texts' replies replies' →
    SnapshotRaised (snapshot_in snapshot) (snapshot_in snapshot') →
    NeitherAnswerRises answer answer'

-- curves handed in: the 50 numbers are equal
abbrev pub RaisedReserveNeverRaisesAnswersOnCurves : Type 0
RaisedReserveNeverRaisesAnswersOnCurves =
    (curves before before' answer answer' : List ℤ) (snapshot snapshot' : List ℕ) (r r' : Reply) →
    PriceCalled curves snapshot before answer r → Accepted r →
    PriceCalled curves snapshot' before' answer' r' → Accepted r' →
    SnapshotRaised (snapshot_in snapshot) (snapshot_in snapshot') →
    NeitherAnswerRises answer answer'

-- off-line ≤ on-line ≤ max(0, VOLL - lambda) in every answer of an accepted pricing
abbrev pub AnswersAreInOrder : Type 0
AnswersAreInOrder =
    (curves before answer : List ℤ) (snapshot : List ℕ) (r : Reply) (h : Header) (entries : List Entry) →
    PriceCalled curves snapshot before answer r → Accepted r → snapshot_in snapshot ≡ read h entries →
    (offline_price answer ≤ℤ online_price answer) × (online_price answer ≤ℤ pos (value_of_reserve (curves_of curves) h))
