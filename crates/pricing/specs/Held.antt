-- Document 02, W-204: what is promised of snapshots held as values, read and written, marks with them (W-206).
use Rattle.std.specs.Prelude.{ℕ, ◌*◌, ◌≤◌, ◌<◌, ◌≡◌, true, List, ℤ, length, take, drop, Ok, Err}
use Rattle.text_refusal.specs.Answer.{Answer, refusal, lent_after_answer}
use Rattle.text_refusal.specs.declared.refusal.Refusal.{Refusal}
use Rattle.text_schema.specs.Schema.{laid_over}
use Rattle.text_writer.specs.Write.{laid_at}
use Rattle.curve.specs.FirstRefusal.{Decides}
use Rattle.curve_set.specs.Curves.{curves_in_range}
use Rattle.curve_set.specs.declared.CurveSet.{CurveSet}
use Rattle.pricing_sums.specs.Header.{header_values}
use Rattle.pricing_sums.specs.Part.{sums_of}
use Rattle.pricing_sums.specs.declared.header.Header.{Header}
use Rattle.pricing_snapshot.specs.Snapshot.{Entry, Contents, resources_of, read, refused_by, snapshot_in}
use Rattle.pricing_held.specs.Rows.{held_count, contents_held}
use Rattle.pricing_held.specs.Lines.{held_answer, held_text}
use Rattle.pricing_held_reading.specs.Reading.{id_rows, number_rows, reading_held, header_read, entries_read}
use Rattle.pricing_held_text.specs.Writing.{writing_held}
use Rattle.pricing_adder.specs.Price.{prices_of}
use Rattle.pricing.specs.Pricing.{priced}

-- ---- one text for each snapshot

-- a written text is accepted and yields the same values
abbrev pub WrittenSnapshotsAreReadBack : Type 0
WrittenSnapshotsAreReadBack =
    (header : List ℤ) (ids : List ℕ) (numbers : List ℤ) → held_answer header ids numbers ≡ Ok tt →
    snapshot_in (held_text header ids numbers) ≡ read (contents_held header ids numbers).header (contents_held header ids numbers).entries

-- an accepted text, read into rows and written from them, yields its own bytes
abbrev pub ReadSnapshotsAreWrittenBack : Type 0
ReadSnapshotsAreWrittenBack =
    (text : List ℕ) (h : Header) (entries : List Entry) → snapshot_in text ≡ read h entries →
    (held_answer (header_values h) (id_rows entries) (number_rows entries) ≡ Ok tt)
    × (held_text (header_values h) (id_rows entries) (number_rows entries) ≡ text)

-- the rows that a text is read into hold its header and its resources
abbrev pub RowsHoldWhatWasRead : Type 0
RowsHoldWhatWasRead =
    (text : List ℕ) (h : Header) (entries : List Entry) → snapshot_in text ≡ read h entries →
    contents_held (header_values h) (id_rows entries) (number_rows entries) ≡ record { header = h; entries = entries }

-- of lent space that has more rows, the first ones are these, as many as there are resources
abbrev pub ReadRowsStandInFront : Type 0
ReadRowsStandInFront =
    (text : List ℕ) (h : Header) (entries : List Entry) (ids : List ℕ) (numbers : List ℤ) → snapshot_in text ≡ read h entries →
    (take (32 * length entries) (laid_over (id_rows entries) ids) ≡ id_rows entries)
    × (take (9 * length entries) (laid_over (number_rows entries) numbers) ≡ number_rows entries)

-- so every snapshot has one text: two texts that are read as the same values are the same bytes
abbrev pub OneSnapshotText : Type 0
OneSnapshotText =
    (one other : List ℕ) (h : Header) (entries : List Entry) → snapshot_in one ≡ read h entries → snapshot_in other ≡ read h entries → one ≡ other

-- a written text is never too long (2)
abbrev pub WrittenSnapshotsAreShort : Type 0
WrittenSnapshotsAreShort =
    (header : List ℤ) (ids : List ℕ) (numbers : List ℤ) → held_answer header ids numbers ≡ Ok tt → length (held_text header ids numbers) ≤ 516198

-- ---- prices

-- a written snapshot's price is that of its values
abbrev pub WrittenSnapshotsHaveTheirPrice : Type 0
WrittenSnapshotsHaveTheirPrice =
    (curves : CurveSet) (header : List ℤ) (ids : List ℕ) (numbers : List ℤ) → curves_in_range curves ≡ true → held_answer header ids numbers ≡ Ok tt →
    let held : Contents = contents_held header ids numbers in
    priced curves (held_text header ids numbers) ≡ Ok (prices_of curves held.header (sums_of (resources_of held.entries)))

-- ---- demand 1: the refusals in checking order

-- an answer, with what was lent after it
pub record SnapshotWriting : Type 0 where
  pub answer : Answer
  pub buffer : List ℕ

pub data WritingSnapshotCase (header : List ℤ) (ids : List ℕ) (numbers : List ℤ) (buffer : List ℕ) : SnapshotWriting → Type 0 where
  -- 6, 7 or 8: the first line that is refused; then 15: the first that a mark turns back; the buffer stands as before
  line_refused :
      {found : Refusal} → held_answer header ids numbers ≡ Err found →
      WritingSnapshotCase header ids numbers buffer (record { answer = Err found; buffer = buffer })
  -- then 14: the buffer is shorter than the text
  buffer_short :
      held_answer header ids numbers ≡ Ok tt → length buffer < length (held_text header ids numbers) →
      WritingSnapshotCase header ids numbers buffer (record { answer = refusal 14 0; buffer = buffer })
  -- accepted, also where the buffer is just long enough: the text in place of the buffer's first bytes; bytes after it stay
  text_written :
      held_answer header ids numbers ≡ Ok tt → length (held_text header ids numbers) ≤ length buffer →
      WritingSnapshotCase header ids numbers buffer (record { answer = Ok tt; buffer = laid_at buffer 0 (held_text header ids numbers) })

abbrev pub WritingSnapshotsIsRefusedFirst : Type 0
WritingSnapshotsIsRefusedFirst =
    (header : List ℤ) (ids : List ℕ) (numbers : List ℤ) (buffer : List ℕ) →
    Decides (WritingSnapshotCase header ids numbers buffer)
    (record { answer = writing_held header ids numbers buffer; buffer = lent_after_answer (writing_held header ids numbers buffer) buffer (laid_at buffer 0 (held_text header ids numbers)) })

-- what is lent after reading
pub record SnapshotReading : Type 0 where
  pub answer : Answer
  pub header : List ℤ
  pub ids : List ℕ
  pub numbers : List ℤ

pub data ReadingSnapshotCase (text : List ℕ) (header : List ℤ) (ids : List ℕ) (numbers : List ℤ) : SnapshotReading → Type 0 where
  -- 2, the first faulty line (3 to 8), 9 or 15, as the text is refused; all that was lent stands as before
  text_refused :
      {found : Refusal} → snapshot_in text ≡ refused_by found →
      ReadingSnapshotCase text header ids numbers (record { answer = Err found; header = header; ids = ids; numbers = numbers })
  -- then 14: there are fewer rows than resources
  rows_short :
      {h : Header} {entries : List Entry} → snapshot_in text ≡ read h entries → held_count ids numbers < length entries →
      ReadingSnapshotCase text header ids numbers (record { answer = refusal 14 0; header = header; ids = ids; numbers = numbers })
  -- accepted: the header's numbers, and the rows of the resources in place of the first rows; rows after them stay
  text_read :
      {h : Header} {entries : List Entry} → snapshot_in text ≡ read h entries → length entries ≤ held_count ids numbers →
      ReadingSnapshotCase text header ids numbers
      (record { answer = Ok tt; header = header_values h; ids = laid_over (id_rows entries) ids; numbers = laid_over (number_rows entries) numbers })

abbrev pub ReadingSnapshotsIsRefusedFirst : Type 0
ReadingSnapshotsIsRefusedFirst =
    (text : List ℕ) (header : List ℤ) (ids : List ℕ) (numbers : List ℤ) →
    let ended : Answer = reading_held text ids numbers in
    Decides (ReadingSnapshotCase text header ids numbers)
    (record {
      answer = ended;
      header = lent_after_answer ended header (header_read (snapshot_in text));
      ids = lent_after_answer ended ids (laid_over (id_rows (entries_read (snapshot_in text))) ids);
      numbers = lent_after_answer ended numbers (laid_over (number_rows (entries_read (snapshot_in text))) numbers);
    })

-- bytes after the text stay, whether it was written or not
abbrev pub BytesAfterTheSnapshotStay : Type 0
BytesAfterTheSnapshotStay =
    (header : List ℤ) (ids : List ℕ) (numbers : List ℤ) (buffer : List ℕ) →
    let text : List ℕ = held_text header ids numbers in
    drop (length text) (lent_after_answer (writing_held header ids numbers buffer) buffer (laid_at buffer 0 text)) ≡ drop (length text) buffer
