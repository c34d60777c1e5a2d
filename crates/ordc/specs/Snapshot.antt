-- The effect of reading a snapshot's text into values, of asking for the length of the text of values, and of writing it. A snapshot held as values is a header of 8
-- numbers, a row of 32 bytes for each resource, and a row of 9 numbers for each resource (`pricing_held/specs/Rows.antt`).
use Rattle.std.specs.Prelude.{ℕ, List, ℤ, length}
use Rattle.text_schema.specs.Schema.{laid_over}
use Rattle.text_writer.specs.Write.{laid_at}
use Rattle.pricing_snapshot.specs.Snapshot.{snapshot_in}
use Rattle.pricing_held.specs.Lines.{held_answer, held_text}
use Rattle.pricing_held_reading.specs.Reading.{id_rows, number_rows, reading_held, header_read, entries_read}
use Rattle.pricing_held_text.specs.Writing.{writing_held}
use Rattle.ordc.specs.Reply.{reply_to, Answered}
use Rattle.ordc.specs.declared.reply.Reply.{Reply}

-- an accepted text lays its header and the rows of its resources; a refused one leaves all three
pub record ReadSnapshotCalled (text : List ℕ) (header : List ℤ) (ids : List ℕ) (numbers header' : List ℤ) (ids' : List ℕ) (numbers' : List ℤ) (r : Reply) : Type 0 where
  pub header_is : Answered (reply_to (reading_held text ids numbers)) header (header_read (snapshot_in text)) header' r
  pub ids_are : Answered (reply_to (reading_held text ids numbers)) ids (laid_over (id_rows (entries_read (snapshot_in text))) ids) ids' r
  pub numbers_are : Answered (reply_to (reading_held text ids numbers)) numbers (laid_over (number_rows (entries_read (snapshot_in text))) numbers) numbers' r

-- values whose text can be written give its length; others leave it
abbrev pub SnapshotLengthCalled : List ℤ → List ℕ → List ℤ → ℕ → ℕ → Reply → Type 0
SnapshotLengthCalled header ids numbers before after r = Answered (reply_to (held_answer header ids numbers)) before (length (held_text header ids numbers)) after r

-- an accepted writing lays the text and gives its length; a refused one leaves the buffer and the length
pub record WriteSnapshotCalled (header : List ℤ) (ids : List ℕ) (numbers : List ℤ) (buffer : List ℕ) (before : ℕ) (buffer' : List ℕ) (after : ℕ) (r : Reply) : Type 0 where
  pub count : Answered (reply_to (writing_held header ids numbers buffer)) before (length (held_text header ids numbers)) after r
  pub bytes : Answered (reply_to (writing_held header ids numbers buffer)) buffer (laid_at buffer 0 (held_text header ids numbers)) buffer' r
