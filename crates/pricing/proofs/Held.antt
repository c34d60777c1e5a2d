-- The proofs of the statements on snapshots held as values.
use Prim.Native.Nat.{ℕ, ◌+◌, ◌*◌}
use native.Mathlib.Omega.{arith}
use mathlib.Core.Bool.{Bool, true, false}
use mathlib.Core.List.{List, [], ◌++◌}
use mathlib.Core.Path.{◌≡◌, refl, sym, ap, ap₂, ◌∙◌}
use borrow.Author.Tests.{le-leb, lt-leb, leb-true, leb-false}
use lib.Dec.{leb}
use lib.IntN.{ℤ, pos, nat_abs}
use lib.ListN.{length, drop}
use lib.Seq.{take_at}
use lib.Signed.{◌≤ℤ◌}
use Rattle.std.specs.Prelude.{Ok, Err}
use Rattle.integer.proofs.Difference.{view, to_ℕ}
use Rattle.text_refusal.specs.Answer.{Answer, lent_after_answer}
use Rattle.text_schema.specs.Schema.{laid_over}
use Rattle.text_schema.specs.Checked.{text_of, first_refused}
use Rattle.text_schema.proofs.Checked.{accepted_unrefused, unrefused_accepted}
use Rattle.text_writer.specs.Write.{laid_at}
use Rattle.text_writer.proofs.Laid.{laid_behind}
use Rattle.pricing_sums.specs.Header.{header_values}
use Rattle.pricing_sums.specs.declared.header.Header.{Header}
use Rattle.pricing_resource.specs.Suspect.{suspect_line}
use Rattle.pricing_snapshot.specs.Snapshot.{Entry, Contents, resources_of, SnapshotAnswer, read, refused_by, snapshot_in}
use Rattle.pricing_snapshot.proofs.Readings.{snapshot_read, snapshot_unmarked}
use Rattle.pricing_held.specs.Rows.{Row, held_count, header_held, contents_held}
use Rattle.pricing_held.specs.Lines.{rows_lines, header_checked, held_lines, held_answer, held_text}
use Rattle.pricing_held.proofs.Definitions.{contents_held_are, held_lines_are, held_text_is}
use Rattle.pricing_held.proofs.Held.{held_accepted, accepted_held}
use Rattle.pricing_held_reading.specs.Reading.{id_rows, number_rows, reading_answer, reading_held, header_read, entries_read}
use Rattle.pricing_held_reading.proofs.Definitions.{reading_held_is}
use Rattle.pricing_held_text.specs.Writing.{writing_held}
use Rattle.pricing_held_text.proofs.Cases.{writing_refused, writing_short, writing_accepted}
use Rattle.pricing_held_text.proofs.Short.{held_text_short}
use Rattle.pricing.specs.Held.{WrittenSnapshotsAreReadBack, ReadSnapshotsAreWrittenBack, RowsHoldWhatWasRead, ReadRowsStandInFront, OneSnapshotText, WrittenSnapshotsAreShort, WrittenSnapshotsHaveTheirPrice, SnapshotWriting, WritingSnapshotCase, line_refused, buffer_short, text_written, WritingSnapshotsIsRefusedFirst, SnapshotReading, ReadingSnapshotCase, text_refused, rows_short, text_read, ReadingSnapshotsIsRefusedFirst, BytesAfterTheSnapshotStay}
use Rattle.pricing.proofs.Pricing.{prices_equal_the_formulas}
use Rattle.pricing.proofs.SnapshotTrip.{held_reads, lines_of, TextIsWritten, read_written}
use Rattle.pricing.proofs.HeldRows.{id_rows_long, number_rows_long, rows_counted, rows_held, entries_back}

-- ---- one text for each snapshot

pub written_snapshots_are_short : WrittenSnapshotsAreShort
written_snapshots_are_short = held_text_short

pub written_snapshots_are_read_back : WrittenSnapshotsAreReadBack
written_snapshots_are_read_back header ids numbers accepted =
    let short = written_snapshots_are_short header ids numbers accepted in
    let all = held_accepted header ids numbers accepted in
    held_reads header ids numbers (accepted_unrefused 1 (held_lines header ids numbers) all.lines_accepted) all.none_suspect (omega arith)

-- the count of a header that was read is the number of its resources
count_is : (text : List ℕ) {h : Header} {entries : List Entry} → snapshot_in text ≡ read h entries → h.count ≡ pos (length entries)
count_is text {h} {entries} e =
    let known = snapshot_read text e in
    natural h.count known.header.count.0 ∙ ap pos (sym known.resources.counted)
  where
    natural : (z : ℤ) → pos 0 ≤ℤ z → z ≡ pos (nat_abs z)
    natural z = rw (view z) (simp to_ℕ (omega arith))

module _ (text : List ℕ) (h : Header) (entries : List Entry) (e : snapshot_in text ≡ read h entries) where
  written : TextIsWritten text h entries
  written = read_written text h entries e

  header_back : header_held (header_values h) (held_count (id_rows entries) (number_rows entries)) ≡ h
  header_back = rw (rows_counted entries written.valid, ← count_is text e)

  lines_back : held_lines (header_values h) (id_rows entries) (number_rows entries) ≡ lines_of h entries
  lines_back =
      held_lines_are (header_values h) (id_rows entries) (number_rows entries) ∙
      ap₂ (λ (head : Header) (rows : List Row). header_checked head ++ rows_lines [] rows) header_back (rows_held entries written.valid)

pub rows_hold_what_was_read : RowsHoldWhatWasRead
rows_hold_what_was_read text h entries e =
    contents_held_are (header_values h) (id_rows entries) (number_rows entries) ∙ rw (header_back text h entries e, rows_held entries (written text h entries e).valid, entries_back entries (written text h entries e).valid)

pub read_snapshots_are_written_back : ReadSnapshotsAreWrittenBack
read_snapshots_are_written_back text h entries e = (
  accepted_held (header_values h) (id_rows entries) (number_rows entries)
      (record {
        lines_accepted = ap (first_refused 1) (lines_back text h entries e) ∙ unrefused_accepted 1 (lines_of h entries) (written text h entries e).unrefused;
        none_suspect = ap (λ (found : Contents). suspect_line (resources_of found.entries)) (rows_hold_what_was_read text h entries e) ∙ snapshot_unmarked text e;
      }),
  held_text_is (header_values h) (id_rows entries) (number_rows entries) ∙ ap text_of (lines_back text h entries e) ∙ sym (written text h entries e).bytes,
)

pub read_rows_stand_in_front : ReadRowsStandInFront
read_rows_stand_in_front text h entries ids numbers e = (
  take_at (id_rows entries) (drop (length (id_rows entries)) ids) (32 * length entries) (id_rows_long entries (written text h entries e).valid),
  take_at (number_rows entries) (drop (length (number_rows entries)) numbers) (9 * length entries) (number_rows_long entries),
)

pub one_snapshot_text : OneSnapshotText
one_snapshot_text one other h entries e f = (written one h entries e).bytes ∙ sym (written other h entries f).bytes

-- ---- prices

pub written_snapshots_have_their_price : WrittenSnapshotsHaveTheirPrice
written_snapshots_have_their_price curves header ids numbers inside accepted =
    prices_equal_the_formulas curves (held_text header ids numbers) (contents_held header ids numbers).header (contents_held header ids numbers).entries inside
    (written_snapshots_are_read_back header ids numbers accepted)

-- ---- writing: the refusals in checking order

abbrev written_as : List ℕ → List ℕ → Answer → SnapshotWriting
written_as buffer text ended = record { answer = ended; buffer = lent_after_answer ended buffer (laid_at buffer 0 text) }

module _ (header : List ℤ) (ids : List ℕ) (numbers : List ℤ) (buffer : List ℕ) where
  abbrev text_of_lem : List ℕ
  text_of_lem = held_text header ids numbers

  writing_applies : WritingSnapshotCase header ids numbers buffer (written_as buffer text_of_lem (writing_held header ids numbers buffer))
  writing_applies = go (held_answer header ids numbers) refl
    where
      room : held_answer header ids numbers ≡ Ok tt → (b : Bool) → leb (length text_of_lem) (length buffer) ≡ b → WritingSnapshotCase header ids numbers buffer (written_as buffer text_of_lem (writing_held header ids numbers buffer))
      room accepted true p =
          let fits = leb-true (length text_of_lem) (length buffer) p in
          rw (writing_accepted header ids numbers buffer accepted fits) (text_written accepted fits)
      room accepted false p =
          let short = leb-false (length text_of_lem) (length buffer) p in
          rw (writing_short header ids numbers buffer accepted short) (buffer_short accepted short)

      go : (a : Answer) → held_answer header ids numbers ≡ a → WritingSnapshotCase header ids numbers buffer (written_as buffer text_of_lem (writing_held header ids numbers buffer))
      go (Ok accepted) e = room e (leb (length text_of_lem) (length buffer)) refl
      go (Err found) e = rw (writing_refused header ids numbers buffer e) (line_refused e)

  writing_only : (other : SnapshotWriting) → WritingSnapshotCase header ids numbers buffer other → other ≡ written_as buffer text_of_lem (writing_held header ids numbers buffer)
  writing_only other (line_refused e) = ap (written_as buffer text_of_lem) (sym (writing_refused header ids numbers buffer e))
  writing_only other (buffer_short accepted short) = ap (written_as buffer text_of_lem) (sym (writing_short header ids numbers buffer accepted short))
  writing_only other (text_written accepted fits) = ap (written_as buffer text_of_lem) (sym (writing_accepted header ids numbers buffer accepted fits))

pub writing_snapshots_is_refused_first : WritingSnapshotsIsRefusedFirst
writing_snapshots_is_refused_first header ids numbers buffer = record { applies = writing_applies header ids numbers buffer; only = writing_only header ids numbers buffer }

pub bytes_after_the_snapshot_stay : BytesAfterTheSnapshotStay
bytes_after_the_snapshot_stay header ids numbers buffer = go (writing_applies header ids numbers buffer)
  where
    go : {after : SnapshotWriting} → WritingSnapshotCase header ids numbers buffer after → drop (length (held_text header ids numbers)) after.buffer ≡ drop (length (held_text header ids numbers)) buffer
    go (line_refused e) = refl
    go (buffer_short accepted short) = refl
    go (text_written accepted fits) =
        let text = held_text header ids numbers in
        let place : 0 + length text + 0 ≡ length text = omega arith in
        rw place at (laid_behind buffer 0 text (omega arith) 0)

-- ---- reading: the refusals in checking order

module _ (text : List ℕ) (header : List ℤ) (ids : List ℕ) (numbers : List ℤ) where
  abbrev read_as : Answer → SnapshotAnswer → SnapshotReading
  read_as ended found =
      record {
        answer = ended;
        header = lent_after_answer ended header (header_read found);
        ids = lent_after_answer ended ids (laid_over (id_rows (entries_read found)) ids);
        numbers = lent_after_answer ended numbers (laid_over (number_rows (entries_read found)) numbers);
      }

  -- the answer, by what the text gives
  by_answer : {found : SnapshotAnswer} → snapshot_in text ≡ found → read_as (reading_held text ids numbers) (snapshot_in text) ≡ read_as (reading_answer (held_count ids numbers) found) found
  by_answer e = ap₂ read_as (reading_held_is text ids numbers ∙ ap (reading_answer (held_count ids numbers)) e) e

  reading_applies : ReadingSnapshotCase text header ids numbers (read_as (reading_held text ids numbers) (snapshot_in text))
  reading_applies = go (snapshot_in text) refl
    where
      room : {h : Header} {entries : List Entry} → snapshot_in text ≡ read h entries → (b : Bool) → leb (length entries) (held_count ids numbers) ≡ b →
          ReadingSnapshotCase text header ids numbers (read_as (reading_answer (held_count ids numbers) (read h entries)) (read h entries))
      room {h} {entries} e true p = rw p (text_read e (leb-true (length entries) (held_count ids numbers) p))
      room {h} {entries} e false p = rw p (rows_short e (leb-false (length entries) (held_count ids numbers) p))

      go : (found : SnapshotAnswer) → snapshot_in text ≡ found → ReadingSnapshotCase text header ids numbers (read_as (reading_held text ids numbers) (snapshot_in text))
      go (refused_by found) e = rw (by_answer e) (text_refused e)
      go (read h entries) e = rw (by_answer e) (room e (leb (length entries) (held_count ids numbers)) refl)

  reading_only : (other : SnapshotReading) → ReadingSnapshotCase text header ids numbers other → other ≡ read_as (reading_held text ids numbers) (snapshot_in text)
  reading_only other (text_refused e) = sym (by_answer e)
  reading_only other (rows_short {h} {entries} e few) = sym (by_answer e ∙ rw (lt-leb (length entries) (held_count ids numbers) few))
  reading_only other (text_read {h} {entries} e room) = sym (by_answer e ∙ rw (le-leb (length entries) (held_count ids numbers) room))

pub reading_snapshots_is_refused_first : ReadingSnapshotsIsRefusedFirst
reading_snapshots_is_refused_first text header ids numbers = record { applies = reading_applies text header ids numbers; only = reading_only text header ids numbers }
