-- Document 02, W-204: a snapshot's text read into lent rows: 2, the lines with 3 to 8, 9, 15, then 14 where the rows are fewer than the resources. A refusal leaves
-- all that was lent.
use Rattle.std.specs.Prelude.{ℕ, ◌-◌, ◌≡◌, cond, List, [], ◌∷◌, ◌++◌, leb, ℤ, pos, length, replicate, Ok, Err}
use Rattle.text_refusal.specs.Answer.{Answer, refusal, lent_after_answer}
use Rattle.text_schema.specs.Schema.{laid_over}
use Rattle.pricing_resource.specs.declared.Kind.{Kind}
use Rattle.pricing_resource.specs.declared.Kind.TheVariants as kind
use Rattle.pricing_resource.specs.declared.Status.{Status}
use Rattle.pricing_resource.specs.declared.Status.TheVariants as status
use Rattle.pricing_resource.specs.declared.Resource.{Resource}
use Rattle.pricing_resource.specs.declared.Resource.TheVariants as resource
use Rattle.pricing_sums.specs.Header.{header_values}
use Rattle.pricing_snapshot.specs.Snapshot.{Entry, SnapshotAnswer, read, refused_by, snapshot_in}
use Rattle.pricing_held.specs.Rows.{held_count}

-- ---- the rows of a resource

-- the place of a kind and of a status in the list of its words
abbrev pub kind_place : Kind → ℤ
kind_place kind.Gen = pos 0
kind_place kind.Wind = pos 1
kind_place kind.Irr = pos 2
kind_place kind.Nuke = pos 3

abbrev pub status_place : Status → ℤ
status_place status.On = pos 0
status_place status.Off = pos 1
status_place status.OffNs = pos 2
status_place status.OnTest = pos 3
status_place status.Startup = pos 4
status_place status.Shutdown = pos 5
status_place status.Out = pos 6

-- a row of bytes: the id, then zeros up to 32 bytes
unfoldable pub id_row : List ℕ → List ℕ
id_row id = id ++ replicate (32 - length id) 0

-- a row of numbers: kind, status, the numbers of the kind in the order of its lines, zeros up to 8 numbers, then the marks; the status of a load is 0
unfoldable pub number_row : Resource → List ℤ
number_row (resource.Generator g) =
    kind_place g.kind ∷ status_place g.status ∷ g.net ∷ g.lsl ∷ g.hsl ∷ g.base ∷ g.nonspin ∷ g.cold30 ∷ pos g.marks ∷ []
number_row (resource.Controllable c) = pos 4 ∷ pos 0 ∷ c.base ∷ c.lpc ∷ c.nonspin ∷ c.regup ∷ pos 0 ∷ pos 0 ∷ pos c.marks ∷ []
number_row (resource.Load l) = pos 5 ∷ pos 0 ∷ l.rrsok ∷ l.net ∷ l.lpc ∷ l.rrs ∷ pos 0 ∷ pos 0 ∷ pos l.marks ∷ []

unfoldable pub id_rows : List Entry → List ℕ
id_rows [] = []
id_rows (entry ∷ entries) = id_row entry.id ++ id_rows entries

unfoldable pub number_rows : List Entry → List ℤ
number_rows [] = []
number_rows (entry ∷ entries) = number_row entry.resource ++ number_rows entries

-- ---- reading

-- the snapshot's own refusals, then 14 where there are fewer rows than resources
abbrev pub reading_answer : ℕ → SnapshotAnswer → Answer
reading_answer rows (refused_by found) = Err found
reading_answer rows (read h entries) = cond (leb (length entries) rows) (Ok tt) (refusal 14 0)

unfoldable pub reading_held : List ℕ → List ℕ → List ℤ → Answer
reading_held text ids numbers = reading_answer (held_count ids numbers) (snapshot_in text)

-- the header's numbers and the resources of a text that was read
abbrev pub header_read : SnapshotAnswer → List ℤ
header_read (refused_by found) = []
header_read (read h entries) = header_values h

abbrev pub entries_read : SnapshotAnswer → List Entry
entries_read (refused_by found) = []
entries_read (read h entries) = entries

-- what reading a text into lent space gives: the rows of its resources in place of the first rows; rows after them stay
pub record HeldRead (text : List ℕ) (header : List ℤ) (ids : List ℕ) (numbers header' : List ℤ) (ids' : List ℕ) (numbers' : List ℤ) (answer : Answer) : Type 0 where
  pub ends : answer ≡ reading_held text ids numbers
  pub header_is : header' ≡ lent_after_answer (reading_held text ids numbers) header (header_read (snapshot_in text))
  pub ids_are : ids' ≡ lent_after_answer (reading_held text ids numbers) ids (laid_over (id_rows (entries_read (snapshot_in text))) ids)
  pub numbers_are : numbers' ≡ lent_after_answer (reading_held text ids numbers) numbers (laid_over (number_rows (entries_read (snapshot_in text))) numbers)
