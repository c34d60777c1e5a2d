-- Document 01, "Snapshot to reserves": the snapshot text. Refusals 2, the lines with 3 to 8, 9; then 15 (document 02, W-206).
use Rattle.text_refusal.specs.declared.refusal.Fault.{Fault}
use Rattle.std.specs.Prelude.{ℕ, zero, suc, cond, List, [], ◌∷◌, map, eqb, ltb, ℤ, nat_abs, length, Result, Ok, Err}
use Rattle.text_refusal.specs.Bytes.{bytes}
use Rattle.text_refusal.specs.Refusal.{refusal_of}
use Rattle.text_line.specs.Lines.{end_at}
use Rattle.text_refusal.specs.Refusal.{fault}
use Rattle.text_line.specs.Field.{Field, LineAnswer, got, refused, field_at}
use Rattle.text_number.specs.Field.{number_field}
use Rattle.text_id.specs.Id.{id_field}
use Rattle.text_id_table.specs.Ids.{stands_in}
use Rattle.text_refusal.specs.declared.refusal.Refusal.{Refusal}
use Rattle.text_schema.specs.Schema.{value}
use Rattle.pricing_sums.specs.Header.{HeaderLine, header_lines}
use Rattle.pricing_sums.specs.declared.header.Header.{Header}
use Rattle.pricing_resource_text.specs.Resource.{after_answer, lines_as, resource_at}
use Rattle.pricing_sums.specs.Part.{sums_of}
use Rattle.pricing_resource.specs.Suspect.{suspect_line}
use Rattle.pricing_resource.specs.declared.Resource.{Resource}
use Rattle.pricing_snapshot.specs.declared.Snapshot.{Snapshot}

-- ---- the header

-- the header's lines, each a number in its range
unfoldable pub header_fields : List (Field ℤ)
header_fields = map (λ (due : HeaderLine). number_field due.key due.low due.high) header_lines

abbrev pub header_of : List ℤ → Header
header_of v =
    record {
      month = value v 0;
      hour = value v 1;
      lambda = value v 2;
      factor = value v 3;
      prc = value v 4;
      eea1 = value v 5;
      short = value v 6;
      count = value v 7;
    }

-- a resource with its id
pub record Entry : Type 0 where
  pub id : List ℕ
  pub resource : Resource

-- ---- ids

-- the id due at a position: one that stands above is refused by 8 at its own line
abbrev pub new_id_at : List (List ℕ) → List ℕ → ℕ → LineAnswer (List ℕ)
new_id_at above text at = after_answer (field_at (id_field (bytes "id=")) text at) (λ id next. cond (stands_in id above) (refused (fault 8 at)) (got id next))

-- ---- the resources, over any reader of one resource's lines: the first refused line decides

abbrev pub with_entry : List ℕ → Resource → List Entry → List Entry
with_entry id one others = record { id = id; resource = one } ∷ others

unfoldable pub resources_at : (List ℕ → ℕ → LineAnswer Resource) → ℕ → List (List ℕ) → List ℕ → ℕ → LineAnswer (List Entry)
resources_at reader zero above text at = got [] at
resources_at reader (suc n) above text at =
    after_answer (new_id_at above text at)
    (λ id next.
    after_answer (reader text next)
    (λ one after.
    after_answer (resources_at reader n (id ∷ above) text after)
    (λ others last. got (with_entry id one others) last)))

-- the resources without their ids
abbrev pub resources_of : List Entry → List Resource
resources_of entries = map (λ (entry : Entry). entry.resource) entries

-- ---- the snapshot

-- what the due lines hold: the header and the resources in order
pub record Contents : Type 0 where
  pub header : Header
  pub entries : List Entry

-- the lines that follow a header: as many resources as `count` says
abbrev pub after_header : List ℕ → Header → ℕ → LineAnswer Contents
after_header text h at =
    after_answer (resources_at resource_at (nat_abs h.count) [] text at) (λ entries next. got (record { header = h; entries = entries }) next)

-- the due lines, each checked before the next: what they hold and where they end, or the first faulty one (3 to 8)
unfoldable pub due_lines : List ℕ → LineAnswer Contents
due_lines text = after_answer (lines_as header_of header_fields text 0) (λ h next. after_header text h next)

-- what a snapshot's text gives: the header and the resources in order, or the refusal
pub data SnapshotAnswer : Type 0 where
  read : Header → List Entry → SnapshotAnswer
  refused_by : Refusal → SnapshotAnswer

-- then 15 with the line of the first number that is marked suspect on a unit where that turns the snapshot back
abbrev pub unless_suspect : Contents → ℕ → SnapshotAnswer
unless_suspect found line = cond (eqb line 0) (read found.header found.entries) (refused_by (record { number = 15; line = line }))

abbrev pub after_last : List ℕ → Contents → Result ℕ Fault → SnapshotAnswer
after_last text found (Err fault) = refused_by (refusal_of text fault)
after_last text found (Ok stop) = unless_suspect found (suspect_line (resources_of found.entries))

-- 9 before that
abbrev pub after_lines : List ℕ → LineAnswer Contents → SnapshotAnswer
after_lines text (refused fault) = refused_by (refusal_of text fault)
after_lines text (got found next) = after_last text found (end_at text next)

-- 2 above 1048576 bytes, then the lines in order, then 9, then 15
unfoldable pub snapshot_in : List ℕ → SnapshotAnswer
snapshot_in text = cond (ltb 1048576 (length text)) (refused_by (record { number = 2; line = 0 })) (after_lines text (due_lines text))

-- the header and the sums of a snapshot
abbrev pub snapshot_sums : SnapshotAnswer → Result Snapshot Refusal
snapshot_sums (refused_by found) = Err found
snapshot_sums (read h entries) = Ok (record { header = h; sums = sums_of (resources_of entries) })

-- document 01's number and line for each case of a snapshot's answer: both 0 where nothing is refused
abbrev pub snapshot_number : Result Snapshot Refusal → ℕ
snapshot_number (Err found) = found.number
snapshot_number (Ok snapshot) = 0

abbrev pub snapshot_line : Result Snapshot Refusal → ℕ
snapshot_line (Err found) = found.line
snapshot_line (Ok snapshot) = 0
