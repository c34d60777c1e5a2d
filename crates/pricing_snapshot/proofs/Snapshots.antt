-- Laws on a snapshot's text: from the readers' answers to its header and its sums.
use Prim.Native.Nat.{ℕ, ◌≤◌, ◌<◌}
use mathlib.Core.Path.{◌≡◌, refl, ap, sym, ◌∙◌}
use mathlib.Core.Bool.{Bool, true, false, cond}
use mathlib.Core.List.{List, [], ◌∷◌, ◌++◌}
use borrow.Author.Tests.{lt-ltb, le-ltb}
use lib.Dec.{eqb}
use lib.IntN.{ℤ, pos, neg_ℤ, nat_abs}
use lib.ListN.{length, replicate}
use Rattle.std.specs.Prelude.{Option, Some, None, Result, Ok, Err}
use Rattle.text_refusal.specs.Bytes.{bytes}
use Rattle.text_refusal.specs.Refusal.{refusal_of}
use Rattle.text_line.specs.Lines.{end_at}
use Rattle.text_refusal.specs.declared.refusal.Fault.{Fault}
use Rattle.text_refusal.specs.declared.refusal.Refusal.{Refusal}
use Rattle.text_line.specs.Field.{LineAnswer, got, refused}
use Rattle.text_schema.specs.Schema.{read_fields, LinesRead}
use Rattle.text_schema.specs.Schema.{value}
use Rattle.pricing_snapshot.specs.Snapshot.{header_fields, Entry, header_of, resources_at, resources_of, read, refused_by, after_last, after_header, after_lines, due_lines, snapshot_in, snapshot_sums}
use Rattle.pricing_snapshot.specs.internal.Tallied.{no_tally, tally_from, tallied, resources_answer}
use Rattle.pricing_sums.specs.declared.header.Header.{Header}
use Rattle.pricing_resource_text.specs.Resource.{after_answer, lines_as, resource_at}
use Rattle.pricing_sums.specs.Part.{sums_of}
use Rattle.pricing_sums.proofs.Addition.{none_plus}
use Rattle.pricing_resource.specs.Suspect.{suspect_line}
use Rattle.pricing_resource.specs.declared.Resource.{Resource}
use Rattle.pricing_snapshot.specs.declared.resources.Tally.{Tally}
use Rattle.pricing_snapshot.specs.declared.resources.Resources.{Resources}
use Rattle.pricing_snapshot.specs.declared.header.HeaderLines.{HeaderLines}
use Rattle.pricing_snapshot.specs.declared.Snapshot.{Snapshot}
use Rattle.text_schema.proofs.Fields.{Schema, schema_of, lines_ended, lines_filled}
use Rattle.pricing_snapshot.proofs.Readings.{header_read, few}
use Rattle.pricing_resource_text.proofs.Readings.{lines_given}
use Rattle.pricing_snapshot.specs.internal.Heading.{header_answer}
use Rattle.pricing_snapshot.proofs.Tallies.{line_found, tally_sums, tally_suspect}

-- the header as the code hands its schema over
unfoldable pub header_schema : Schema header_fields
unfolding header_fields
header_schema =
    schema_of (bytes "month=hour=lambda=factor=prc=eea1=short=count=") (pos 1 ∷ pos 0 ∷ neg_ℤ (pos 2000000) ∷ replicate 5 (pos 0))
    (pos 12 ∷ pos 23 ∷ pos 2000000 ∷ pos 10000 ∷ replicate 3 (pos 200000000) ++ (pos 4096 ∷ [])) refl

-- what is left once the tally is known: bytes after the last line, then a mark that turns the snapshot back
abbrev unmarked : Header → Tally → Option ℕ → Result Snapshot Refusal
unmarked h tally None = Ok (record { header = h; sums = tally.sums })
unmarked h tally (Some line) = Err (record { number = 15; line = line })

abbrev ended : List ℕ → Header → Tally → Result ℕ Fault → Result Snapshot Refusal
ended text h tally (Err found) = Err (refusal_of text found)
ended text h tally (Ok stop) = unmarked h tally tally.suspect

abbrev after_tally : List ℕ → Header → LineAnswer Tally → Result Snapshot Refusal
after_tally text h (refused found) = Err (refusal_of text found)
after_tally text h (got tally next) = ended text h tally (end_at text next)

-- the tally of all resources holds what the definition asks of them
pub tally_suspects : (all : List Resource) → (tally_from no_tally all).suspect ≡ line_found (suspect_line all)
tally_suspects all = tally_suspect no_tally all

pub tally_adds : (all : List Resource) → (tally_from no_tally all).sums ≡ sums_of all
tally_adds all = tally_sums no_tally all ∙ none_plus (sums_of all)

after_tally_lem :
    (text : List ℕ) (h : Header) (a : LineAnswer (List Entry)) →
    snapshot_sums (after_lines text (after_answer a (λ entries next. got (record { header = h; entries = entries }) next))) ≡ after_tally text h (tallied no_tally a)
after_tally_lem text h (refused found) = refl
after_tally_lem text h (got entries next) = go (end_at text next)
  where
    fine :
        (line : ℕ) (b : Bool) →
        snapshot_sums (cond b (read h entries) (refused_by (record { number = 15; line = line }))) ≡ unmarked h (tally_from no_tally (resources_of entries)) (cond b None (Some line))
    fine line true = rw (tally_adds (resources_of entries))
    fine line false = refl

    go : (e : Result ℕ Fault) → snapshot_sums (after_last text (record { header = h; entries = entries }) e) ≡ ended text h (tally_from no_tally (resources_of entries)) e
    go (Err found) = refl
    go (Ok stop) =
        fine (suspect_line (resources_of entries)) (eqb (suspect_line (resources_of entries)) 0)
        ∙ ap (λ (suspect : Option ℕ). unmarked h (tally_from no_tally (resources_of entries)) suspect) (sym (tally_suspects (resources_of entries)))

pub snapshot_long : (text : List ℕ) → 1048576 < length text → Err (record { number = 2; line = 0 }) ≡ snapshot_sums (snapshot_in text)
unfolding snapshot_in
snapshot_long text h = rw (lt-ltb 1048576 (length text) h)

-- ---- the header's lines

module _
    (text : List ℕ) {before after : List ℤ} {found : Result ℕ Fault} (empty : before ≡ replicate 8 (pos 0))
    (read : LinesRead text 0 header_schema.keys header_schema.lows header_schema.highs before after found) where
  pub header_ends : found ≡ (read_fields header_fields text 0).end
  unfolding header_fields
  header_ends = lines_ended header_schema text 0 (rw empty at read)

  pub header_filled : {next : ℕ} → found ≡ Ok next → after ≡ (read_fields header_fields text 0).values
  unfolding header_fields
  header_filled is = lines_filled header_schema text 0 (rw empty at read) is

-- the header by its values, or the refused line
module _
    (text : List ℕ) {before after : List ℤ} {found : Result ℕ Fault} (empty : before ≡ replicate 8 (pos 0))
    (lines_read : LinesRead text 0 header_schema.keys header_schema.lows header_schema.highs before after found) where
  pub header_refused_at : {told : Fault} → found ≡ Err told → refused told ≡ lines_as header_of header_fields text 0
  header_refused_at is = rw (← header_ends text empty lines_read, is)

  pub header_got : {next : ℕ} {h : Header} → found ≡ Ok next → h ≡ header_of after → got h next ≡ lines_as header_of header_fields text 0
  header_got is h_is = rw (h_is, header_filled text empty lines_read is, ← header_ends text empty lines_read, is)

module _ (text : List ℕ) (found : Result HeaderLines Fault) (answers : header_answer found ≡ lines_as header_of header_fields text 0) where
  pub count_few : {read : HeaderLines} → found ≡ Ok read → nat_abs read.header.count ≤ 4096
  count_few {read} is =
      let due : got read.header read.next ≡ lines_as header_of header_fields text 0 = rw is at answers in
      let given = lines_given header_of (read_fields header_fields text 0).values (read_fields header_fields text 0).end (sym due) in
      rw (← given.made) (few (value (read_fields header_fields text 0).values 7) (header_read text 0 read.next given.ended).count)

  module _ (short : length text ≤ 1048576) where
    header_due : snapshot_in text ≡ after_lines text (after_answer (header_answer found) (λ h next. after_header text h next))
    unfolding snapshot_in due_lines
    header_due = rw (le-ltb 1048576 (length text) short, answers)

    pub snapshot_header : {told : Fault} {refusal : Refusal} → found ≡ Err told → refusal ≡ refusal_of text told → Err refusal ≡ snapshot_sums (snapshot_in text)
    snapshot_header is given = rw (given, header_due, is)

    pub snapshot_rest :
        {read : HeaderLines} → found ≡ Ok read → {answer : Result Snapshot Refusal} → answer ≡ snapshot_sums (after_lines text (after_header text read.header read.next)) →
        answer ≡ snapshot_sums (snapshot_in text)
    snapshot_rest is says = says ∙ rw (header_due, is)

-- ---- the lines after the header

module _
    (text : List ℕ) (h : Header) (at : ℕ) {count : ℕ} (answer : Result Resources Fault) (counted : count ≡ nat_abs h.count)
    (tally_read : resources_answer answer ≡ tallied no_tally (resources_at resource_at count [] text at)) where
  whole : snapshot_sums (after_lines text (after_header text h at)) ≡ after_tally text h (resources_answer answer)
  whole = rw (tally_read, counted) (after_tally_lem text h (resources_at resource_at (nat_abs h.count) [] text at))

  pub rest_refused :
      {told : Fault} {refusal : Refusal} → answer ≡ Err told → refusal ≡ refusal_of text told →
      Err refusal ≡ snapshot_sums (after_lines text (after_header text h at))
  rest_refused told given = rw (whole, given, told)

  module _ {found : Resources} (told : answer ≡ Ok found) {e : Result ℕ Fault} (ends : e ≡ end_at text found.next) where
    pub rest_end :
        {after_it : Fault} {refusal : Refusal} → e ≡ Err after_it → refusal ≡ refusal_of text after_it →
        Err refusal ≡ snapshot_sums (after_lines text (after_header text h at))
    rest_end over given = rw (whole, told, ← ends, given, over)

    pub rest_suspect :
        {stop line : ℕ} → e ≡ Ok stop → found.tally.suspect ≡ Some line →
        Err (record { number = 15; line = line }) ≡ snapshot_sums (after_lines text (after_header text h at))
    rest_suspect over marked = rw (whole, told, ← ends, over, marked)

    pub rest_whole :
        {stop : ℕ} → e ≡ Ok stop → found.tally.suspect ≡ None →
        Ok (record { header = h; sums = found.tally.sums }) ≡ snapshot_sums (after_lines text (after_header text h at))
    rest_whole over fine = rw (whole, told, ← ends, over, fine)
