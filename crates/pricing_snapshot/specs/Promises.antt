-- What is promised of reading a snapshot: demand 1 (document 01, "Turned back, in checking order").
use Rattle.std.specs.Prelude.{ℕ, suc, ◌≤◌, ◌<◌, ◌≡◌, true, false, List, [], ◌∷◌, eqb, nat_abs, length, Result, Ok, Err}
use Rattle.text_refusal.specs.Bytes.{bytes}
use Rattle.text_refusal.specs.Refusal.{line_of}
use Rattle.text_refusal.specs.declared.refusal.Fault.{Fault}
use Rattle.text_refusal.specs.Refusal.{fault}
use Rattle.text_line.specs.Field.{LineAnswer, got, refused, field_at}
use Rattle.text_schema.specs.Schema.{read_fields}
use Rattle.text_id.specs.Id.{id_field}
use Rattle.text_id_table.specs.Ids.{stands_in}
use Rattle.pricing_sums.specs.Part.{sums_of}
use Rattle.pricing_sums.specs.declared.header.Header.{Header}
use Rattle.pricing_resource.specs.Suspect.{suspect_line}
use Rattle.pricing_resource.specs.declared.Resource.{Resource}
use Rattle.pricing_resource_text.specs.Resource.{lines_as, resource_at}
use Rattle.pricing_snapshot.specs.Snapshot.{header_fields, header_of, new_id_at, resources_of, Contents, due_lines, snapshot_in, snapshot_sums, snapshot_number, snapshot_line}
use Rattle.pricing_snapshot.specs.declared.Snapshot.{Snapshot}
use Rattle.text_refusal.specs.declared.refusal.Refusal.{Refusal}

-- ---- the first faulty line

-- of resources from a position on, below the ids above: each line only where those before it were read, and within an id's line 8 last
pub data FaultyResource (reader : List ℕ → ℕ → LineAnswer Resource) (text : List ℕ) : ℕ → List (List ℕ) → ℕ → Fault → Type 0 where
  faulty_id :
      {n : ℕ} {above : List (List ℕ)} {at : ℕ} {found : Fault} → field_at (id_field (bytes "id=")) text at ≡ refused found →
      FaultyResource reader text (suc n) above at found
  repeated_id :
      {n : ℕ} {above : List (List ℕ)} {at : ℕ} {id : List ℕ} {next : ℕ} → field_at (id_field (bytes "id=")) text at ≡ got id next → stands_in id above ≡ true →
      FaultyResource reader text (suc n) above at (fault 8 at)
  faulty_lines :
      {n : ℕ} {above : List (List ℕ)} {at : ℕ} {found : Fault} {id : List ℕ} {next : ℕ} → new_id_at above text at ≡ got id next → reader text next ≡ refused found →
      FaultyResource reader text (suc n) above at found
  later_resource :
      {n : ℕ} {above : List (List ℕ)} {at : ℕ} {found : Fault} {id : List ℕ} {next : ℕ} {one : Resource} {after : ℕ} → new_id_at above text at ≡ got id next →
      reader text next ≡ got one after → FaultyResource reader text n (id ∷ above) after found → FaultyResource reader text (suc n) above at found

-- of a snapshot: the header's lines come first
pub data FaultyLine (text : List ℕ) : Fault → Type 0 where
  in_header : {found : Fault} → (read_fields header_fields text 0).end ≡ Err found → FaultyLine text found
  in_resources :
      {found : Fault} {h : Header} {next : ℕ} → lines_as header_of header_fields text 0 ≡ got h next →
      FaultyResource resource_at text (nat_abs h.count) [] next found → FaultyLine text found

abbrev pub FirstFaultyLineIsRefused : Type 0
FirstFaultyLineIsRefused = (text : List ℕ) (found : Fault) → due_lines text ≡ refused found → FaultyLine text found

-- ---- the refusals in checking order

-- refused by a number at a line
abbrev pub SnapshotRefusedBy : ℕ → ℕ → Result Snapshot Refusal → Type 0
SnapshotRefusedBy number line answer = (snapshot_number answer ≡ number) × (snapshot_line answer ≡ line)

-- the answer case by case; that the cases leave nothing out stands with pricing (`PricingIsRefusedFirst`)
pub record SnapshotInOrder (text : List ℕ) : Type 0 where
  -- 2 with line 0 for a text that is too long
  pub too_long : 1048576 < length text → SnapshotRefusedBy 2 0 (snapshot_sums (snapshot_in text))
  -- then the first faulty line, by its number
  pub faulty_line :
      (found : Fault) → length text ≤ 1048576 → due_lines text ≡ refused found →
      FaultyLine text found × SnapshotRefusedBy found.number (line_of text found.at) (snapshot_sums (snapshot_in text))
  -- then 9 with the line after the last due one
  pub bytes_after :
      (found : Contents) (next : ℕ) → length text ≤ 1048576 → due_lines text ≡ got found next → next < length text →
      SnapshotRefusedBy 9 (line_of text next) (snapshot_sums (snapshot_in text))
  -- then 15 with the line of the first marked number on a unit where that turns the snapshot back (document 02, W-206)
  pub suspect_number :
      (found : Contents) (next : ℕ) → length text ≤ 1048576 → due_lines text ≡ got found next → length text ≤ next →
      eqb (suspect_line (resources_of found.entries)) 0 ≡ false →
      SnapshotRefusedBy 15 (suspect_line (resources_of found.entries)) (snapshot_sums (snapshot_in text))
  -- nothing else is refused: the header and the sums are those of the lines
  pub accepted :
      (found : Contents) (next : ℕ) → length text ≤ 1048576 → due_lines text ≡ got found next → length text ≤ next →
      suspect_line (resources_of found.entries) ≡ 0 →
      snapshot_sums (snapshot_in text) ≡ Ok (record { header = found.header; sums = sums_of (resources_of found.entries) })

abbrev pub SnapshotIsRefusedFirst : Type 0
SnapshotIsRefusedFirst = (text : List ℕ) → SnapshotInOrder text
