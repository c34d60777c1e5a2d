-- What reading a snapshot gives is in range: its header, and as many resources as `count` says.
use Prim.Native.Nat.{ℕ, zero, suc, ◌≤◌}
use native.Mathlib.Omega.{arith}
use mathlib.Core.Path.{◌≡◌, refl, ap}
use mathlib.Core.List.{List, [], ◌∷◌}
use lib.Dec.{lit<}
use lib.IntN.{ℤ, pos, neg_ℤ, nat_abs}
use lib.ListN.{length, length-map}
use Rattle.std.specs.Prelude.{Result, Ok, Err}
use Rattle.text_refusal.specs.declared.refusal.Fault.{Fault}
use Rattle.integer.proofs.Difference.{view, to_ℕ}
use Rattle.text_refusal.specs.Bytes.{bytes}
use Rattle.text_line.specs.Field.{LineAnswer, got}
use Rattle.text_schema.specs.Schema.{read_fields}
use Rattle.pricing_snapshot.specs.Snapshot.{header_fields, header_of, Entry, new_id_at, with_entry, resources_at, Contents, after_header, due_lines, SnapshotAnswer, read, snapshot_in, resources_of}
use Rattle.pricing_sums.specs.declared.header.Header.{Header}
use Rattle.pricing_resource_text.specs.Resource.{after_answer, of_lines, lines_as, resource_at}
use Rattle.pricing_resource.specs.Suspect.{suspect_line}
use Rattle.pricing_resource.specs.declared.Resource.{Resource}
use Rattle.pricing_resource.specs.internal.Range.{Between, ResourceInRange}
use Rattle.pricing_sums.proofs.Headers.{HeaderInRange}
use Rattle.pricing_sums.proofs.Parts.{AllInRange, none_in_range, one_in_range}
use Rattle.text_schema.proofs.Readings.{number_at}
use Rattle.pricing_resource_text.proofs.Readings.{followed, resource_read}
use Rattle.pricing_snapshot.proofs.Cases.{SnapshotCase, too_long, line_refused, bytes_after, suspect_number, whole, snapshot_case}

-- ---- the header

pub header_read : (text : List ℕ) (at next : ℕ) → (read_fields header_fields text at).end ≡ Ok next → HeaderInRange (header_of (read_fields header_fields text at).values)
unfolding header_fields
header_read text at next e =
    record {
      month = number_at header_fields text at next e 0 (lit< tt) (bytes "month=") (pos 1) (pos 12) refl;
      hour = number_at header_fields text at next e 1 (lit< tt) (bytes "hour=") (pos 0) (pos 23) refl;
      lambda = number_at header_fields text at next e 2 (lit< tt) (bytes "lambda=") (neg_ℤ (pos 2000000)) (pos 2000000) refl;
      factor = number_at header_fields text at next e 3 (lit< tt) (bytes "factor=") (pos 0) (pos 10000) refl;
      prc = number_at header_fields text at next e 4 (lit< tt) (bytes "prc=") (pos 0) (pos 200000000) refl;
      eea1 = number_at header_fields text at next e 5 (lit< tt) (bytes "eea1=") (pos 0) (pos 200000000) refl;
      short = number_at header_fields text at next e 6 (lit< tt) (bytes "short=") (pos 0) (pos 200000000) refl;
      count = number_at header_fields text at next e 7 (lit< tt) (bytes "count=") (pos 0) (pos 4096) refl;
    }

-- ---- the resources

-- what reading gives: as many entries as were due, each in range
pub record EntriesRead (n : ℕ) (entries : List Entry) : Type 0 where
  pub counted : length entries ≡ n
  pub ranged : AllInRange (resources_of entries)

-- over any reader of one resource whose resources are in range
module _ (reader : List ℕ → ℕ → LineAnswer Resource) (known : (text : List ℕ) (at : ℕ) (one : Resource) (next : ℕ) → reader text at ≡ got one next → ResourceInRange one) where
  pub entries_read : (n : ℕ) (above : List (List ℕ)) (text : List ℕ) (at : ℕ) {entries : List Entry} {next : ℕ} → resources_at reader n above text at ≡ got entries next → EntriesRead n entries
  unfolding resources_at
  entries_read zero above text at {entries} e = let none : entries ≡ [] = cc in rw none (record { counted = refl; ranged = none_in_range })
  entries_read (suc n) above text at {entries} {next} e =
      let rest : List ℕ → Resource → ℕ → LineAnswer (List Entry) =
      λ id one after. after_answer (resources_at reader n (id ∷ above) text after) (λ others last. got (with_entry id one others) last) in
      let f = followed (new_id_at above text at) (λ id next. after_answer (reader text next) (rest id)) e in
      let g = followed (reader text f.after) (rest f.one) f.then in
      let h = followed (resources_at reader n (f.one ∷ above) text g.after) (λ others last. got (with_entry f.one g.one others) last) g.then in
      let others = entries_read n (f.one ∷ above) text g.after h.given in
      let all : with_entry f.one g.one h.one ≡ entries = cc h.then in
      rw (← all)
      (record {
        counted = ap suc others.counted;
        ranged = one_in_range (known text f.after g.one g.after g.given) others.ranged;
      })

-- ---- the snapshot

pub record SnapshotRead (h : Header) (entries : List Entry) : Type 0 where
  pub header : HeaderInRange h
  pub resources : EntriesRead (nat_abs h.count) entries

-- what the due lines hold is in range
lines_read : (text : List ℕ) {found : Contents} {next : ℕ} → due_lines text ≡ got found next → SnapshotRead found.header found.entries
unfolding due_lines
lines_read text {found} {next} e =
    let f = followed (lines_as header_of header_fields text 0) (λ h after. after_header text h after) e in
    let h = f.one in
    let g = followed (resources_at resource_at (nat_abs h.count) [] text f.after) (λ entries last. got (record { header = h; entries = entries }) last) f.then in
    let all = entries_read resource_at (λ text at one next e. resource_read text at e) (nat_abs h.count) [] text f.after g.given in
    let same : record { header = h; entries = g.one } ≡ found = cc g.then in
    rw (← same) (record { header = header_in (read_fields header_fields text 0).end refl f.given; resources = all })
  where
    header_in :
        {h : Header} {after : ℕ} (e : Result ℕ Fault) → (read_fields header_fields text 0).end ≡ e →
        of_lines header_of (read_fields header_fields text 0).values e ≡ got h after → HeaderInRange h
    header_in {h} (Ok next) given p =
        let is : header_of (read_fields header_fields text 0).values ≡ h = cc (p) in
        rw (← is) (header_read text 0 next given)
    header_in (Err found) given p = let z : ◌≡◌ {A = ℕ} 0 1 = cc in absurd (omega arith)

-- a snapshot that was read: its header is in range, and it has as many resources as `count` says, each in range
pub snapshot_read : (text : List ℕ) {h : Header} {entries : List Entry} → snapshot_in text ≡ read h entries → SnapshotRead h entries
snapshot_read text {h} {entries} p = go (snapshot_in text) (snapshot_case text) p
  where
    go : (a : SnapshotAnswer) → SnapshotCase text a → a ≡ read h entries → SnapshotRead h entries
    go a (too_long long) p = let z : ◌≡◌ {A = ℕ} 0 1 = cc in absurd (omega arith)
    go a (line_refused short due) p = let z : ◌≡◌ {A = ℕ} 0 1 = cc in absurd (omega arith)
    go a (bytes_after short due more) p = let z : ◌≡◌ {A = ℕ} 0 1 = cc in absurd (omega arith)
    go a (suspect_number short due over marked) p = let z : ◌≡◌ {A = ℕ} 0 1 = cc in absurd (omega arith)
    go a (whole {found} short due over fine) p =
        let h_is : found.header ≡ h = cc in
        let entries_is : found.entries ≡ entries = cc in
        rw (← h_is, ← entries_is) (lines_read text due)

-- and no mark turned it back
pub snapshot_unmarked : (text : List ℕ) {h : Header} {entries : List Entry} → snapshot_in text ≡ read h entries → suspect_line (resources_of entries) ≡ 0
snapshot_unmarked text {h} {entries} p = go (snapshot_in text) (snapshot_case text) p
  where
    go : (a : SnapshotAnswer) → SnapshotCase text a → a ≡ read h entries → suspect_line (resources_of entries) ≡ 0
    go a (too_long long) p = let z : ◌≡◌ {A = ℕ} 0 1 = cc in absurd (omega arith)
    go a (line_refused short due) p = let z : ◌≡◌ {A = ℕ} 0 1 = cc in absurd (omega arith)
    go a (bytes_after short due more) p = let z : ◌≡◌ {A = ℕ} 0 1 = cc in absurd (omega arith)
    go a (suspect_number short due over marked) p = let z : ◌≡◌ {A = ℕ} 0 1 = cc in absurd (omega arith)
    go a (whole {found} short due over fine) p = let entries_is : found.entries ≡ entries = cc in rw (← entries_is) fine

pub few : (z : ℤ) → Between (pos 0) (pos 4096) z → nat_abs z ≤ 4096
few z = rw (view z) (simp to_ℕ (omega arith))

-- so its sums are possible, and it has at most 4096 resources
pub few_resources : {h : Header} {entries : List Entry} → SnapshotRead h entries → length (resources_of entries) ≤ 4096
few_resources {h} {entries} r =
    let n : nat_abs h.count ≤ 4096 = few h.count r.header.count in
    omega (arith, length-map entries (λ (entry : Entry). entry.resource), r.resources.counted)
