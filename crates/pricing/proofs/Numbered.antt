-- Every refusal of a snapshot has one of the numbers 1 to 9 or 15, at a line of its text or the one after its last.
use Prim.Native.Nat.{ℕ}
use native.Mathlib.Omega.{arith}
use mathlib.Core.List.{List}
use mathlib.Core.Path.{subst}
use Rattle.std.specs.Prelude.{Ok, Err}
use Rattle.text_refusal.specs.Bytes.{bytes}
use Rattle.text_refusal.specs.Refusal.{fault}
use Rattle.text_refusal.specs.declared.refusal.Fault.{Fault}
use Rattle.text_refusal.proofs.Refusals.{Listed, fault_listed}
use Rattle.text_line.proofs.FieldTexts.{OfLines, LineNumbered, field_numbered}
use Rattle.text_id.specs.Id.{id_field}
use Rattle.text_id.proofs.Ids.{id_numbered}
use Rattle.text_schema.proofs.Fields.{LinesNumbered, reading_numbered, schema_numbered}
use Rattle.curve_set.specs.declared.CurveSet.{CurveSet}
use Rattle.pricing_resource_text.specs.Resource.{resource_at}
use Rattle.pricing_resource_text.proofs.Numbered.{resource_numbered}
use Rattle.pricing_snapshot.specs.Snapshot.{header_fields, SnapshotAnswer, read, refused_by, snapshot_in}
use Rattle.pricing_snapshot.specs.Promises.{FaultyResource, faulty_id, repeated_id, faulty_lines, later_resource, FaultyLine, in_header, in_resources}
use Rattle.pricing_snapshot.proofs.Cases.{SnapshotCase, too_long, line_refused, bytes_after, suspect_number, whole, snapshot_case, first_faulty_line_is_refused}
use Rattle.pricing_snapshot.proofs.SuspectLine.{suspect_line_lem}
use Rattle.pricing_snapshot.proofs.Snapshots.{header_schema}
use Rattle.pricing_adder.specs.Price.{Pricing}
use Rattle.pricing.specs.Pricing.{priced}
use Rattle.pricing.proofs.Pricing.{PricedCase, impossible_curves, refused_snapshot, prices_given, priced_case}

-- the first faulty line of the resources is numbered, whichever it is
faulty_resource_numbered : {text : List ℕ} {n : ℕ} {above : List (List ℕ)} {at : ℕ} {found : Fault} → FaultyResource resource_at text n above at found → OfLines found.number
faulty_resource_numbered {text} {n} {above} {at} (faulty_id e) = subst LineNumbered e (field_numbered (id_field (bytes "id=")) text at (id_numbered (bytes "id=")))
faulty_resource_numbered (repeated_id e stands) = (omega arith, omega arith)
faulty_resource_numbered {text} (faulty_lines {next = next} new e) = subst LineNumbered e (resource_numbered text next)
faulty_resource_numbered (later_resource new e later) = faulty_resource_numbered later

faulty_line_numbered : {text : List ℕ} {found : Fault} → FaultyLine text found → OfLines found.number
faulty_line_numbered {text} (in_header e) = subst LinesNumbered e (reading_numbered header_fields (schema_numbered header_schema) text 0)
faulty_line_numbered (in_resources e later) = faulty_resource_numbered later

abbrev pub SnapshotListed : List ℕ → SnapshotAnswer → Type 0
SnapshotListed text (read h entries) = Unit
SnapshotListed text (refused_by found) = Listed text found

pub snapshot_listed : (text : List ℕ) → SnapshotListed text (snapshot_in text)
snapshot_listed text = go (snapshot_in text) (snapshot_case text)
  where
    go : (a : SnapshotAnswer) → SnapshotCase text a → SnapshotListed text a
    go a (too_long long) = record { least = omega arith; most = omega arith; line = omega arith }
    go a (line_refused {found} short due) =
        let n = faulty_line_numbered (first_faulty_line_is_refused text found due) in
        fault_listed text found n.0 (let few = n.1 in omega arith)
    go a (bytes_after {next = next} short due more) = fault_listed text (fault 9 next) (omega arith) (omega arith)
    go a (suspect_number short due over marked) = record { least = omega arith; most = omega arith; line = omega (arith, suspect_line_lem text due) }
    go a (whole short due over fine) = tt

abbrev pub PricingListed : List ℕ → Pricing → Type 0
PricingListed text (Ok prices) = Unit
PricingListed text (Err found) = Listed text found

pub pricing_listed : (curves : CurveSet) (text : List ℕ) → PricingListed text (priced curves text)
pricing_listed curves text = go (priced curves text) (priced_case curves text)
  where
    go : (a : Pricing) → PricedCase curves text a → PricingListed text a
    go a (impossible_curves i) = record { least = omega arith; most = omega arith; line = omega arith }
    go a (refused_snapshot possible is) = subst (SnapshotListed text) is (snapshot_listed text)
    go a (prices_given possible is) = tt
