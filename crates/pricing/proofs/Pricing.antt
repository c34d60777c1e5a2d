-- Pricing a snapshot, from what its reader and the price argument say.
use Prim.Native.Nat.{ℕ}
use mathlib.Core.Path.{◌≡◌, refl, sym, ◌∙◌}
use mathlib.Core.Bool.{Bool, true, false, cond}
use mathlib.Core.List.{List}
use Rattle.std.specs.Prelude.{Result, Ok, Err}
use Rattle.text_refusal.specs.declared.refusal.Refusal.{Refusal}
use Rattle.curve_set.specs.Curves.{curves_in_range}
use Rattle.curve_set.specs.declared.CurveSet.{CurveSet}
use Rattle.pricing_adder.specs.Price.{Pricing, prices_of, sums_priced, refused_pricing}
use Rattle.pricing_sums.specs.declared.header.Header.{Header}
use Rattle.pricing_adder.proofs.Accepted.{sums_priced_lem}
use Rattle.pricing_sums.specs.Part.{sums_of}
use Rattle.pricing_sums.proofs.Parts.{sums_possible_lem}
use Rattle.pricing_snapshot.specs.Snapshot.{Entry, resources_of, SnapshotAnswer, read, refused_by, snapshot_in, snapshot_sums}
use Rattle.pricing_snapshot.specs.declared.Snapshot.{Snapshot}
use Rattle.pricing_sums.proofs.Headers.{header_fault_lem}
use Rattle.pricing_snapshot.proofs.Cases.{SnapshotCase, too_long, line_refused, bytes_after, suspect_number, whole, snapshot_case, case_long, case_refused, case_after, case_suspect, case_whole, first_faulty_line_is_refused}
use Rattle.pricing_snapshot.proofs.Readings.{snapshot_read, few_resources}
use Rattle.pricing.specs.Pricing.{priced_snapshot, priced}
use Rattle.pricing.specs.Promises.{PricingOutcome, outcome, PricingCase, impossible_set, text_too_long, faulty_line, bytes_after_lines, number_suspect, snapshot_priced, PricingIsRefusedFirst, PricesEqualTheFormulas, PricesDependOnHeaderAndSums}

-- ---- how pricing ends, case by case

pub data PricedCase (curves : CurveSet) (text : List ℕ) : Pricing → Type 0 where
  impossible_curves : curves_in_range curves ≡ false → PricedCase curves text (refused_pricing 1 0)
  refused_snapshot : {found : Refusal} → curves_in_range curves ≡ true → snapshot_in text ≡ refused_by found → PricedCase curves text (Err found)
  prices_given :
      {h : Header} {entries : List Entry} → curves_in_range curves ≡ true → snapshot_in text ≡ read h entries →
      PricedCase curves text (Ok (prices_of curves h (sums_of (resources_of entries))))

pub priced_case : (curves : CurveSet) (text : List ℕ) → PricedCase curves text (priced curves text)
unfolding priced
priced_case curves text = go (curves_in_range curves) refl (snapshot_in text) refl
  where
    go :
        (b : Bool) → curves_in_range curves ≡ b → (a : SnapshotAnswer) → snapshot_in text ≡ a →
        PricedCase curves text (cond b (priced_snapshot curves a) (refused_pricing 1 0))
    go false e a is = impossible_curves e
    go true e (refused_by found) is = refused_snapshot e is
    go true e (read h entries) is = prices_given e is

-- ---- from the readers' answers

pub priced_refused : (curves : CurveSet) (text : List ℕ) → curves_in_range curves ≡ false → refused_pricing 1 0 ≡ priced curves text
unfolding priced
priced_refused curves text e = rw e

module _ (curves : CurveSet) (text : List ℕ) (possible : curves_in_range curves ≡ true) {answer : Result Snapshot Refusal} (given : answer ≡ snapshot_sums (snapshot_in text)) where
  pub priced_turned : {found : Refusal} → answer ≡ Err found → Err found ≡ priced curves text
  unfolding priced
  priced_turned {found} is = rw possible (go (snapshot_in text) (sym is ∙ given))
    where
      go : (a : SnapshotAnswer) → Err found ≡ snapshot_sums a → Err found ≡ priced_snapshot curves a
      go (refused_by other) e = cc
      go (read h entries) e = cc

  -- the sums of a snapshot that was read are possible and its header is in range, so pricing from them refuses nothing
  pub priced_sums : {one : Snapshot} → answer ≡ Ok one → sums_priced curves one.header one.sums ≡ priced curves text
  unfolding priced
  priced_sums {one} is = rw possible (go (snapshot_in text) refl (sym is ∙ given))
    where
      go : (a : SnapshotAnswer) → snapshot_in text ≡ a → Ok one ≡ snapshot_sums a → sums_priced curves one.header one.sums ≡ priced_snapshot curves a
      go (refused_by other) same e = cc
      go (read h entries) same e =
          let r = snapshot_read text same in
          let one_is : ◌≡◌ {A = Snapshot} one (record { header = h; sums = sums_of (resources_of entries) }) = cc in
          rw one_is
          (sums_priced_lem curves h (sums_of (resources_of entries)) possible (sums_possible_lem r.resources.ranged (few_resources r)) (header_fault_lem r.header))

-- ---- demands 1 and 2

module _ (curves : CurveSet) (text : List ℕ) where
  pricing_applies : PricingCase curves text (outcome (priced curves text))
  unfolding priced
  pricing_applies = go (curves_in_range curves) refl (snapshot_in text) (snapshot_case text)
    where
      go : (b : Bool) → curves_in_range curves ≡ b → (a : SnapshotAnswer) → SnapshotCase text a → PricingCase curves text (outcome (cond b (priced_snapshot curves a) (refused_pricing 1 0)))
      go false e a by_snapshot = impossible_set e
      go true e a (too_long long) = text_too_long e long
      go true e a (line_refused {found} short due) = faulty_line found e short due (first_faulty_line_is_refused text found due)
      go true e a (bytes_after {found} {next} short due more) = bytes_after_lines found next e short due more
      go true e a (suspect_number {found} {next} short due over marked) = number_suspect found next e short due over marked
      go true e a (whole {found} {next} short due over fine) = snapshot_priced found next e short due over fine

  pricing_only : (other : PricingOutcome) → PricingCase curves text other → other ≡ outcome (priced curves text)
  unfolding priced
  pricing_only other (impossible_set impossible) = rw impossible
  pricing_only other (text_too_long possible long) = rw (possible, case_long text long)
  pricing_only other (faulty_line found possible short due faulty) = rw (possible, case_refused text short due)
  pricing_only other (bytes_after_lines found next possible short due more) = rw (possible, case_after text short due more)
  pricing_only other (number_suspect found next possible short due over marked) = rw (possible, case_suspect text short due over marked)
  pricing_only other (snapshot_priced found next possible short due over fine) = rw (possible, case_whole text short due over fine)

pub pricing_is_refused_first : PricingIsRefusedFirst
pricing_is_refused_first curves text = record { applies = pricing_applies curves text; only = pricing_only curves text }

pub prices_equal_the_formulas : PricesEqualTheFormulas
unfolding priced
prices_equal_the_formulas curves text h entries possible is = rw (possible, is)

pub prices_depend_on_header_and_sums : PricesDependOnHeaderAndSums
unfolding priced
prices_depend_on_header_and_sums curves text text' h entries entries' is is' same = rw (is, is', same)
