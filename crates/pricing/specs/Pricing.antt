-- Pricing a snapshot on a curve set. Refusals 1, then those of the snapshot.
use Rattle.std.specs.Prelude.{ℕ, List, cond, Ok, Err}
use Rattle.curve_set.specs.Curves.{curves_in_range}
use Rattle.curve_set.specs.declared.CurveSet.{CurveSet}
use Rattle.pricing_adder.specs.Price.{Pricing, prices_of, refused_pricing}
use Rattle.pricing_sums.specs.Part.{sums_of}
use Rattle.pricing_snapshot.specs.Snapshot.{SnapshotAnswer, read, refused_by, resources_of, snapshot_in}

abbrev pub priced_snapshot : CurveSet → SnapshotAnswer → Pricing
priced_snapshot curves (refused_by found) = Err found
priced_snapshot curves (read h entries) = Ok (prices_of curves h (sums_of (resources_of entries)))

-- 1 for an impossible curve set, then the snapshot's own refusals, then the prices, from the header and the five sums alone
unfoldable pub priced : CurveSet → List ℕ → Pricing
priced curves text = cond (curves_in_range curves) (priced_snapshot curves (snapshot_in text)) (refused_pricing 1 0)
