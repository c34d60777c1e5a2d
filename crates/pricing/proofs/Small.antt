-- The numbers of every pricing are small: reserves of at most 100000000000 kW, shares of at most one, prices of at most 40000 dollars per MWh.
use Prim.Native.Nat.{ℕ, ◌≤◌}
use native.Mathlib.Omega.{arith}
use mathlib.Core.List.{List}
use lib.IntN.{nat_abs}
use Rattle.std.specs.Prelude.{Ok, Err}
use Rattle.curve_set.specs.declared.CurveSet.{CurveSet}
use Rattle.pricing_adder.specs.Price.{Pricing, value_of_reserve}
use Rattle.pricing_adder.specs.declared.price.Prices.{Prices}
use Rattle.pricing_sums.proofs.Headers.{header_fault_lem, header_bound}
use Rattle.pricing_sums.proofs.SumsBounds.{sums_bound}
use Rattle.pricing_sums.proofs.Parts.{sums_possible_lem}
use Rattle.pricing_adder.proofs.Bounds.{curves_bound, value_bound, online_reserve_bound, total_reserve_bound, shortage_online_bound, shortage_offline_bound}
use Rattle.pricing_adder.proofs.Prices.{price_rs, price_rsns, price_pis, price_pins}
use Rattle.pricing_order.proofs.Order.{offline_online_value}
use Rattle.pricing_sums.specs.Part.{sums_of}
use Rattle.pricing_snapshot.specs.Snapshot.{resources_of}
use Rattle.pricing.specs.Pricing.{priced}
use Rattle.pricing_snapshot.proofs.Readings.{snapshot_read, few_resources}
use Rattle.pricing.proofs.Pricing.{PricedCase, impossible_curves, refused_snapshot, prices_given, priced_case}

pub record SmallPrices (p : Prices) : Type 0 where
  pub rs : nat_abs p.rs ≤ 100000000000
  pub rsns : nat_abs p.rsns ≤ 100000000000
  pub pis : p.pis ≤ 1000000000
  pub pins : p.pins ≤ 1000000000
  pub online : p.online ≤ 4000000
  pub offline : p.offline ≤ 4000000

abbrev pub SmallPricing : Pricing → Type 0
SmallPricing (Ok prices) = SmallPrices prices
SmallPricing (Err found) = Unit

pub priced_small : (curves : CurveSet) (text : List ℕ) → SmallPricing (priced curves text)
priced_small curves text = go (priced curves text) (priced_case curves text)
  where
    go : (a : Pricing) → PricedCase curves text a → SmallPricing a
    go a (impossible_curves i) = tt
    go a (refused_snapshot possible is) = tt
    go a (prices_given {h} {entries} possible is) =
        let s = sums_of (resources_of entries) in
        let r = snapshot_read text is in
        let header = header_bound h (header_fault_lem r.header) in
        let sums = sums_bound s (sums_possible_lem r.resources.ranged (few_resources r)) in
        let value : value_of_reserve curves h ≤ 4000000 = value_bound (curves_bound curves possible) header in
        let most = offline_online_value curves h s in
        record {
          rs = rw (price_rs curves h s) (online_reserve_bound header sums);
          rsns = rw (price_rsns curves h s) (total_reserve_bound header sums);
          pis = rw (price_pis curves h s) (shortage_online_bound curves h s);
          pins = rw (price_pins curves h s) (shortage_offline_bound curves h s);
          online = omega (arith, most.1, value);
          offline = omega (arith, most.0, most.1, value);
        }
