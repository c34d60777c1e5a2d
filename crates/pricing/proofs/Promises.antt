-- Demand 3: the three statements of specs/Promises.antt, from the argument on prices, the order of prices and the fall of the means, which the crates below prove.
use Prim.Native.Nat.{ℕ}
use mathlib.Core.Path.{◌≡◌, refl, sym, ◌∙◌}
use mathlib.Core.List.{List}
use lib.Signed.{≤ℤ_refl}
use Rattle.std.specs.Prelude.{Ok}
use Rattle.curve_set.specs.declared.CurveSet.{CurveSet}
use Rattle.pricing_adder.specs.Price.{Pricing, pair_for, prices_of}
use Rattle.pricing_order.specs.Promises.{CurvesLowered}
use Rattle.pricing_order.proofs.Order.{more_reserve_never_raises_prices, offline_online_value}
use Rattle.pricing_sums.specs.declared.header.Header.{Header}
use Rattle.pricing_adder.specs.declared.price.Prices.{Prices}
use Rattle.pricing_sums.specs.Part.{sums_of}
use Rattle.pricing_snapshot.specs.Snapshot.{Entry, SnapshotAnswer, read, snapshot_in, resources_of}
use Rattle.pricing.specs.Pricing.{priced}
use Rattle.pricing.specs.Promises.{SnapshotRaised, snapshot_raised, NeitherPriceRises, RaisedReserveNeverRaisesPrices, RaisedReserveNeverRaisesPricesOnCurves, OfflineOnlineValueInOrder}
use Rattle.pricing.proofs.Pricing.{PricedCase, impossible_curves, refused_snapshot, prices_given, priced_case}
use Rattle.pricing.proofs.Raised.{raised_sums}
use Rattle.pricing_sums.proofs.Parts.{offline_nonneg}
use Rattle.pricing_sums.proofs.Headers.{HeaderInRange}
use Rattle.pricing_snapshot.proofs.Readings.{snapshot_read}
use Rattle.pricing.proofs.Settling.{curves_lowered}

-- the prices of an accepted pricing
prices_are :
    (curves : CurveSet) (text : List ℕ) {h : Header} {entries : List Entry} {prices : Prices} → snapshot_in text ≡ read h entries →
    priced curves text ≡ Ok prices → prices_of curves h (sums_of (resources_of entries)) ≡ prices
prices_are curves text {h} {entries} {prices} is e = go (priced curves text) (priced_case curves text) e
  where
    go : (a : Pricing) → PricedCase curves text a → a ≡ Ok prices → prices_of curves h (sums_of (resources_of entries)) ≡ prices
    go a (impossible_curves i) e = cc
    go a (refused_snapshot possible same) e = cc
    go a (prices_given {h = h'} {entries = entries'} possible same) e =
        let both : read h entries ≡ read h' entries' = sym is ∙ same in
        let h_is : h ≡ h' = cc in
        let entries_is : entries ≡ entries' = cc in
        rw (h_is, entries_is) cc

-- on any two curve sets of which the second is lower in the groups of headers in range
raised :
    (first second : CurveSet) (text text' : List ℕ) (prices prices' : Prices) (a a' : SnapshotAnswer) → snapshot_in text ≡ a → snapshot_in text' ≡ a' →
    ((h : Header) → HeaderInRange h → CurvesLowered h first second) → SnapshotRaised a a' →
    priced first text ≡ Ok prices → priced second text' ≡ Ok prices' → NeitherPriceRises prices prices'
raised first second text text' prices prices' a a' is is' lower (snapshot_raised {h} {h'} {entries} {entries'} header all) e e' =
    let r = snapshot_read text is in
    rw (← prices_are first text is e, ← prices_are second text' is' e')
    (more_reserve_never_raises_prices first second h h' (sums_of (resources_of entries)) (sums_of (resources_of entries')) r.header.factor.0 (offline_nonneg r.resources.ranged)
    header (lower h r.header) (raised_sums all))

pub raised_reserve_never_raises_prices_on_curves : RaisedReserveNeverRaisesPricesOnCurves
raised_reserve_never_raises_prices_on_curves curves snapshot snapshot' first second up e e' =
    raised curves curves snapshot snapshot' first second (snapshot_in snapshot) (snapshot_in snapshot') refl refl
    (λ h ranged. record { voll = refl; floor = refl; mean = ≤ℤ_refl (pair_for curves h).mean; spread = refl }) up e e'

pub raised_reserve_never_raises_prices : RaisedReserveNeverRaisesPrices
raised_reserve_never_raises_prices d texts texts' voll floor curves curves' snapshot snapshot' first second lists accepted accepted' up e e' =
    raised curves curves' snapshot snapshot' first second (snapshot_in snapshot) (snapshot_in snapshot') refl refl
    (curves_lowered d texts texts' voll floor curves curves' lists accepted accepted') up e e'

pub offline_online_value_in_order : OfflineOnlineValueInOrder
offline_online_value_in_order curves snapshot h entries prices is e =
    rw (← prices_are curves snapshot is e) (offline_online_value curves h (sums_of (resources_of entries)))
