-- Document 01's listing and neighbours of it, by computation: each tells the definition from a wrong program, among them those of another shape than ours.
use Prim.Native.Nat.{ℕ, ◌+◌}
use mathlib.Core.Path.{◌≡◌, refl}
use mathlib.Core.List.{[], ◌∷◌}
use lib.IntN.{ℤ, pos, negsuc, ◌*ℤ◌}
use lib.ListN.{replicate}
use Rattle.std.specs.Prelude.{Ok}
use Rattle.integer.specs.Floor.{floor_div}
use Rattle.integer.specs.Order.{min_ℤ, max_ℤ}
use Rattle.normal.specs.Knot.{knot}
use Rattle.normal.specs.Normal.{interpolated, upper, normal}
use Rattle.curve_group.specs.Season.{group_of, season_of, block_of}
use Rattle.curve_set.specs.Curves.{curves_in_range, pairs_in_range}
use Rattle.curve_probability.specs.Probability.{online_probability, offline_probability}
use Rattle.curve_set.specs.declared.CurveSet.{CurveSet}
use Rattle.pricing_sums.specs.Header.{fault_from, header_fault}
use Rattle.pricing_sums.specs.Sums.{sums_possible}
use Rattle.pricing_adder.specs.Reserve.{twice_loads, twice_online, twice_all, discounted, online_reserve, total_reserve}
use Rattle.pricing_adder.specs.Price.{value_of_reserve, rounded, shortage_online, shortage_offline, prices_of, sums_priced}
use Rattle.pricing_sums.specs.declared.Sums.{Sums}
use Rattle.pricing_sums.specs.declared.header.Header.{Header}
use Rattle.pricing_adder.specs.Price.{Pricing}

abbrev curves : ℤ → CurveSet
curves mean = record { voll = pos 900000; floor = pos 2000000; pairs = replicate 24 (record { mean = mean; spread = pos 1000000 }) }

abbrev header : ℤ → ℤ → ℤ → ℤ → Header
header lambda factor prc short =
    record { month = pos 7; hour = pos 14; lambda = lambda; factor = factor; prc = prc; eea1 = pos 2300000; short = short; count = pos 3 }

-- the units A and B on line, C off line with Non-Spin
abbrev units : Sums
units = record { generation = pos 2707000; controllable = pos 0; offline = pos 293000; validated = pos 0; responsive = pos 0 }

abbrev answer : ℤ → ℤ → ℕ → ℕ → ℕ → ℕ → Pricing
answer rs rsns pis pins online offline =
    Ok (record { rs = rs; rsns = rsns; pis = pis; pins = pins; online = online; offline = offline })

pub listings :
    -- as printed: each price is rounded once
    sums_priced (curves (pos 0)) (header (pos 2500) (pos 10000) (pos 3000000) (pos 0)) units
    -- PRC equal to the PRC at which EEA Level 1 starts: D is not counted, and the two probabilities differ at one reserve
    ∷ sums_priced (curves (pos 0)) (header (pos 2500) (pos 10000) (pos 2300000) (pos 0)) units
    -- more under-generation, and a higher mean: both prices rise
    ∷ sums_priced (curves (pos 0)) (header (pos 2500) (pos 10000) (pos 3000000) (pos 100000)) units
    ∷ sums_priced (curves (pos 100000)) (header (pos 2500) (pos 10000) (pos 3000000) (pos 0)) units
    -- lambda at VOLL and above it
    ∷ sums_priced (curves (pos 0)) (header (pos 900000) (pos 10000) (pos 3000000) (pos 0)) units
    ∷ sums_priced (curves (pos 0)) (header (pos 900001) (pos 10000) (pos 3000000) (pos 0)) units
    ∷ []
    ≡ answer (pos 2707000) (pos 3000000) 158655254 158655254 142393 71197
    ∷ answer (pos 2707000) (pos 2707000) 158655254 239785544 178800 107604
    ∷ answer (pos 2607000) (pos 2900000) 195293868 184060125 170235 82597
    ∷ answer (pos 2707000) (pos 3000000) 176373156 184060125 161744 82597
    ∷ answer (pos 2707000) (pos 3000000) 158655254 158655254 0 0
    ∷ answer (pos 2707000) (pos 3000000) 158655254 158655254 0 0
    ∷ []
unfolding sums_priced curves_in_range pairs_in_range sums_possible fault_from header_fault prices_of value_of_reserve rounded shortage_online shortage_offline online_probability offline_probability normal upper interpolated knot group_of season_of block_of online_reserve total_reserve discounted twice_online twice_all twice_loads floor_div min_ℤ max_ℤ
listings = refl

-- two rounded prices added make 142394 of the listing's on-line price
pub two_rounded : rounded 897500 158655254 + rounded 897500 158655254 ≡ 142394
unfolding rounded
two_rounded = refl

-- one other load, validated: its net, LPC 0, RRS 3
abbrev load : ℤ → Sums
load net = record { generation = pos 0; controllable = pos 0; offline = pos 0; validated = net; responsive = pos 3 }

pub reserves :
    -- the cap of 4.5 kW, and with a short of 5, where rounding toward zero gives 0 and adding it 9
    online_reserve (header (pos 0) (pos 10000) (pos 0) (pos 0)) (load (pos 10))
    ∷ online_reserve (header (pos 0) (pos 10000) (pos 0) (pos 5)) (load (pos 10))
    -- the total kept at zero or above
    ∷ online_reserve (header (pos 0) (pos 10000) (pos 0) (pos 0)) (load (negsuc 9))
    -- at a factor of 0.9 the half kW of the cap counts; lost before the factor it gives 3
    ∷ online_reserve (header (pos 0) (pos 9000) (pos 0) (pos 0)) (load (pos 10))
    ∷ discounted (header (pos 0) (pos 9000) (pos 0) (pos 0)) (pos 2 *ℤ floor_div (twice_loads (load (pos 10))) 2)
    ∷ []
    ≡ pos 4 ∷ negsuc 0 ∷ pos 0 ∷ pos 4 ∷ pos 3 ∷ []
unfolding online_reserve discounted twice_online twice_loads floor_div min_ℤ max_ℤ
reserves = refl
