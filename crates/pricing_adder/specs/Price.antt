-- Document 01, "The two prices".
use Rattle.std.specs.Prelude.{ℕ, ◌+◌, ◌*◌, ◌/◌, List, [], ◌∷◌, eqb, ℤ, pos, nat_abs, ◌-ℤ◌, get_or, cond, Result, Ok, Err}
use Rattle.integer.specs.Order.{max_ℤ}
use Rattle.curve_group.specs.Season.{group_of}
use Rattle.curve_set.specs.Curves.{curves_in_range}
use Rattle.curve_probability.specs.Probability.{online_probability, offline_probability}
use Rattle.curve_set.specs.declared.Pair.{Pair}
use Rattle.curve_set.specs.declared.CurveSet.{CurveSet}
use Rattle.pricing_sums.specs.Header.{header_fault}
use Rattle.pricing_sums.specs.Sums.{sums_possible}
use Rattle.pricing_adder.specs.Reserve.{online_reserve, total_reserve}
use Rattle.pricing_sums.specs.declared.Sums.{Sums}
use Rattle.pricing_sums.specs.declared.header.Header.{Header}
use Rattle.pricing_adder.specs.declared.price.Prices.{Prices}
use Rattle.text_refusal.specs.declared.refusal.Refusal.{Refusal}

-- the mean and the spread of the header's group
abbrev pub pair_for : CurveSet → Header → Pair
pair_for curves h = get_or curves.pairs (group_of (nat_abs h.month) (nat_abs h.hour)) (record { mean = pos 0; spread = pos 0 })

-- v = max(0, VOLL - lambda)
unfoldable pub value_of_reserve : CurveSet → Header → ℕ
value_of_reserve curves h = nat_abs (max_ℤ (pos 0) (curves.voll -ℤ h.lambda))

-- v × share / (2 × 10^9), rounded once, half up
unfoldable pub rounded : ℕ → ℕ → ℕ
rounded v share = (v * share + 1000000000) / 2000000000

-- piS of RS
unfoldable pub shortage_online : CurveSet → Header → Sums → ℕ
shortage_online curves h s =
    online_probability (online_reserve h s) curves.floor (pair_for curves h).mean (nat_abs (pair_for curves h).spread)

-- piNS of RSNS
unfoldable pub shortage_offline : CurveSet → Header → Sums → ℕ
shortage_offline curves h s =
    offline_probability (total_reserve h s) curves.floor (pair_for curves h).mean (nat_abs (pair_for curves h).spread)

-- both prices, each rounded once
unfoldable pub prices_of : CurveSet → Header → Sums → Prices
prices_of curves h s =
    record {
      rs = online_reserve h s;
      rsns = total_reserve h s;
      pis = shortage_online curves h s;
      pins = shortage_offline curves h s;
      online = rounded (value_of_reserve curves h) (shortage_online curves h s + shortage_offline curves h s);
      offline = rounded (value_of_reserve curves h) (shortage_offline curves h s);
    }

-- the six numbers in the order in which they are printed: `rs rsns pis pins online offline`
abbrev pub price_values : Prices → List ℤ
price_values p = p.rs ∷ p.rsns ∷ pos p.pis ∷ pos p.pins ∷ pos p.online ∷ pos p.offline ∷ []

-- prices, or a refusal
abbrev pub Pricing : Type 0
Pricing = Result Prices Refusal

-- document 01's number and line for each case of a pricing, both 0 where nothing is refused, and its six numbers, none where it is refused
abbrev pub pricing_number : Pricing → ℕ
pricing_number (Ok p) = 0
pricing_number (Err found) = found.number

abbrev pub pricing_line : Pricing → ℕ
pricing_line (Ok p) = 0
pricing_line (Err found) = found.line

abbrev pub pricing_values : Pricing → List ℤ
pricing_values (Ok p) = price_values p
pricing_values (Err found) = []

abbrev pub refused_pricing : ℕ → ℕ → Pricing
refused_pricing number line = Err (record { number = number; line = line })

-- pricing from sums: 1 for an impossible curve set, then for impossible sums, then 7 for a header value at its line
unfoldable pub sums_priced : CurveSet → Header → Sums → Pricing
sums_priced curves h s =
    cond (curves_in_range curves)
    (cond (sums_possible s)
    (cond (eqb (header_fault h) 0) (Ok (prices_of curves h s)) (refused_pricing 7 (header_fault h)))
    (refused_pricing 1 0))
    (refused_pricing 1 0)
