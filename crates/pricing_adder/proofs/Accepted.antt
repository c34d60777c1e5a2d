-- What the tests of a pricing from sums let through.
use mathlib.Core.Path.{◌≡◌}
use mathlib.Core.Bool.{true}
use Rattle.curve_set.specs.Curves.{curves_in_range}
use Rattle.curve_set.specs.declared.CurveSet.{CurveSet}
use Rattle.pricing_sums.specs.Header.{header_fault}
use Rattle.pricing_sums.specs.Sums.{sums_possible}
use Rattle.pricing_adder.specs.Price.{prices_of, sums_priced}
use Rattle.pricing_sums.specs.declared.Sums.{Sums}
use Rattle.pricing_sums.specs.declared.header.Header.{Header}
use Rattle.std.specs.Prelude.{Ok}

-- possible curves and sums and a header in range are priced
pub sums_priced_lem :
    (curves : CurveSet) (h : Header) (s : Sums) → curves_in_range curves ≡ true → sums_possible s ≡ true → header_fault h ≡ 0 →
    sums_priced curves h s ≡ Ok (prices_of curves h s)
unfolding sums_priced
sums_priced_lem curves h s c p e = rw (c, p, e)
