-- What is printed has at most 256 bytes: the reserves of an accepted snapshot are small, and so are a refusal's number and line.
use Prim.Native.Nat.{ℕ, suc, ◌+◌, ◌^◌, ◌≤◌, ◌<◌}
use native.Mathlib.Omega.{arith}
use mathlib.Core.Bool.{Bool, true, false, cond}
use mathlib.Core.List.{List}
use mathlib.Core.Path.{◌≡◌, refl}
use borrow.Author.Tests.{ltb-false}
use lib.Dec.{ltb}
use lib.IntN.{ℤ, pos, nat_abs}
use lib.ListN.{length, length-append, length-take, length-drop}
use Rattle.std.specs.Prelude.{Result, Ok, Err}
use Rattle.text_refusal.specs.Answer.{answer_of}
use Rattle.pricing_adder.specs.Price.{Pricing}
use Rattle.text_refusal.specs.Bytes.{bytes}
use Rattle.text_refusal.specs.declared.refusal.Refusal.{Refusal}
use Rattle.text_number.specs.Number.{written_number}
use Rattle.text_writer.specs.Write.{written_numbers}
use Rattle.text_writer.specs.Output.{refusal_lines}
use Rattle.text_number.proofs.WrittenDigits.{written_within}
use Rattle.text_schema.proofs.Fields.{keys_computed}
use Rattle.text_writer.proofs.Refused.{refusal_short}
use Rattle.curve_set.specs.declared.CurveSet.{CurveSet}
use Rattle.curve_text.specs.CurveText.{read_curves}
use Rattle.pricing_adder.specs.declared.price.Prices.{Prices}
use Rattle.pricing.specs.Pricing.{priced}
use Rattle.pricing.proofs.Small.{SmallPrices, SmallPricing, priced_small}
use Rattle.program_price.specs.Program.{before_empty_line, curve_part, snapshot_part, price_lines, printed_prices, on_curves, price_output}
use Rattle.program_price.specs.Promises.{PriceOutputIsShort}
use Rattle.text_refusal.proofs.Refusals.{Listed}
use Rattle.curve.proofs.Numbered.{AnswerListed, curves_listed}
use Rattle.pricing.proofs.Numbered.{PricingListed, pricing_listed}

-- ---- the lines

number_short : (z : ℤ) → nat_abs z < 2 ^ 64 → length (written_number z) ≤ 21
number_short z h = written_within 19 z (omega arith)

-- 32 bytes of keys, six numbers, six times byte 10
lines_length :
    (p : Prices) →
    length (price_lines p)
    ≡ 38 + length (written_number p.rs) + length (written_number p.rsns) + length (written_number (pos p.pis)) + length (written_number (pos p.pins)) + length (written_number (pos p.online)) + length (written_number (pos p.offline))
unfolding price_lines written_numbers
lines_length p = rw (keys_computed (bytes "rs=rsns=pis=pins=online=offline=")) (simp length-append (omega arith))

prices_short : (p : Prices) → SmallPrices p → length (price_lines p) ≤ 256
prices_short p small =
    omega (
      arith,
      lines_length p,
      number_short p.rs (omega (arith, small.rs)),
      number_short p.rsns (omega (arith, small.rsns)),
      number_short (pos p.pis) (omega (arith, small.pis)),
      number_short (pos p.pins) (omega (arith, small.pins)),
      number_short (pos p.online) (omega (arith, small.online)),
      number_short (pos p.offline) (omega (arith, small.offline)),
    )

-- of a text that is no longer than the input
listed_short : {text : List ℕ} (found : Refusal) (name : List ℕ) → Listed text found → length text ≤ 65536 → length name ≤ 8 → length (refusal_lines found name) ≤ 256
listed_short found name small within short = refusal_short found name (omega (arith, small.most)) (omega (arith, small.line)) short

-- ---- the output

curve_part-within : (input : List ℕ) → length (curve_part input) ≤ length input
unfolding curve_part
curve_part-within input = omega (arith, length-take (before_empty_line true input) input)

snapshot_part-within : (input : List ℕ) → length (snapshot_part input) ≤ length input
unfolding snapshot_part
snapshot_part-within input = omega (arith, length-drop (suc (before_empty_line true input)) input)

priced_short : (text : List ℕ) → length text ≤ 65536 → (p : Pricing) → SmallPricing p → PricingListed text p → length (printed_prices p) ≤ 256
priced_short text within (Ok p) small refused = prices_short p small
priced_short text within (Err found) small refused = listed_short found (bytes "snapshot") refused within (omega arith)

pub price_output_is_short : PriceOutputIsShort
unfolding price_output
price_output_is_short input = go (ltb 65536 (length input)) refl
  where
    snapshot : List ℕ
    snapshot = snapshot_part input

    by_curves : length input ≤ 65536 → (given : Result CurveSet Refusal) → AnswerListed (curve_part input) (answer_of given) → length (on_curves given snapshot) ≤ 256
    by_curves within (Ok curves) small =
        priced_short snapshot (omega (arith, snapshot_part-within input)) (priced curves snapshot) (priced_small curves snapshot) (pricing_listed curves snapshot)
    by_curves within (Err found) small = listed_short found (bytes "curves") small (omega (arith, curve_part-within input)) (omega arith)

    go :
        (long : Bool) → ltb 65536 (length input) ≡ long →
        length (cond long (refusal_lines (record { number = 2; line = 0 }) (bytes "curves")) (on_curves (read_curves (curve_part input)) snapshot)) ≤ 256
    go true e = refusal_short (record { number = 2; line = 0 }) (bytes "curves") (omega arith) (omega arith) (omega arith)
    go false e = by_curves (ltb-false 65536 (length input) e) (read_curves (curve_part input)) (curves_listed (curve_part input))
