-- Document 01, "Programs": `price` reads, in at most 65536 bytes (else 2), curve text, an empty line, a snapshot. It prints six lines, or the three lines of a
-- refusal, and nothing else.
use Rattle.std.specs.Prelude.{ℕ, suc, Bool, true, false, cond, List, [], ◌∷◌, eqb, ltb, length, take, drop, Result, Ok, Err}
use Rattle.text_refusal.specs.Bytes.{bytes}
use Rattle.text_schema.specs.Schema.{keys_of}
use Rattle.text_writer.specs.Write.{written_numbers}
use Rattle.text_writer.specs.Output.{refusal_lines}
use Rattle.curve_text.specs.CurveText.{read_curves}
use Rattle.curve_set.specs.declared.CurveSet.{CurveSet}
use Rattle.text_refusal.specs.declared.refusal.Refusal.{Refusal}
use Rattle.pricing_adder.specs.Price.{Pricing, price_values}
use Rattle.pricing_adder.specs.declared.price.Prices.{Prices}
use Rattle.pricing.specs.Pricing.{priced}

-- how many bytes stand before the first empty line, byte 10 at a line's start, or at all where there is none; `at_start` says whether a line starts here
unfoldable pub before_empty_line : Bool → List ℕ → ℕ
before_empty_line at_start [] = 0
before_empty_line at_start (byte ∷ rest) =
    cond (eqb byte 10) (cond at_start 0 (suc (before_empty_line true rest))) (suc (before_empty_line false rest))

-- the curve text ends before the first empty line or at the input's end; the snapshot is what follows that line
unfoldable pub curve_part : List ℕ → List ℕ
curve_part input = take (before_empty_line true input) input

unfoldable pub snapshot_part : List ℕ → List ℕ
snapshot_part input = drop (suc (before_empty_line true input)) input

-- `rs rsns pis pins online offline`, each with `=` and its number, one a line
unfoldable pub price_lines : Prices → List ℕ
price_lines p = written_numbers (keys_of (bytes "rs=rsns=pis=pins=online=offline=")) (price_values p)

abbrev pub printed_prices : Pricing → List ℕ
printed_prices (Ok p) = price_lines p
printed_prices (Err found) = refusal_lines found (bytes "snapshot")

abbrev pub on_curves : Result CurveSet Refusal → List ℕ → List ℕ
on_curves (Ok curves) snapshot = printed_prices (priced curves snapshot)
on_curves (Err found) snapshot = refusal_lines found (bytes "curves")

unfoldable pub price_output : List ℕ → List ℕ
price_output input =
    cond (ltb 65536 (length input))
    (refusal_lines (record { number = 2; line = 0 }) (bytes "curves"))
    (on_curves (read_curves (curve_part input)) (snapshot_part input))
