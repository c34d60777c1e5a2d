-- What is printed, by how reading the curves and pricing the snapshot ended.
use Prim.Native.Nat.{ℕ, suc, ◌+◌, ◌-◌, ◌≤◌, ◌<◌}
use mathlib.Core.Path.{◌≡◌, refl, sym, ap, ◌∙◌}
use mathlib.Core.Bool.{true}
use mathlib.Core.List.{List}
use native.Mathlib.Numerals.{add-one}
use native.Mathlib.Omega.{arith}
use borrow.Author.Tests.{lt-ltb, le-ltb}
use lib.ListN.{length, take, drop, length-drop}
use lib.Seq.{take_all}
use Rattle.std.specs.Prelude.{Ok, Err}
use Rattle.text_refusal.specs.Bytes.{bytes}
use Rattle.text_line.specs.Piece.{part}
use Rattle.text_refusal.specs.declared.refusal.Refusal.{Refusal}
use Rattle.text_writer.specs.Output.{refusal_lines}
use Rattle.curve_text.specs.CurveText.{read_curves}
use Rattle.curve_set.specs.declared.CurveSet.{CurveSet}
use Rattle.pricing_adder.specs.declared.price.Prices.{Prices}
use Rattle.pricing.specs.Pricing.{priced}
use Rattle.program_price.specs.Program.{before_empty_line, curve_part, snapshot_part, price_lines, on_curves, printed_prices, price_output}

-- ---- the snapshot's part of the input

snapshot_part_lem : (input : List ℕ) (end : ℕ) → end ≡ before_empty_line true input → part input (end + 1) (length input) ≡ snapshot_part input
unfolding snapshot_part
snapshot_part_lem input end e =
    let long : length (drop (end + 1) input) ≤ length input - (end + 1) = omega (arith, length-drop (end + 1) input) in
    take_all _ _ long ∙ ap (λ (n : ℕ). drop n input) (add-one end ∙ ap suc e)

-- ---- what is printed

pub too_long : (input : List ℕ) → 65536 < length input → refusal_lines (record { number = 2; line = 0 }) (bytes "curves") ≡ price_output input
unfolding price_output
too_long input h = simp (lt-ltb _ _ h)

module _ (input : List ℕ) (end : ℕ) (short : length input ≤ 65536) (ends : end ≡ before_empty_line true input) where
  output : price_output input ≡ on_curves (read_curves (take end input)) (snapshot_part input)
  unfolding price_output curve_part
  output = simp (le-ltb _ _ short) (rw (sym ends) refl)

  pub curves_refused : {found : Refusal} → read_curves (take end input) ≡ Err found → refusal_lines found (bytes "curves") ≡ price_output input
  curves_refused e = sym (output ∙ rw e)

  module _ {curves : CurveSet} (accepted : read_curves (take end input) ≡ Ok curves) where
    printed : price_output input ≡ printed_prices (priced curves (part input (end + 1) (length input)))
    printed = output ∙ rw (accepted, snapshot_part_lem input end ends)

    pub snapshot_refused : {found : Refusal} → priced curves (part input (end + 1) (length input)) ≡ Err found → refusal_lines found (bytes "snapshot") ≡ price_output input
    snapshot_refused e = sym (printed ∙ ap printed_prices e)

    pub snapshot_priced : {six : Prices} → priced curves (part input (end + 1) (length input)) ≡ Ok six → price_lines six ≡ price_output input
    snapshot_priced e = sym (printed ∙ ap printed_prices e)
