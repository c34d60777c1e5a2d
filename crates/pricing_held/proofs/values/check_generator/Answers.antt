use borrow.Author.Rules.{rules}
use native.Mathlib.Omega.{arith}
use Prim.Native.Nat.{ℕ, ◌+◌, ◌/◌}
use mathlib.Core.Path.{◌≡◌, sym, ap, ◌∙◌}
use lib.IntN.{nat_abs}
use Rattle.text_number.specs.Marked.{first_marked}
use Rattle.text_schema.specs.Schema.{value}
use Rattle.pricing_held.specs.Rows.{place_of}
use Rattle.pricing_held.specs.internal.Checks.{flag_checked}
use Rattle.pricing_held.proofs.RowLines.{generator_refused, generator_checked}
use Rattle.pricing_held.proofs.values.check_generator.Goals as goal

pub returns-in_err-check_numbers : goal.returns-in_err-check_numbers
returns-in_err-check_numbers c =
    let status : c.place_of.result ≡ place_of (value c.args.values.now 1) = search rules in
    let refused = generator_refused c.args.values.now c.args.line (omega arith) (omega arith) c.check_numbers.ensures c.in_err-check_numbers.was in
    search rules

pub returns : goal.returns
returns c =
    let status : c.place_of.result ≡ place_of (value c.args.values.now 1) = search rules in
    let marks : c.magnitude-marks.result ≡ nat_abs (value c.args.values.now 8) = search rules in
    let flag : c.check_flag.result ≡ flag_checked (c.args.line + 6) (first_marked (c.magnitude-marks.result / 32)) (value c.args.values.now 7) = search rules in
    generator_checked c.args.values.now c.args.line (omega arith) (omega arith) (sym c.in_ok-check_numbers.was ∙ c.check_numbers.ensures) (ap (λ (n : ℕ). first_marked (n / 32)) marks) flag
