use native.Mathlib.Omega.{arith}
use borrow.Author.Rules.{rules}
use Prim.Native.Nat.{ℕ, ◌%◌}
use mathlib.Core.Path.{◌≡◌, ap}
use lib.IntN.{nat_abs}
use mir.Syntax.{w32}
use mir.Val.{to_z, of_z}
use Rattle.text_schema.specs.Schema.{value}
use Rattle.pricing_resource_text.specs.Resource.{status_of}
use Rattle.pricing_held.specs.Rows.{place_of}
use Rattle.pricing_held.specs.internal.Checks.{flag_of}
use Rattle.pricing_held.proofs.Suspects.{generator_row}
use Rattle.pricing_held.proofs.suspect.row_place.Goals as goal

pub returns-then-kind-lt4 : goal.returns-then-kind-lt4
returns-then-kind-lt4 c =
    let kind : c.place_of-kind.result ≡ place_of (value c.args.values.now 0) = search rules in
    let status : c.status_of.result ≡ status_of (place_of (value c.args.values.now 1)) = search rules in
    let flag : to_z w32 (of_z w32 c.flag_of.result) ≡ flag_of (value c.args.values.now 7) = search rules in
    let marks : c.magnitude-marks.result ≡ nat_abs (value c.args.values.now 8) = search rules in
    generator_row c.args.values.now (omega arith) kind c.if-kind-lt4.true _ c.kind_of.ensures status flag (ap (λ (n : ℕ). n % 64) marks) c.suspect_place.ensures
