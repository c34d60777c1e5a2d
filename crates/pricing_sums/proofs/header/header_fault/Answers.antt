-- The numbers from the place on decide, and the one at the place first.
use Rattle.std.proofs.Common.{◌≡◌, ◌<◌, ℕ, ℤ, Bool, cond, List, length, get_or, drop, suc, sym, ap, ◌∙◌, pos, rules, FitsSigned, w64, to_z, of_z, add-one}
use mir.Facts.{to_z-of_z}
use Rattle.integer.specs.Range.{within}
use Rattle.pricing_sums.specs.Header.{header_lines, low_at, high_at, fault_from}
use Rattle.pricing_sums.proofs.Headers.{header_fault_is, fault_step, fault_end}
use Rattle.pricing_sums.proofs.header.header_fault.Goals as goal

decides : {fault : ℕ} (place : ℕ) (values : List ℤ) {test inside : Bool} → fault ≡ fault_from (suc place) (drop place header_lines) (drop place values) → place < 8 → length values ≡ 8 →
    test ≡ within (low_at place) (high_at place) (get_or values place (pos 0)) → test ≡ inside →
    fault ≡ cond inside (fault_from (suc (suc place)) (drop (suc place) header_lines) (drop (suc place) values)) (suc place)
decides place values left h size is taken = left ∙ fault_step (suc place) place values h size ∙ rw (sym is ∙ taken)

pub loop-place-init : goal.loop-place-init
loop-place-init c = rw (c.header_values-values.ensures) (header_fault_is c.args.header)

pub returns-then-not-is_within : goal.returns-then-not-is_within
returns-then-not-is_within c =
    let low : FitsSigned w64 (low_at c.loop-place.place) = search rules in
    let high : FitsSigned w64 (high_at c.loop-place.place) = search rules in
    let value : FitsSigned w64 (get_or c.header_values-values.result c.loop-place.place (pos 0)) = search rules in
    let says : c.is_within.result ≡ within (to_z w64 (of_z w64 (low_at c.loop-place.place))) (to_z w64 (of_z w64 (high_at c.loop-place.place))) (to_z w64 (of_z w64 (get_or c.header_values-values.result c.loop-place.place (pos 0)))) = c.is_within.ensures in
    let told = rw (to_z-of_z low, to_z-of_z high, to_z-of_z value) at says in
    add-one c.loop-place.place ∙ sym (decides c.loop-place.place c.header_values-values.result c.loop-place.invariant c.loop-place-test.true (ap length c.header_values-values.ensures) told c.if-not-is_within.true)

pub loop-place-preserved : goal.loop-place-preserved
loop-place-preserved c =
    let low : FitsSigned w64 (low_at c.loop-place.place) = search rules in
    let high : FitsSigned w64 (high_at c.loop-place.place) = search rules in
    let value : FitsSigned w64 (get_or c.header_values-values.result c.loop-place.place (pos 0)) = search rules in
    let says : c.is_within.result ≡ within (to_z w64 (of_z w64 (low_at c.loop-place.place))) (to_z w64 (of_z w64 (high_at c.loop-place.place))) (to_z w64 (of_z w64 (get_or c.header_values-values.result c.loop-place.place (pos 0)))) = c.is_within.ensures in
    let told = rw (to_z-of_z low, to_z-of_z high, to_z-of_z value) at says in
    rw (add-one c.loop-place.place) (decides c.loop-place.place c.header_values-values.result c.loop-place.invariant c.loop-place-test.true (ap length c.header_values-values.ensures) told c.if-not-is_within.false)

pub returns : goal.returns
returns c = sym (c.loop-place.invariant ∙ fault_end _ _ _ c.loop-place-test.false)
