-- The sign, and the value of the digits behind it with their mark.
use Rattle.std.proofs.Common.{nat_abs, pos, arith}
use mir.Facts.{to_z-of_z}
use mir.Syntax.{w64}
use mir.Val.{SFits}
use Rattle.pricing_held_reading.proofs.Numbers.{minus_fits, number_below, number_from_zero}
use Rattle.pricing_held_reading.proofs.values.number_at.Goals as goal

pub digits_at-digits-requires : goal.digits_at-digits-requires
digits_at-digits-requires c = (nat_abs c.requires.0.number, (c.requires.0.suspect, (c.requires.1.0, (number_below c.requires.0 c.requires.1.1 c.if-text-at-eq45.true).0)))

pub overflow_sub-result : goal.overflow_sub-result
overflow_sub-result c =
    let m = c.requires.0 in
    let digits = (number_below m c.requires.1.1 c.if-text-at-eq45.true).0 in
    let fits : SFits w64 (pos (nat_abs m.number)) = record { sfits = omega (arith, digits.small) } in
    rw (c.digits_at-digits.ensures (nat_abs m.number) m.suspect c.requires.1.0 digits, to_z-of_z fits) (minus_fits (nat_abs m.number) (omega (arith, digits.small)))

pub returns-then-text-at-eq45 : goal.returns-then-text-at-eq45
returns-then-text-at-eq45 c =
    λ m next number.
    let below = number_below m number c.if-text-at-eq45.true in
    let fits : SFits w64 (pos (nat_abs m.number)) = record { sfits = omega (arith, below.0.small) } in
    rw (c.digits_at-digits.ensures (nat_abs m.number) m.suspect next below.0, to_z-of_z fits, to_z-of_z (minus_fits (nat_abs m.number) (omega (arith, below.0.small))), ← below.1)

pub digits_at-requires : goal.digits_at-requires
digits_at-requires c = (nat_abs c.requires.0.number, (c.requires.0.suspect, (c.requires.1.0, (number_from_zero c.requires.0 c.requires.1.1 c.if-text-at-eq45.false).0)))

pub returns : goal.returns
returns c =
    λ m next number.
    let from = number_from_zero m number c.if-text-at-eq45.false in
    rw (c.digits_at.ensures (nat_abs m.number) m.suspect next from.0, ← from.1)
