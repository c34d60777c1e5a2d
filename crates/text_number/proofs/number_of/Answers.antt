-- What the digits behind the sign say decides: each case is a law.
use mathlib.Core.Bool.{true, false}
use mathlib.Core.Path.{refl}
use borrow.Author.Rules.{rules}
use borrow.Author.Tests.{eq-eqb, ne_eqb}
use Rattle.text_line.proofs.Parts.{part_whole}
use Rattle.text_number.proofs.Numbers.{number_value, number_refused}
use Rattle.text_number.proofs.number_of.Goals as goal

pub returns-in_err-magnitude : goal.returns-in_err-magnitude
returns-in_err-magnitude c =
    let a = c.args in
    let t = number_refused a.low a.high a.value.now _ true (search rules) (eq-eqb _ 45 c.if-value-eq45.true) (part_whole a.value.now 1) c.natural_of.ensures c.ranges.low c.ranges.high _ c.in_err-magnitude.was in
    search rules

pub returns-then-value-eq45 : goal.returns-then-value-eq45
returns-then-value-eq45 c =
    let a = c.args in
    let t = number_value a.low a.high a.value.now _ true (search rules) (eq-eqb _ 45 c.if-value-eq45.true) (part_whole a.value.now 1) c.natural_of.ensures c.in_ok-magnitude.was in
    search rules

pub returns-in_err-magnitude-2 : goal.returns-in_err-magnitude-2
returns-in_err-magnitude-2 c =
    let a = c.args in
    let t = number_refused a.low a.high a.value.now _ false (search rules) (ne_eqb _ 45 c.if-value-eq45.false) refl c.natural_of-2.ensures c.ranges.low c.ranges.high _ c.in_err-magnitude-2.was in
    search rules

pub returns : goal.returns
returns c =
    let a = c.args in
    let t = number_value a.low a.high a.value.now _ false (search rules) (ne_eqb _ 45 c.if-value-eq45.false) refl c.natural_of-2.ensures c.in_ok-magnitude-2.was in
    search rules
