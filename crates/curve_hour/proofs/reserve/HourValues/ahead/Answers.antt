use Rattle.std.proofs.Common.{arith, lit<}
use Rattle.curve_hour.specs.Hour.{hour_ahead}
use Rattle.curve_hour.proofs.Values.{power, tie, ◌⊕◌, ◌⊖◌, sum_fits}
use Rattle.curve_hour.proofs.reserve.HourValues.ahead.Goals as goal

pub overflow_add-result-2 : goal.overflow_add-result-2
overflow_add-result-2 c =
    let i = c.self.invariant in
    sum_fits (power i.ongen ⊖ power i.load ⊖ tie i.tie ⊕ power i.ns) (power i.reg) (lit< tt)

pub overflow_add-result-3 : goal.overflow_add-result-3
overflow_add-result-3 c =
    let i = c.self.invariant in
    sum_fits (power i.ongen ⊖ power i.load ⊖ tie i.tie ⊕ power i.ns ⊕ power i.reg) (power i.rrs) (lit< tt)

pub overflow_add-result-4 : goal.overflow_add-result-4
overflow_add-result-4 c =
    let i = c.self.invariant in
    sum_fits (power i.ongen ⊖ power i.load ⊖ tie i.tie ⊕ power i.ns ⊕ power i.reg ⊕ power i.rrs) (power i.nclr) (lit< tt)

pub overflow_add-result-5 : goal.overflow_add-result-5
overflow_add-result-5 c =
    let i = c.self.invariant in
    sum_fits (power i.ongen ⊖ power i.load ⊖ tie i.tie ⊕ power i.ns ⊕ power i.reg ⊕ power i.rrs ⊕ power i.nclr) (power i.offns) (lit< tt)

pub overflow_add-result-6 : goal.overflow_add-result-6
overflow_add-result-6 c =
    let i = c.self.invariant in
    sum_fits (power i.ongen ⊖ power i.load ⊖ tie i.tie ⊕ power i.ns ⊕ power i.reg ⊕ power i.rrs ⊕ power i.nclr ⊕ power i.offns) (power i.cold30) (lit< tt)

pub returns-clause-reserve : goal.returns-clause-reserve
unfolding hour_ahead
returns-clause-reserve c =
    let i = c.self.invariant in
    rw (← c.self.view_is) ((power i.ongen ⊖ power i.load ⊖ tie i.tie ⊕ power i.ns ⊕ power i.reg ⊕ power i.rrs ⊕ power i.nclr ⊕ power i.offns ⊕ power i.cold30).is (lit< tt))

pub returns-clause-small : goal.returns-clause-small
returns-clause-small c =
    let i = c.self.invariant in
    let sum = power i.ongen ⊖ power i.load ⊖ tie i.tie ⊕ power i.ns ⊕ power i.reg ⊕ power i.rrs ⊕ power i.nclr ⊕ power i.offns ⊕ power i.cold30 in
    rw (sum.is (lit< tt)) (omega (arith, sum.small))
