use Rattle.std.proofs.Common.{lit<}
use Rattle.curve_hour.specs.Hour.{sced_reserve}
use Rattle.curve_hour.proofs.Values.{power, ◌⊕◌, ◌⊖◌, sum_fits, difference_fits}
use Rattle.curve_hour.proofs.intervals.RunValues.reserve.Goals as goal

pub overflow_add-result-3 : goal.overflow_add-result-3
overflow_add-result-3 c =
    let i = c.self.invariant in
    sum_fits (power i.hsl ⊖ power i.base ⊕ power i.rrs ⊕ power i.nclr) (power i.reg) (lit< tt)

pub overflow_add-result-4 : goal.overflow_add-result-4
overflow_add-result-4 c =
    let i = c.self.invariant in
    sum_fits (power i.hsl ⊖ power i.base ⊕ power i.rrs ⊕ power i.nclr ⊕ power i.reg) (power i.ns) (lit< tt)

pub overflow_add-result-5 : goal.overflow_add-result-5
overflow_add-result-5 c =
    let i = c.self.invariant in
    sum_fits (power i.hsl ⊖ power i.base ⊕ power i.rrs ⊕ power i.nclr ⊕ power i.reg ⊕ power i.ns) (power i.offns) (lit< tt)

pub overflow_add-result-6 : goal.overflow_add-result-6
overflow_add-result-6 c =
    let i = c.self.invariant in
    sum_fits (power i.hsl ⊖ power i.base ⊕ power i.rrs ⊕ power i.nclr ⊕ power i.reg ⊕ power i.ns ⊕ power i.offns) (power i.cold30) (lit< tt)

pub overflow_sub-result-2 : goal.overflow_sub-result-2
overflow_sub-result-2 c =
    let i = c.self.invariant in
    difference_fits (power i.hsl ⊖ power i.base ⊕ power i.rrs ⊕ power i.nclr ⊕ power i.reg ⊕ power i.ns ⊕ power i.offns ⊕ power i.cold30) (power i.short) (lit< tt)

pub returns : goal.returns
unfolding sced_reserve
returns c =
    let i = c.self.invariant in
    rw (← c.self.view_is) ((power i.hsl ⊖ power i.base ⊕ power i.rrs ⊕ power i.nclr ⊕ power i.reg ⊕ power i.ns ⊕ power i.offns ⊕ power i.cold30 ⊖ power i.short).is (lit< tt))
