-- The sums are those of the law, so that no part of them is too large either.
use Rattle.std.proofs.Common.{arith}
use Rattle.pricing_held_reading.proofs.Words.{kind_told}
use Rattle.pricing_held_reading.proofs.values.kind_at.Goals as goal

pub overflow_add-first : goal.overflow_add-first
overflow_add-first c = let told = kind_told c.args.text.now c.args.at c.requires in omega (arith, told.within)

pub bounds-text-at : goal.bounds-text-at
bounds-text-at c = let told = kind_told c.args.text.now c.args.at c.requires in omega (arith, told.within)

pub overflow_add-nc : goal.overflow_add-nc
overflow_add-nc c = let told = kind_told c.args.text.now c.args.at c.requires in omega (arith, told.within)

pub bounds-text-at-2 : goal.bounds-text-at-2
bounds-text-at-2 c = let told = kind_told c.args.text.now c.args.at c.requires in omega (arith, told.within)

pub overflow_add-result-5 : goal.overflow_add-result-5
overflow_add-result-5 c = let told = kind_told c.args.text.now c.args.at c.requires in omega (arith, told.within)

pub overflow_add-result-6 : goal.overflow_add-result-6
overflow_add-result-6 c = let told = kind_told c.args.text.now c.args.at c.requires in omega (arith, told.within)

pub overflow_add-result-7 : goal.overflow_add-result-7
overflow_add-result-7 c = let told = kind_told c.args.text.now c.args.at c.requires in omega (arith, told.within)

pub returns : goal.returns
returns c = (kind_told c.args.text.now c.args.at c.requires).is
