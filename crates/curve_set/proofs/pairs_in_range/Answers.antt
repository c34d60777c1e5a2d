use mathlib.Core.Path.{◌∙◌}
use Rattle.std.proofs.Common.{rules, tests}
use Rattle.std.proofs.lemmas.Iterator.{YieldsList-from_slice}
use Rattle.std.proofs.lemmas.Iterator.Search.{all_from_yields_List}
use Rattle.curve_set.specs.Curves.{pair_in_range}
use Rattle.curve_set.proofs.InRange.{every_pair}
use Rattle.curve_set.proofs.pairs_in_range.Goals as goal

pub returns : goal.returns
returns c = all_from_yields_List pair_in_range _ _ c.all.result c.all.ensures.ran (YieldsList-from_slice c.args.pairs.now (cc)) (λ x b q k. search (rules, tests)) ∙ every_pair c.args.pairs.now
