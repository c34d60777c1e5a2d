use mathlib.Core.Path.{◌∙◌}
use Rattle.std.proofs.Common.{rules, tests}
use Rattle.std.proofs.lemmas.Iterator.{YieldsList-from_slice}
use Rattle.std.proofs.lemmas.Iterator.Search.{all_from_yields_List}
use Rattle.text_number.specs.Number.{is_digit}
use Rattle.text_number.proofs.Digits.{every_digit}
use Rattle.text_number.proofs.natural.all_digits.Goals as goal

pub returns : goal.returns
returns c = all_from_yields_List is_digit _ _ c.all.result c.all.ensures.ran (YieldsList-from_slice c.args.bytes.now (cc)) (λ x b q k. search (rules, tests)) ∙ every_digit c.args.bytes.now
