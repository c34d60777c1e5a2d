use Rattle.std.proofs.Common.{◌∙◌}
use Rattle.pricing_resource_text.specs.Resource.{kind_words}
use Rattle.pricing_resource_text.proofs.FirstWord.{first_word}
use Rattle.pricing_resource_text.proofs.words.kind_word.Goals as goal

pub returns : goal.returns
returns c = c.word_of.ensures ∙ first_word kind_words c.args.value.now
