-- Whatever the list of words is, none of them is longer.
use Rattle.std.proofs.Common.{refl}
use Rattle.pricing_held_text.proofs.Listed.{word_short}
use Rattle.pricing_held_text.proofs.words.status_word.Goals as goal

pub returns-clause-short : goal.returns-clause-short
returns-clause-short c = rw c.word_at.ensures (word_short 8 _ refl c.args.status)
