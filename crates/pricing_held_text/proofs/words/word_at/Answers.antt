use Rattle.std.proofs.Common.{length, sym}
use borrow.Author.Tests.{ltb-true, ltb-false}
use Rattle.pricing_held_text.proofs.Listed.{word_here, word_none}
use Rattle.pricing_held_text.proofs.words.word_at.Goals as goal

pub returns-in-Some : goal.returns-in-Some
returns-in-Some c =
    let told = c.in-Some.ensures.lookup in
    word_here c.args.words.now c.args.place _ (ltb-true c.args.place (length c.args.words.now) (sym told.0)) told.1

pub returns-in-None : goal.returns-in-None
returns-in-None c = word_none c.args.words.now c.args.place (ltb-false c.args.place (length c.args.words.now) (sym c.in-None.ensures.lookup.0))
