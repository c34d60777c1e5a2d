-- The answer of the reading is handed on; header, ids and numbers are as the reading leaves them.
use Rattle.std.proofs.Common.{◌≡◌, ℕ, List, ℤ, refl, ap, sym, ◌∙◌}
use Rattle.text_refusal.specs.Answer.{Answer}
use Rattle.pricing_held_reading.specs.Reading.{reading_held, HeldRead}
use Rattle.ordc.specs.Reply.{reply_to}
use Rattle.ordc.specs.Snapshot.{ReadSnapshotCalled}
use Rattle.ordc.specs.declared.reply.Reply.{Reply}
use Rattle.ordc.proofs.Answered.{answered_by}
use Rattle.ordc.proofs.Numbered.{refusals_are_numbered}
use Rattle.ordc.proofs.read_snapshot.ordc_read_snapshot.Goals as goal

-- a reply to the answer of the reading says what the call did
called :
    (text : List ℕ) {header header' : List ℤ} (ids : List ℕ) {ids' : List ℕ} (numbers : List ℤ) {numbers' : List ℤ} {a ended : Answer} {r : Reply} →
    HeldRead text header ids numbers header' ids' numbers' a → a ≡ ended → r ≡ reply_to ended → ReadSnapshotCalled text header ids numbers header' ids' numbers' r
called text ids numbers read e is =
    let n = refusals_are_numbered.reading_snapshot text ids numbers in
    let says = is ∙ ap reply_to (sym e ∙ read.ends) in
    record {
      header_is = answered_by (reading_held text ids numbers) n says read.header_is;
      ids_are = answered_by (reading_held text ids numbers) n says read.ids_are;
      numbers_are = answered_by (reading_held text ids numbers) n says read.numbers_are;
    }

pub returns-in-Ok : goal.returns-in-Ok
returns-in-Ok c = called c.args.text.now c.args.ids.now c.args.numbers.now c.read_held.ensures c.in-Ok.is refl

pub returns-in-Err : goal.returns-in-Err
returns-in-Err c = called c.args.text.now c.args.ids.now c.args.numbers.now c.read_held.ensures c.in-Err.is c.refused.ensures
