-- The length is laid where the writing is accepted, and the buffer is as the writing leaves it.
use Rattle.std.proofs.Common.{◌≡◌, ℕ, List, ℤ, length, ap, sym, ◌∙◌}
use Rattle.std.specs.Prelude.{Result, Ok, Err}
use Rattle.text_refusal.specs.declared.refusal.Refusal.{Refusal}
use Rattle.pricing_held.specs.Lines.{held_text}
use Rattle.pricing_held_text.specs.Writing.{writing_held, HeldWritten}
use Rattle.pricing_held_text.proofs.Cases.{accepted_by_length, refused_by-length}
use Rattle.ordc.specs.Reply.{reply_to}
use Rattle.ordc.specs.Snapshot.{WriteSnapshotCalled}
use Rattle.ordc.specs.declared.reply.Reply.{Reply}
use Rattle.ordc.proofs.Answered.{answered_by, lent_laid, lent_left}
use Rattle.ordc.proofs.Numbered.{refusals_are_numbered}
use Rattle.ordc.proofs.write_snapshot.ordc_write_snapshot.Goals as goal

module _ (header : List ℤ) (ids : List ℕ) (numbers : List ℤ) (buffer : List ℕ) {buffer' : List ℕ} {ended : Result ℕ Refusal} (written : HeldWritten header ids numbers buffer buffer' ended) where
  called-refused :
      {before : ℕ} {found : Refusal} {r : Reply} → ended ≡ Err found → r ≡ reply_to (Err found) → WriteSnapshotCalled header ids numbers buffer before buffer' before r
  called-refused told is =
      let e = refused_by-length (length (held_text header ids numbers)) (writing_held header ids numbers buffer) (sym written.ends ∙ told) in
      let n = refusals_are_numbered.writing_snapshot header ids numbers buffer in
      record { count = lent_left e n is; bytes = answered_by (writing_held header ids numbers buffer) n (is ∙ sym (ap reply_to e)) written.bytes }

  called-accepted : {before after : ℕ} → ended ≡ Ok after → WriteSnapshotCalled header ids numbers buffer before buffer' after (record { number = 0; line = 0 })
  called-accepted told =
      let e = accepted_by_length (length (held_text header ids numbers)) (writing_held header ids numbers buffer) (sym written.ends ∙ told) in
      record {
        count = lent_laid e.0 e.1;
        bytes =
            answered_by (writing_held header ids numbers buffer) (refusals_are_numbered.writing_snapshot header ids numbers buffer) (sym (ap reply_to e.0))
            written.bytes;
      }

pub returns-in-Ok : goal.returns-in-Ok
returns-in-Ok c = called-accepted c.args.header.now c.args.ids.now c.args.numbers.now c.args.buffer.now c.write_held.ensures c.in-Ok.is

pub returns-in-Err : goal.returns-in-Err
returns-in-Err c = called-refused c.args.header.now c.args.ids.now c.args.numbers.now c.args.buffer.now c.write_held.ensures c.in-Err.is c.refused.ensures
