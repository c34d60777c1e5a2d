-- The calls chain to the booking; the record is laid where it is accepted.
use Rattle.std.proofs.Common.{refl, ap, sym, ◌∙◌}
use Rattle.curve_record.specs.declared.Record.{Record}
use Rattle.curve_booking.specs.Booking.{booked}
use Rattle.ordc.specs.Record.{record_of}
use Rattle.ordc.proofs.Answered.{accepted_laid, refused_left}
use Rattle.ordc.proofs.Groups.{accepted_possible}
use Rattle.ordc.proofs.Numbered.{refusals_are_numbered}
use Rattle.ordc.proofs.book.ordc_book.Goals as goal

pub record_values-requires : goal.record_values-requires
record_values-requires c =
    let is = c.book.ensures ∙ ap (λ (history : Record). booked history c.args.text.now) c.record_of.ensures in
    accepted_possible (record_of c.args.history.now) c.args.text.now c.in-Ok.booked (sym is ∙ c.in-Ok.is)

pub returns-in-Ok : goal.returns-in-Ok
returns-in-Ok c =
    let is = c.book.ensures ∙ ap (λ (history : Record). booked history c.args.text.now) c.record_of.ensures in
    rw (sym is ∙ c.in-Ok.is) (accepted_laid c.record_values.ensures)

pub returns-in-Err : goal.returns-in-Err
returns-in-Err c =
    let is = c.book.ensures ∙ ap (λ (history : Record). booked history c.args.text.now) c.record_of.ensures in
    let e = sym is ∙ c.in-Err.is in
    rw e (refused_left (rw e at (refusals_are_numbered.booking (record_of c.args.history.now) c.args.text.now)) c.refused.ensures)
