-- Demand 1 over the calls: each answers as the operation that it calls, and no refusal has the number 0. And a curve text takes the length that was told.
use Prim.Native.Nat.{ℕ}
use native.Mathlib.Omega.{arith}
use mathlib.Core.List.{List}
use lib.IntN.{ℤ}
use mathlib.Core.Path.{◌≡◌, refl, sym, ap, ◌∙◌}
use Rattle.std.specs.Prelude.{Result, Ok, Err}
use Rattle.text_refusal.specs.Answer.{Answer, answer_of}
use Rattle.text_refusal.specs.declared.refusal.Refusal.{Refusal}
use Rattle.curve_set.specs.CurveValues.{curves_of}
use Rattle.curve_set.proofs.CurveValues.{pairs_of-length}
use Rattle.curve_set.specs.declared.CurveSet.{CurveSet}
use Rattle.curve_text.specs.CurveText.{read_curves, writing_curves, writing_answer, written_length, written_buffer}
use Rattle.curve_text.specs.Length.{curves_length}
use Rattle.curve_page.specs.Page.{writing_page}
use Rattle.curve.specs.FirstRefusal.{Writing, WritingCurvesCase, set_impossible, buffer_short, text_written}
use Rattle.curve.proofs.FirstRefusal.{writing_curves_is_refused_first}
use Rattle.curve.proofs.Lengths.{curve_text_has_the_told_length, told_bounded}
use Rattle.curve_settling.specs.Settle.{settled}
use Rattle.curve_booking.specs.Booking.{booked}
use Rattle.pricing_held.specs.Lines.{held_answer}
use Rattle.pricing_held_reading.specs.Reading.{reading_held}
use Rattle.pricing_held_text.specs.Writing.{writing_held}
use Rattle.pricing.specs.Pricing.{priced}
use Rattle.ordc.specs.Reply.{reply_to, Answered}
use Rattle.ordc.specs.Record.{record_of}
use Rattle.ordc.specs.CurveText.{CurvesLengthCalled}
use Rattle.ordc.specs.Calls.{Accepted}
use Rattle.ordc.specs.Price.{pricing_answer}
use Rattle.ordc.specs.Promises.{
  Numbered,
  CallEnds,
  BookCallIsRefusedFirst,
  SettleCallIsRefusedFirst,
  ReadCurvesCallIsRefusedFirst,
  CurvesLengthCallIsRefusedFirst,
  WriteCurvesCallIsRefusedFirst,
  WriteCurvesCallTakesTheToldLength,
  ToldLengthsAreBounded,
  WritePageCallIsRefusedFirst,
  PriceCallIsRefusedFirst,
  ReadSnapshotCallIsRefusedFirst,
  SnapshotLengthCallIsRefusedFirst,
  WriteSnapshotCallIsRefusedFirst,
}
use Rattle.ordc.specs.declared.reply.Reply.{Reply}
use Rattle.ordc.proofs.Calls.{Ended, ended_accepted, ended_refused, ended_by}
use Rattle.ordc.proofs.Numbered.{refusals_are_numbered}

call_ends : {A : Type 0} {before given after : A} {r : Reply} (ended : Answer) → Numbered ended → Answered (reply_to ended) before given after r → CallEnds ended before given after r
call_ends {A} {before} {given} {after} {r} ended n called =
    record {
      accepted = λ e. (rw e at called.refuses, rw e at called.lent);
      refused = λ found e. (rw e at called.refuses, left found e (ended_by ended n called));
      numbered = λ none. go none (ended_by ended n called);
    }
  where
    left : (found : Refusal) → ended ≡ Err found → Ended ended before given after r → after ≡ before
    left found e (ended_accepted is none laid) = let z : ◌≡◌ {A = ℕ} 0 1 = cc (sym is ∙ e) in absurd (omega arith)
    left found e (ended_refused other is told number same) = same

    go : r.number ≡ 0 → Ended ended before given after r → ended ≡ Ok tt
    go none (ended_accepted is number laid) = is
    go none (ended_refused found is told number same) = absurd (number none)

pub book_call_is_refused_first : BookCallIsRefusedFirst
book_call_is_refused_first before after text r called = call_ends (answer_of (booked (record_of before) text)) (refusals_are_numbered.booking (record_of before) text) called

pub settle_call_is_refused_first : SettleCallIsRefusedFirst
settle_call_is_refused_first history before after voll floor r called =
    call_ends (answer_of (settled (record_of history) voll floor)) (refusals_are_numbered.settling (record_of history) voll floor) called

pub read_curves_call_is_refused_first : ReadCurvesCallIsRefusedFirst
read_curves_call_is_refused_first before after text r called = call_ends (answer_of (read_curves text)) (refusals_are_numbered.reading text) called

pub curves_length_call_is_refused_first : CurvesLengthCallIsRefusedFirst
curves_length_call_is_refused_first values before after r called =
    call_ends (writing_answer (curves_length (curves_of values))) (refusals_are_numbered.measuring_curves (curves_of values)) called

-- a refused writing leaves the buffer
refused_leaves : (curves : CurveSet) (buffer : List ℕ) {found : Refusal} → writing_answer (writing_curves curves buffer) ≡ Err found → written_buffer curves buffer ≡ buffer
refused_leaves curves buffer {found} = go (writing_curves_is_refused_first curves buffer).applies
  where
    go : {after : Writing} → WritingCurvesCase curves buffer after → after.answer ≡ Err found → after.buffer ≡ buffer
    go (set_impossible out) e = refl
    go (buffer_short inside short) e = refl
    go (text_written inside room) e = let z : ◌≡◌ {A = ℕ} 0 1 = cc in absurd (omega arith)

pub write_curves_call_is_refused_first : WriteCurvesCallIsRefusedFirst
write_curves_call_is_refused_first values buffer buffer' before after r called =
    let answered = writing_answer (writing_curves (curves_of values) buffer) in
    let count = call_ends answered (refusals_are_numbered.writing (curves_of values) buffer) called.count in (
      count,
      record {
        accepted = λ e. ((count.accepted e).0, called.bytes);
        refused = λ found e. ((count.refused found e).0, called.bytes ∙ refused_leaves (curves_of values) buffer e);
        numbered = count.numbered;
      },
    )

-- the length that an accepted call told
told_length : (values : List ℤ) (lent told : ℕ) (asked : Reply) → CurvesLengthCalled values lent told asked → Accepted asked → curves_length (curves_of values) ≡ Ok told
told_length values lent told asked called accepted =
    let ends = curves_length_call_is_refused_first values lent told asked called in
    go (curves_length (curves_of values)) (ends.numbered accepted) (ends.accepted (ends.numbered accepted)).1
  where
    go : (ended : Result ℕ Refusal) → writing_answer ended ≡ Ok tt → told ≡ written_length ended → ended ≡ Ok told
    go (Ok length) e same = ap Ok (sym same)
    go (Err found) e same = let z : ◌≡◌ {A = ℕ} 0 1 = cc in absurd (omega arith)

pub write_curves_call_takes_the_told_length : WriteCurvesCallTakesTheToldLength
write_curves_call_takes_the_told_length values lent told asked called accepted buffer buffer' before after r writing =
    let as_told = curve_text_has_the_told_length (curves_of values) told (told_length values lent told asked called accepted) buffer in
    let ends = write_curves_call_is_refused_first values buffer buffer' before after r writing in (
      (λ room.
          (let given = as_told.accepted room in
          let e = ap writing_answer given.0 in
          let laid = (ends.1.accepted e).1 in (
            ap (λ (r : Reply). r.number) (ends.0.accepted e).0,
            (ends.0.accepted e).1 ∙ ap written_length given.0,
            rw laid given.1,
            rw laid given.2,
          ))),
      (λ short.
          (let e = ap writing_answer (as_told.refused short).0 in
          let found : Refusal = record { number = 14; line = 0 } in
          ((ends.0.refused found e).0, (ends.0.refused found e).1, (ends.1.refused found e).1))),
    )

pub told_lengths_are_bounded : ToldLengthsAreBounded
told_lengths_are_bounded values lent told asked called accepted =
    told_bounded (curves_of values) told (pairs_of-length values) (told_length values lent told asked called accepted)

pub write_page_call_is_refused_first : WritePageCallIsRefusedFirst
write_page_call_is_refused_first values before after r called = call_ends (writing_page (curves_of values) before) (refusals_are_numbered.page (curves_of values) before) called

pub price_call_is_refused_first : PriceCallIsRefusedFirst
price_call_is_refused_first curves before after text r called =
    call_ends (pricing_answer (priced (curves_of curves) text)) (refusals_are_numbered.pricing (curves_of curves) text) called

pub read_snapshot_call_is_refused_first : ReadSnapshotCallIsRefusedFirst
read_snapshot_call_is_refused_first text header ids numbers header' ids' numbers' r called =
    let ended = reading_held text ids numbers in
    let n = refusals_are_numbered.reading_snapshot text ids numbers in
    (call_ends ended n called.header_is, call_ends ended n called.ids_are, call_ends ended n called.numbers_are)

pub snapshot_length_call_is_refused_first : SnapshotLengthCallIsRefusedFirst
snapshot_length_call_is_refused_first header ids numbers before after r called =
    call_ends (held_answer header ids numbers) (refusals_are_numbered.snapshot_length header ids numbers) called

pub write_snapshot_call_is_refused_first : WriteSnapshotCallIsRefusedFirst
write_snapshot_call_is_refused_first header ids numbers buffer buffer' before after r called =
    let ended = writing_held header ids numbers buffer in
    let n = refusals_are_numbered.writing_snapshot header ids numbers buffer in
    (call_ends ended n called.count, call_ends ended n called.bytes)
