-- The layout of the curve set, and demand 3 over the calls, from what is promised of curve sets, bookings, settling and pricing.
use Prim.Native.Nat.{ℕ}
use mathlib.Core.Path.{◌≡◌, ap, ◌∙◌}
use mathlib.Core.List.{List}
use lib.IntN.{ℤ}
use Rattle.std.specs.Prelude.{Ok}
use Rattle.integer.proofs.Order.{pos-≤ℤ}
use Rattle.curve_set.specs.CurveValues.{curves_of}
use Rattle.curve_set.specs.declared.CurveSet.{CurveSet}
use Rattle.curve_set.proofs.CurveValues.{set_of_values, values_of_set}
use Rattle.curve_record.specs.Record.{fresh}
use Rattle.curve_record.specs.declared.Record.{Record}
use Rattle.curve_settling.specs.Settle.{settled}
use Rattle.curve.specs.Lists.{booked_all, ListsLowered}
use Rattle.pricing_adder.specs.declared.price.Prices.{Prices}
use Rattle.pricing.specs.Promises.{NeitherPriceRises}
use Rattle.pricing.proofs.Promises.{raised_reserve_never_raises_prices, raised_reserve_never_raises_prices_on_curves, offline_online_value_in_order}
use Rattle.ordc.specs.Record.{record_of}
use Rattle.pricing_adder.specs.Price.{pricing_values}
use Rattle.ordc.specs.Calls.{HistoryPriced}
use Rattle.ordc.specs.Promises.{CurveSetIsReadBack, CurveSetIsWrittenBack, NeitherAnswerRises, RaisedReserveNeverRaisesAnswers, RaisedReserveNeverRaisesAnswersOnCurves, AnswersAreInOrder}
use Rattle.ordc.specs.declared.reply.Reply.{Reply}
use Rattle.ordc.proofs.Calls.{book_calls, lists_lowered, fresh_record, settle_call, PricesLaid, price_call}

pub curve_set_is_read_back : CurveSetIsReadBack
curve_set_is_read_back = set_of_values

pub curve_set_is_written_back : CurveSetIsWrittenBack
curve_set_is_written_back = values_of_set

-- ---- demand 3

-- the order of two prices is that of the numbers laid
neither_rises : {answer answer' : List ℤ} {first second : Prices} → answer ≡ pricing_values (Ok first) → answer' ≡ pricing_values (Ok second) →
    NeitherPriceRises first second → NeitherAnswerRises answer answer'
neither_rises {first = first} {second = second} laid laid' order =
    rw (laid, laid') ((pos-≤ℤ second.online first.online).1 order.0, (pos-≤ℤ second.offline first.offline).1 order.1)

pub raised_reserve_never_raises_answers_on_curves : RaisedReserveNeverRaisesAnswersOnCurves
raised_reserve_never_raises_answers_on_curves curves before before' answer answer' snapshot snapshot' r r' called accepted called' accepted' raised =
    let one = price_call curves before answer snapshot called accepted in
    let two = price_call curves before' answer' snapshot' called' accepted' in
    neither_rises one.laid two.laid
    (raised_reserve_never_raises_prices_on_curves (curves_of curves) snapshot snapshot' one.prices two.prices raised one.priced_as two.priced_as)

pub answers_are_in_order : AnswersAreInOrder
answers_are_in_order curves before answer snapshot r h entries called accepted is =
    let one = price_call curves before answer snapshot called accepted in
    let order = offline_online_value_in_order (curves_of curves) snapshot h entries one.prices is one.priced_as in
    rw one.laid ((pos-≤ℤ _ _).1 order.0, (pos-≤ℤ _ _).1 order.1)

-- a run of calls as bookings, a settling and a pricing
record RunAs (texts : List (List ℕ)) (voll floor : ℤ) (snapshot : List ℕ) (numbers : List ℤ) : Type 0 where
  curves : CurveSet
  accepted : settled (booked_all fresh texts) voll floor ≡ Ok curves
  laid : PricesLaid curves snapshot numbers

run_as : {texts : List (List ℕ)} {replies : List Reply} {voll floor : ℤ} {snapshot : List ℕ} {numbers : List ℤ} → HistoryPriced texts replies voll floor snapshot numbers → RunAs texts voll floor snapshot numbers
run_as {texts} {replies} {voll} {floor} {snapshot} {numbers} run =
    let same : record_of run.history ≡ booked_all fresh texts = book_calls run.bookings ∙ ap (λ (history : Record). booked_all history texts) fresh_record in
    let settling = settle_call run.history run.curves_before run.curves voll floor run.settle_call run.settle_accepted in
    record {
      curves = curves_of run.curves;
      accepted = rw same at settling.accepted;
      laid = price_call run.curves run.answer_before numbers snapshot run.price_call run.price_accepted;
    }

pub raised_reserve_never_raises_answers : RaisedReserveNeverRaisesAnswers
raised_reserve_never_raises_answers d texts texts' replies replies' voll floor snapshot snapshot' answer answer' run run' lowered raised =
    let one = run_as run in
    let two = run_as run' in
    let lists : ListsLowered d fresh fresh texts texts' = rw fresh_record at (lists_lowered d run.bookings run'.bookings lowered) in
    neither_rises one.laid.laid two.laid.laid
    (raised_reserve_never_raises_prices d texts texts' voll floor one.curves two.curves snapshot snapshot' one.laid.prices two.laid.prices lists one.accepted two.accepted raised one.laid.priced_as two.laid.priced_as)
