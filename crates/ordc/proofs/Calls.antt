-- What calls one after another give: the record that the bookings themselves give, its curves, and the prices on these.
use Prim.Native.Nat.{ℕ, zero, suc}
use native.Mathlib.Omega.{arith}
use mathlib.Core.Bool.{Bool, true, false}
use mathlib.Core.List.{List}
use mathlib.Core.Path.{◌≡◌, refl, sym, ap, ◌∙◌}
use borrow.Author.Tests.{eq-eqb}
use lib.Dec.{eqb}
use lib.IntN.{ℤ}
use lib.ListN.{length, drop}
use Rattle.std.specs.Prelude.{Result, Ok, Err}
use Rattle.text_refusal.specs.Answer.{Answer, answer_of}
use Rattle.text_refusal.specs.declared.refusal.Refusal.{Refusal}
use Rattle.curve_set.specs.CurveValues.{curves_of}
use Rattle.curve_set.specs.declared.CurveSet.{CurveSet}
use Rattle.curve_set.proofs.CurveValues.{set_of_values}
use Rattle.curve_record.specs.Record.{fresh}
use Rattle.curve_record.specs.declared.Record.{Record}
use Rattle.curve_settling.specs.Settle.{settled}
use Rattle.curve_booking.specs.Booking.{booked, record_after}
use Rattle.curve_booking.proofs.Booked.{refused_keeps}
use Rattle.curve.specs.Lists.{booked_all, PlaceLowered, both_refused, both_accepted, ListsLowered}
use Rattle.curve_record.proofs.RecordGroups.{whole, whole_is, fresh_held}
use Rattle.curve.proofs.Booked.{booked_none, booked_one, booked_whole}
use Rattle.curve.proofs.Promises.{settled-length}
use Rattle.pricing.specs.Pricing.{priced}
use Rattle.pricing_adder.specs.declared.price.Prices.{Prices}
use Rattle.pricing_adder.specs.Price.{Pricing}
use Rattle.ordc.specs.Reply.{reply_to, Answered}
use Rattle.ordc.specs.CurveText.{values_given}
use Rattle.ordc.specs.Record.{groups_of, record_of, record_values, BookCalled, SettleCalled}
use Rattle.pricing_adder.specs.Price.{pricing_values}
use Rattle.ordc.specs.Price.{pricing_answer, PriceCalled}
use Rattle.ordc.specs.Calls.{Accepted, BookCalls, no_call, one_call, fresh_values, BookCallLowered, BookCallsLowered, none_lowered, one_lowered}
use Rattle.ordc.specs.Promises.{Numbered}
use Rattle.ordc.specs.declared.reply.Reply.{Reply}
use Rattle.ordc.proofs.Groups.{record_is_read_back}
use Rattle.ordc.proofs.Numbered.{refusals_are_numbered}

-- ---- one call

-- what a call's answer says by cases
pub data Ended {A : Type 0} (ended : Answer) (before given after : A) (r : Reply) : Type 0 where
  ended_accepted : ended ≡ Ok tt → Accepted r → after ≡ given → Ended ended before given after r
  ended_refused : (found : Refusal) → ended ≡ Err found → r ≡ reply_to (Err found) → (Accepted r → ⊥) → after ≡ before → Ended ended before given after r

pub ended_by : {A : Type 0} {before given after : A} {r : Reply} (ended : Answer) → Numbered ended → Answered (reply_to ended) before given after r → Ended ended before given after r
ended_by (Ok accepted) n a = ended_accepted refl (ap (λ (r : Reply). r.number) a.refuses) a.lent
ended_by {r = r} (Err found) n a =
    ended_refused found refl a.refuses (λ none. clash (eqb found.number 0) n (eq-eqb found.number 0 (sym (ap (λ (r : Reply). r.number) a.refuses) ∙ none))) (rw n at a.lent)
  where
    clash : (b : Bool) → b ≡ false → b ≡ true → ⊥
    clash b e f = let z : ◌≡◌ {A = ℕ} 0 1 = cc in omega arith

-- ---- lists of bookings

groups_long : (n : ℕ) (values : List ℤ) → length (groups_of n values) ≡ n
unfolding groups_of
groups_long zero values = refl
groups_long (suc n) values = ap suc (groups_long n (drop 3 values))

-- after a booking the numbers are those of the record that was booked, accepted or not
book_call : (before after : List ℤ) (text : List ℕ) {r : Reply} → BookCalled before text after r → record_of after ≡ record_after (record_of before) (booked (record_of before) text)
book_call before after text called = go (ended_by (answer_of (booked (record_of before) text)) (refusals_are_numbered.booking (record_of before) text) called)
  where
    booked_as : Record
    booked_as = record_after (record_of before) (booked (record_of before) text)

    long : length booked_as.groups ≡ 24
    long = whole_is booked_as (booked_whole (record_of before) text (whole (record_of before) (groups_long 24 before)))

    go : {r : Reply} → Ended (answer_of (booked (record_of before) text)) before (record_values booked_as) after r → record_of after ≡ booked_as
    go (ended_accepted e none laid) = ap record_of laid ∙ record_is_read_back booked_as long
    go (ended_refused found e is number left) = ap record_of left ∙ sym (refused_keeps (record_of before) text found e)

pub book_calls : {before after : List ℤ} {texts : List (List ℕ)} {replies : List Reply} → BookCalls before texts replies after → record_of after ≡ booked_all (record_of before) texts
book_calls {before} no_call = sym (booked_none (record_of before))
book_calls {before} (one_call {between = between} {text = text} {texts = texts} called others) =
    book_calls others ∙ ap (λ (history : Record). booked_all history texts) (book_call before between text called) ∙ sym (booked_one (record_of before) text texts)

-- ---- two lists of bookings

place_lowered :
    (d : ℕ) (before before' after after' : List ℤ) (text text' : List ℕ) {r r' : Reply} → BookCalled before text after r → BookCalled before' text' after' r' → BookCallLowered d text text' r r' →
    PlaceLowered d text text' (answer_of (booked (record_of before) text)) (answer_of (booked (record_of before') text'))
place_lowered d before before' after after' text text' {r} {r'} called called' lowered =
    go (ended_by (answer_of (booked (record_of before) text)) (refusals_are_numbered.booking (record_of before) text) called)
    (ended_by (answer_of (booked (record_of before') text')) (refusals_are_numbered.booking (record_of before') text') called')
  where
    go :
        {a a' : Answer} {given given' : List ℤ} → Ended a before given after r → Ended a' before' given' after' r' → PlaceLowered d text text' a a'
    go (ended_accepted e none laid) (ended_accepted e' none' laid') = rw (e, e') (both_accepted (lowered.hour none))
    go (ended_accepted e none laid) (ended_refused found' e' is' number' left') = absurd (number' (lowered.second none))
    go (ended_refused found e is number left) (ended_accepted e' none' laid') = absurd (number (lowered.first none'))
    go (ended_refused found e is number left) (ended_refused found' e' is' number' left') = rw (e, e') (both_refused found found')

pub lists_lowered :
    (d : ℕ) {before before' after after' : List ℤ} {texts texts' : List (List ℕ)} {replies replies' : List Reply} → BookCalls before texts replies after → BookCalls before' texts' replies' after' →
    BookCallsLowered d texts texts' replies replies' → ListsLowered d (record_of before) (record_of before') texts texts'
lists_lowered d no_call no_call none_lowered = tt
lists_lowered d no_call (one_call called' others') lowered = elim lowered [ ]
lists_lowered d (one_call called others) no_call lowered = elim lowered [ ]
lists_lowered d {before} {before'} (one_call {between = between} {text = text} called others) (one_call {between = between'} {text = text'} called' others') (one_lowered lowered all) =
    (place_lowered d before before' between between' text text' called called' lowered, rw (← book_call before between text called, ← book_call before' between' text' called') (lists_lowered d others others' all))

pub fresh_record : record_of fresh_values ≡ fresh
unfolding groups_of
fresh_record = sym fresh_held

-- ---- settling and pricing

pub record Settled (history : List ℤ) (voll floor : ℤ) (curves : List ℤ) : Type 0 where
  pub accepted : settled (record_of history) voll floor ≡ Ok (curves_of curves)

pub settle_call : (history before curves : List ℤ) (voll floor : ℤ) {r : Reply} → SettleCalled history voll floor before curves r → Accepted r → Settled history voll floor curves
settle_call history before curves voll floor {r} called accepted =
    go (settled (record_of history) voll floor) refl
    (ended_by (answer_of (settled (record_of history) voll floor)) (refusals_are_numbered.settling (record_of history) voll floor) called)
  where
    go :
        (given : Result CurveSet Refusal) → settled (record_of history) voll floor ≡ given →
        Ended (answer_of (settled (record_of history) voll floor)) before (values_given (settled (record_of history) voll floor)) curves r → Settled history voll floor curves
    go (Ok set) is (ended_accepted e none laid) =
        let same : curves_of curves ≡ set = ap curves_of (laid ∙ ap values_given is) ∙ set_of_values set (settled-length (record_of history) voll floor set is) in
        record { accepted = is ∙ ap Ok (sym same) }
    go (Err found) is (ended_accepted e none laid) =
        let n : ◌≡◌ {A = Answer} (Err found) (Ok tt) = sym (ap answer_of is) ∙ e in cc
    go given is (ended_refused found e told number left) = absurd (number accepted)

-- an accepted pricing lays the six numbers of its prices
pub record PricesLaid (curves : CurveSet) (snapshot : List ℕ) (answer : List ℤ) : Type 0 where
  pub prices : Prices
  pub priced_as : priced curves snapshot ≡ Ok prices
  pub laid : answer ≡ pricing_values (Ok prices)

pub price_call : (curves before laid : List ℤ) (snapshot : List ℕ) {r : Reply} → PriceCalled curves snapshot before laid r → Accepted r → PricesLaid (curves_of curves) snapshot laid
price_call curves before laid snapshot {r} called accepted =
    go (priced (curves_of curves) snapshot) refl (ended_by (pricing_answer (priced (curves_of curves) snapshot)) (refusals_are_numbered.pricing (curves_of curves) snapshot) called)
  where
    go :
        (found : Pricing) → priced (curves_of curves) snapshot ≡ found → Ended (pricing_answer (priced (curves_of curves) snapshot)) before (pricing_values (priced (curves_of curves) snapshot)) laid r →
        PricesLaid (curves_of curves) snapshot laid
    go (Ok prices) is (ended_accepted e none same) = record { prices = prices; priced_as = is; laid = same ∙ ap pricing_values is }
    go (Err found) is (ended_accepted e none same) =
        let n : ◌≡◌ {A = Answer} (Err found) (Ok tt) = sym (ap pricing_answer is) ∙ e in cc
    go found is (ended_refused refusal e told number left) = absurd (number accepted)
