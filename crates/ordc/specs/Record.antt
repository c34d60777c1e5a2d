-- The layout of the record, and the effect of booking and settling on it. A record is 72 numbers: count, sum and sum of squares of each of the 24 groups in order.
use Rattle.std.specs.Prelude.{ℕ, zero, suc, List, [], ◌∷◌, ℤ, pos, nat_abs, drop, cond, Result}
use Rattle.std.specs.Int.Signed.{lt_z}
use Rattle.text_schema.specs.Schema.{value}
use Rattle.text_refusal.specs.Answer.{answer_of}
use Rattle.text_refusal.specs.declared.refusal.Refusal.{Refusal}
use Rattle.curve_set.specs.declared.CurveSet.{CurveSet}
use Rattle.curve_booking.specs.Booking.{booked, record_after}
use Rattle.curve_settling.specs.Settle.{settled}
use Rattle.curve_record.specs.declared.Group.{Group}
use Rattle.curve_record.specs.declared.Record.{Record}
use Rattle.ordc.specs.Reply.{reply_to, Answered}
use Rattle.ordc.specs.CurveText.{values_given}
use Rattle.ordc.specs.declared.reply.Reply.{Reply}

-- ---- the layout

-- a count below 0 is as impossible (1) as one over 1000
abbrev pub count_of : ℤ → ℕ
count_of z = cond (lt_z z (pos 0)) 1001 (nat_abs z)

unfoldable pub groups_of : ℕ → List ℤ → List Group
groups_of zero values = []
groups_of (suc n) values = record { count = count_of (value values 0); sum = value values 1; squares = value values 2 } ∷ groups_of n (drop 3 values)

abbrev pub record_of : List ℤ → Record
record_of values = record { groups = groups_of 24 values }

unfoldable pub group_values : List Group → List ℤ
group_values [] = []
group_values (g ∷ groups) = pos g.count ∷ g.sum ∷ g.squares ∷ group_values groups

abbrev pub record_values : Record → List ℤ
record_values history = group_values history.groups

-- ---- the functions

-- an accepted hour lays the booked record; a refused one leaves the record
abbrev pub BookCalled : List ℤ → List ℕ → List ℤ → Reply → Type 0
BookCalled before text after r =
    let booking : Result Record Refusal = booked (record_of before) text in
    Answered (reply_to (answer_of booking)) before (record_values (record_after (record_of before) booking)) after r

-- an accepted settling lays the curve set: VOLL, X, then mean and spread of each group; a refused one leaves it
abbrev pub SettleCalled : List ℤ → ℤ → ℤ → List ℤ → List ℤ → Reply → Type 0
SettleCalled history voll floor before after r =
    let curves : Result CurveSet Refusal = settled (record_of history) voll floor in
    Answered (reply_to (answer_of curves)) before (values_given curves) after r
