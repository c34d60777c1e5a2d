use Rattle.std.proofs.Common.{◌≡◌, true, false, rules, arith, sym, ◌∙◌, to_z-of_z}
use mir.Syntax.{w64}
use mir.Val.{SFits}
use Rattle.curve_record.specs.Possible.{record_possible}
use Rattle.curve_booking.specs.Booking.{booked}
use Rattle.curve_booking.proofs.Booked.{answer_refused, answer_error, error_group_below}
use Rattle.curve_booking.proofs.book.Goals as goal

pub returns-then-not-record_possible : goal.returns-then-not-record_possible
unfolding booked
returns-then-not-record_possible c =
    let impossible : record_possible c.args.history ≡ false = search rules in
    rw impossible

pub book_error-requires-clause-group_bound : goal.book_error-requires-clause-group_bound
book_error-requires-clause-group_bound c =
    omega (arith, error_group_below c.args.text.now c.in_ok-hour.hour (sym c.read_hour.ensures ∙ c.in_ok-hour.was))

pub returns-in_err-hour : goal.returns-in_err-hour
returns-in_err-hour c =
    let possible : record_possible c.args.history ≡ true = search rules in
    let refused = answer_refused c.args.history c.args.text.now _ possible (sym c.read_hour.ensures ∙ c.in_err-hour.was) in
    search rules

pub returns : goal.returns
returns c =
    let possible : record_possible c.args.history ≡ true = search rules in
    let fits : SFits w64 c.in_ok-hour.hour.error = search rules in
    (rw (to_z-of_z fits) at c.book_error.ensures)
    ∙ sym (answer_error c.args.history c.args.text.now c.in_ok-hour.hour possible (sym c.read_hour.ensures ∙ c.in_ok-hour.was))
