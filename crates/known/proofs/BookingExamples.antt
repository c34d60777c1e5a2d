-- Computed examples: what the definitions give where a wrong program would give something else.
use mathlib.Core.Path.{◌≡◌, refl}
use mathlib.Core.Bool.{true, false}
use mathlib.Core.List.{[], ◌∷◌}
use lib.IntN.{pos, negsuc}
use Rattle.integer.specs.Floor.{floor_div}
use Rattle.integer.specs.Quadratic.{quadratic}
use Rattle.root.specs.Root.{root_of, root_in, raised}
use Rattle.curve_record.specs.declared.Group.{Group}
use Rattle.text_refusal.specs.Answer.{answer_of, refusal}
use Rattle.curve_record.specs.Record.{no_hours, fresh, group_at, with_group}
use Rattle.curve_record.specs.Possible.{mean_of, squares_around, not_negative, possible}
use Rattle.curve_booking.specs.Booking.{with_error, book_error, record_after}
use Rattle.curve_settling.specs.Settle.{spread_of, settled_groups}

-- the errors −1 and 2, and −1 and 0
abbrev pub minus_one_two : Group
minus_one_two = with_error (with_error no_hours (negsuc 0)) (pos 2)

abbrev pub minus_one_none : Group
minus_one_none = with_error (with_error no_hours (negsuc 0)) (pos 0)

-- ---- booking

-- an hour is booked on its own group and on no fixed one
pub booked_on_its_group : group_at (record_after fresh (book_error fresh 3 (pos 5))) 3 ≡ record { count = 1; sum = pos 5; squares = pos 25 }
unfolding book_error with_error fresh group_at with_group
booked_on_its_group = refl

pub other_group_stays : group_at (record_after fresh (book_error fresh 3 (pos 5))) 0 ≡ no_hours
unfolding book_error with_error fresh group_at with_group
other_group_stays = refl

-- the second hour of a group is not booked as the first
pub second_hour_counts : minus_one_two ≡ record { count = 2; sum = pos 1; squares = pos 5 }
unfolding with_error
second_hour_counts = refl

-- a full group and a far error: 10 comes before 11
pub full_group_first : answer_of (book_error (with_group fresh 0 (record { count = 1000; sum = pos 0; squares = pos 0 })) 0 (pos 20000001)) ≡ refusal 10 0
unfolding book_error fresh group_at with_group
full_group_first = refl

pub far_error : answer_of (book_error fresh 0 (pos 20000001)) ≡ refusal 11 0
unfolding book_error fresh group_at with_group
far_error = refl

-- ---- the record

-- three errors of the sum 2 have squares: V is 0 at the mean 0, and −1 at 1
abbrev pub squares_missing : Group
squares_missing = record { count = 3; sum = pos 2; squares = pos 0 }

pub v_at_mean : not_negative (squares_around squares_missing (mean_of squares_missing)) ≡ true
unfolding squares_around mean_of floor_div quadratic
v_at_mean = refl

pub v_next_to_mean : possible squares_missing ≡ false
unfolding possible squares_around mean_of floor_div quadratic
v_next_to_mean = refl

-- a group of no hours has no V
pub no_hours-possible : possible no_hours ≡ true
unfolding possible
no_hours-possible = refl

-- ---- settling

-- −1 by 2 is −1 and not 0, the quotient rounded toward zero
pub mean_rounds_down : mean_of minus_one_none ≡ negsuc 0
unfolding with_error mean_of floor_div
mean_rounds_down = refl

pub mean_of_minus_one_two : mean_of minus_one_two ≡ pos 0
unfolding with_error mean_of floor_div
mean_of_minus_one_two = refl

-- V is 5, and V / count is 2: its root is neither that of V nor rounded up
pub spread_of_quotient : spread_of minus_one_two ≡ 1
unfolding with_error spread_of squares_around mean_of floor_div quadratic root_of root_in raised
spread_of_quotient = refl

pub root_of_v : root_of 5 ≡ 2
unfolding root_of root_in raised
root_of_v = refl

-- the errors −1 and 0 are 0 and 1 above their mean: V / count is 0
pub flat_group : settled_groups 0 (minus_one_none ∷ []) ≡ refusal 13 0
unfolding with_error settled_groups spread_of squares_around mean_of floor_div quadratic root_of root_in raised
flat_group = refl

-- one hour has the spread 0: 12 comes before 13
pub few_hours_first : settled_groups 0 (with_error no_hours (pos 5) ∷ []) ≡ refusal 12 0
unfolding with_error settled_groups
few_hours_first = refl

pub one_hour_is_flat : spread_of (with_error no_hours (pos 5)) ≡ 0
unfolding with_error spread_of squares_around mean_of floor_div quadratic root_of root_in raised
one_hour_is_flat = refl

-- the first faulty group decides, whatever its number
pub first_faulty_group : settled_groups 0 (minus_one_two ∷ minus_one_none ∷ no_hours ∷ []) ≡ refusal 13 1
unfolding with_error settled_groups spread_of squares_around mean_of floor_div quadratic root_of root_in raised
first_faulty_group = refl
