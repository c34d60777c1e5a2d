-- Where every hour-ahead reserve falls by d, every mean falls by d and every spread stays.
use mathlib.Core.Path.{◌≡◌, refl, sym}
use mathlib.Core.List.{List, [], ◌∷◌}
use Prim.Native.Nat.{ℕ}
use Rattle.std.specs.Prelude.{Ok}
use Rattle.text_refusal.specs.Answer.{Answer, answer_of}
use Rattle.curve_record.specs.declared.Record.{Record}
use Rattle.curve_hour.specs.Hour.{HourAnswer, hour_in, hour_group, error_of}
use Rattle.curve_record.specs.Record.{fresh, group_at}
use Rattle.curve_booking.specs.Booking.{with_error, record_after, booked}
use Rattle.curve_hour.proofs.HourCases.{error_lowered}
use Rattle.curve_record.proofs.Lowered.{LoweredRecord, lowered_mean, lowered_squares, lowered_with_group, fresh_lowered}
use Rattle.curve_booking.proofs.Booked.{refused_keeps, accepted_changes}
use Rattle.curve_booking.proofs.LoweredErrors.{lowered_more}
use Rattle.curve_settling.proofs.Settled.{same_spread}
use Rattle.curve.specs.Lists.{booked_all, HourLowered, hour_lowered, PlaceLowered, both_refused, both_accepted, ListsLowered}
use Rattle.curve.specs.Promises.{LoweredErrorsLowerMeans}

-- ---- one booking

place_lowered : (d : ℕ) (first second : Record) (text text' : List ℕ) → LoweredRecord d first second
    → PlaceLowered d text text' (answer_of (booked first text)) (answer_of (booked second text'))
    → LoweredRecord d (record_after first (booked first text)) (record_after second (booked second text'))
place_lowered d first second text text' l = go refl refl
  where
    accepted : {hour hour' : HourAnswer} → hour_in text ≡ hour → hour_in text' ≡ hour' → HourLowered d hour hour'
        → answer_of (booked first text) ≡ Ok tt → answer_of (booked second text') ≡ Ok tt
        → LoweredRecord d (record_after first (booked first text)) (record_after second (booked second text'))
    accepted h h' (hour_lowered hour hour' runs month at_hour shed counted ahead) a a' =
        let same : hour_group hour ≡ hour_group hour' = cc in
        rw (accepted_changes first text hour runs h a, accepted_changes second text' hour' runs h' a', sym same)
        (lowered_with_group d first second (hour_group hour) (with_error (group_at first (hour_group hour)) (error_of hour runs))
        (with_error (group_at second (hour_group hour)) (error_of hour' runs)) l
        (lowered_more d (group_at first (hour_group hour)) (group_at second (hour_group hour)) (error_of hour runs) (error_of hour' runs) (l.at_each (hour_group hour))
        (error_lowered d hour hour' runs shed ahead)))

    go : {a a' : Answer} → answer_of (booked first text) ≡ a → answer_of (booked second text') ≡ a' → PlaceLowered d text text' a a'
        → LoweredRecord d (record_after first (booked first text)) (record_after second (booked second text'))
    go e e' (both_refused found other) = rw (refused_keeps first text found e, refused_keeps second text' other e') l
    go e e' (both_accepted hours) = accepted refl refl hours e e'

-- ---- the whole lists

all_lowered : (d : ℕ) (first second : Record) (texts texts' : List (List ℕ)) → LoweredRecord d first second → ListsLowered d first second texts texts'
    → LoweredRecord d (booked_all first texts) (booked_all second texts')
unfolding booked_all
all_lowered d first second [] [] l h = l
all_lowered d first second [] (text' ∷ texts') l h = absurd h
all_lowered d first second (text ∷ texts) [] l h = absurd h
all_lowered d first second (text ∷ texts) (text' ∷ texts') l h =
    all_lowered d (record_after first (booked first text)) (record_after second (booked second text')) texts texts' (place_lowered d first second text text' l h.0) h.1

pub lowered_errors_lower_means : LoweredErrorsLowerMeans
lowered_errors_lower_means d texts texts' h g =
    let l = (all_lowered d fresh fresh texts texts' (fresh_lowered d) h).at_each g in
    let first = group_at (booked_all fresh texts) g in
    let second = group_at (booked_all fresh texts') g in
    (sym l.count, λ some. (lowered_mean d first second l some, same_spread first second l.count (lowered_squares d first second l some)))
