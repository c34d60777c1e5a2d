-- Lists of bookings one after the other: their record holds twenty-four groups, and from the fresh one it is never impossible (1).
use mathlib.Core.Path.{◌≡◌, refl}
use mathlib.Core.Bool.{true}
use mathlib.Core.List.{List, [], ◌∷◌}
use Prim.Native.Nat.{ℕ}
use Rattle.std.specs.Prelude.{Result}
use Rattle.text_refusal.specs.declared.refusal.Refusal.{Refusal}
use Rattle.curve_record.specs.declared.Record.{Record}
use Rattle.curve_record.specs.Record.{fresh}
use Rattle.curve_record.specs.Possible.{record_possible}
use Rattle.curve_booking.specs.Booking.{record_after, booked}
use Rattle.curve_record.proofs.PossibleGroups.{fresh-possible}
use Rattle.curve_record.proofs.RecordGroups.{Whole, whole_after}
use Rattle.curve_booking.proofs.Closure.{booked-possible}
use Rattle.curve.specs.FirstRefusal.{BookingCase, record_impossible, hour_is_refused, group_full, error_too_large, hour_booked}
use Rattle.curve.proofs.FirstRefusal.{booking_is_refused_first}
use Rattle.curve.specs.Lists.{booked_all}
use Rattle.curve.specs.Promises.{BookedRecordsArePossible}

pub booked_none : (history : Record) → booked_all history [] ≡ history
unfolding booked_all
booked_none history = refl

pub booked_one : (history : Record) (text : List ℕ) (texts : List (List ℕ)) → booked_all history (text ∷ texts) ≡ booked_all (record_after history (booked history text)) texts
unfolding booked_all
booked_one history text texts = refl

pub booked_whole : (history : Record) (text : List ℕ) → Whole history → Whole (record_after history (booked history text))
booked_whole history text whole = go (booking_is_refused_first history text).applies
  where
    go : {booking : Result Record Refusal} → BookingCase history text booking → Whole (record_after history booking)
    go (record_impossible p) = whole
    go (hour_is_refused p hour reading found e) = whole
    go (group_full p hourly reading full) = whole
    go (error_too_large p hourly reading room far) = whole
    go (hour_booked p hourly reading room near) = whole_after history hourly.group _ whole

pub all_booked_possible : (history : Record) (texts : List (List ℕ)) → record_possible history ≡ true
    → record_possible (booked_all history texts) ≡ true
unfolding booked_all
all_booked_possible history [] h = h
all_booked_possible history (text ∷ texts) h = all_booked_possible (record_after history (booked history text)) texts (booked-possible history text h)

pub booked_records_are_possible : BookedRecordsArePossible
booked_records_are_possible texts = all_booked_possible fresh texts fresh-possible
