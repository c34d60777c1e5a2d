-- Document 01, demand 3: a list of bookings, and two lists of which the second has every hour-ahead reserve lower by the same whole number of kW.
use Rattle.text_refusal.specs.Answer.{Answer, answer_of}
use Rattle.std.specs.Prelude.{ℕ, ◌≡◌, List, [], ◌∷◌, pos, ◌-ℤ◌, Ok, Err}
use Rattle.text_refusal.specs.declared.refusal.Refusal.{Refusal}
use Rattle.curve_hour.specs.Hour.{Hour, Run, HourAnswer, read, hour_in, hour_ahead}
use Rattle.curve_record.specs.declared.Record.{Record}
use Rattle.curve_booking.specs.Booking.{record_after, booked}

-- ---- a list of bookings: each gets the record after the one before

unfoldable pub booked_all : Record → List (List ℕ) → Record
booked_all history [] = history
booked_all history (text ∷ texts) = booked_all (record_after history (booked history text)) texts

-- ---- two lists of bookings, the second with every hour-ahead reserve lower by the same whole number of kW

-- month, hour, shed, `runs` and all run fields are equal; the hour-ahead fields may differ in any way that makes HA lower by d
pub data HourLowered (d : ℕ) : HourAnswer → HourAnswer → Type 0 where
  hour_lowered :
      (first second : Hour) (runs : List Run) → first.month ≡ second.month → first.hour ≡ second.hour → first.shed ≡ second.shed →
      first.runs ≡ second.runs → hour_ahead second ≡ hour_ahead first -ℤ pos d → HourLowered d (read first runs) (read second runs)

-- one place of the two lists: a booking refused in one is refused in the other, texts and numbers may differ; any other place is lowered
pub data PlaceLowered (d : ℕ) (first second : List ℕ) : Answer → Answer → Type 0 where
  both_refused : (found other : Refusal) → PlaceLowered d first second (Err found) (Err other)
  both_accepted : HourLowered d (hour_in first) (hour_in second) → PlaceLowered d first second (Ok tt) (Ok tt)

-- equally long lists, each from its own record on
abbrev pub ListsLowered : ℕ → Record → Record → List (List ℕ) → List (List ℕ) → Type 0
ListsLowered d history history' [] [] = Unit
ListsLowered d history history' [] (text' ∷ texts') = ⊥
ListsLowered d history history' (text ∷ texts) [] = ⊥
ListsLowered d history history' (text ∷ texts) (text' ∷ texts') =
    PlaceLowered d text text' (answer_of (booked history text)) (answer_of (booked history' text'))
    × ListsLowered d (record_after history (booked history text)) (record_after history' (booked history' text')) texts texts'
