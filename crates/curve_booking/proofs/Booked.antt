-- Booking by the answer of the hour reader, whose group is one of twenty-four.
use mathlib.Core.Path.{◌≡◌, refl, ap}
use mathlib.Core.Bool.{Bool, true, false, cond}
use mathlib.Core.List.{List}
use Prim.Native.Nat.{ℕ, ◌≤◌, ◌<◌}
use native.Mathlib.Omega.{arith}
use lib.Dec.{leb}
use lib.IntN.{ℤ, nat_abs}
use borrow.Author.Tests.{le-leb, lt-leb}
use Rattle.std.specs.Prelude.{Result, Ok, Err}
use Rattle.text_refusal.specs.declared.refusal.Refusal.{Refusal}
use Rattle.text_refusal.specs.Answer.{answer_of}
use Rattle.curve_hour.specs.declared.read.HourlyError.{HourlyError}
use Rattle.curve_record.specs.declared.Record.{Record}
use Rattle.curve_hour.specs.Hour.{Hour, Run, HourAnswer, read, refused, hour_in, hour_group, error_of, error_answer}
use Rattle.curve_hour.proofs.Hours.{hour_group_below}
use Rattle.curve_record.specs.Record.{group_at, with_group}
use Rattle.curve_record.specs.Possible.{record_possible}
use Rattle.curve_booking.specs.Booking.{with_error, kept, record_after, book_error, book_hour, booked}

-- ---- booking by what the hour reader answers

pub answer_refused : (history : Record) (text : List ℕ) (found : Refusal) → record_possible history ≡ true
    → error_answer (hour_in text) ≡ Err found → booked history text ≡ Err found
unfolding booked
answer_refused history text found h = rw h (go (hour_in text))
  where
    go : (hour : HourAnswer) → error_answer hour ≡ Err found → book_hour history hour ≡ Err found
    go (refused other) e = cc
    go (read hour runs) e = cc

pub answer_error : (history : Record) (text : List ℕ) (hourly : HourlyError) → record_possible history ≡ true
    → error_answer (hour_in text) ≡ Ok hourly → booked history text ≡ book_error history hourly.group hourly.error
unfolding booked
answer_error history text hourly h = rw h (go (hour_in text))
  where
    go : (hour : HourAnswer) → error_answer hour ≡ Ok hourly → book_hour history hour ≡ book_error history hourly.group hourly.error
    go (refused other) a = cc
    go (read hour runs) a =
        let same : ◌≡◌ {A = HourlyError} (record { group = hour_group hour; error = error_of hour runs }) hourly = cc in
        ap (λ (one : HourlyError). book_error history one.group one.error) same

-- ---- an error booked, case by case

module _ (history : Record) (g : ℕ) (e : ℤ) where
  pub error_full : 1000 ≤ (group_at history g).count → book_error history g e ≡ kept 10 0
  unfolding book_error
  error_full full = rw (le-leb 1000 (group_at history g).count full)

  module _ (room : (group_at history g).count < 1000) where
    pub error_far : 20000000 < nat_abs e → book_error history g e ≡ kept 11 0
    unfolding book_error
    error_far far = rw (lt-leb 1000 (group_at history g).count room, lt-leb (nat_abs e) 20000000 far)

    pub error_accepted : nat_abs e ≤ 20000000 → book_error history g e ≡ Ok (with_group history g (with_error (group_at history g) e))
    unfolding book_error
    error_accepted near = rw (lt-leb 1000 (group_at history g).count room, le-leb (nat_abs e) 20000000 near)

-- ---- booking case by case

module _ (history : Record) (text : List ℕ) where
  pub booked_impossible : record_possible history ≡ false → booked history text ≡ kept 1 0
  unfolding booked
  booked_impossible e = rw e

  module _ (possible : record_possible history ≡ true) where
    pub booked_refused : (found : Refusal) → hour_in text ≡ refused found → booked history text ≡ Err found
    unfolding booked
    booked_refused found e = rw (possible, e)

-- ---- what an answer tells of the record

abbrev pub changed : Record → ℕ → ℤ → Record
changed history g e = with_group history g (with_error (group_at history g) e)

-- an accepted error changes its group
error_changes : (history : Record) (g : ℕ) (e : ℤ) → answer_of (book_error history g e) ≡ Ok tt → record_after history (book_error history g e) ≡ changed history g e
unfolding book_error
error_changes history g e = go (leb 1000 (group_at history g).count) (leb (nat_abs e) 20000000)
  where
    go : (full near : Bool) → let answered = cond full (kept 10 0) (cond near (Ok (changed history g e)) (kept 11 0)) in
        answer_of answered ≡ Ok tt → record_after history answered ≡ changed history g e
    go true near a = cc
    go false false a = cc
    go false true a = refl

-- a refused hour leaves the record
pub refused_keeps : (history : Record) (text : List ℕ) (found : Refusal) → answer_of (booked history text) ≡ Err found → record_after history (booked history text) ≡ history
refused_keeps history text found = go (booked history text)
  where
    go : (given : Result Record Refusal) → answer_of given ≡ Err found → record_after history given ≡ history
    go (Ok after) a = cc
    go (Err other) a = refl

-- an accepted hour changes only its group
pub accepted_changes : (history : Record) (text : List ℕ) (hour : Hour) (runs : List Run) → hour_in text ≡ read hour runs
    → answer_of (booked history text) ≡ Ok tt → record_after history (booked history text) ≡ changed history (hour_group hour) (error_of hour runs)
unfolding booked
accepted_changes history text hour runs h = rw h (go (record_possible history))
  where
    go : (p : Bool) → answer_of (cond p (book_error history (hour_group hour) (error_of hour runs)) (kept 1 0)) ≡ Ok tt
        → record_after history (cond p (book_error history (hour_group hour) (error_of hour runs)) (kept 1 0)) ≡ changed history (hour_group hour) (error_of hour runs)
    go false e = cc
    go true e = error_changes history (hour_group hour) (error_of hour runs) e

-- ---- the group of an hour that was read

pub error_group_below : (text : List ℕ) (hourly : HourlyError) → error_answer (hour_in text) ≡ Ok hourly → hourly.group < 24
error_group_below text hourly e = go (hour_in text) refl e
  where
    go : (a : HourAnswer) → hour_in text ≡ a → error_answer a ≡ Ok hourly → hourly.group < 24
    go (refused found) a e = absurd (let clash : ◌≡◌ {A = ℕ} 0 1 = cc in omega arith)
    go (read hour runs) a e =
        let same : ◌≡◌ {A = HourlyError} (record { group = hour_group hour; error = error_of hour runs }) hourly = cc in
        rw (ap (λ (one : HourlyError). one.group) same) at (hour_group_below text hour runs a)
