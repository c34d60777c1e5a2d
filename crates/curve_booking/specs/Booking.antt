-- Document 01, "History to curves": booking, an hour added to the record. 1, 2, the lines with 3 to 7, 9, then 10, then 11.
use Rattle.std.specs.Prelude.{ℕ, ◌+◌, List, leb, ℤ, nat_abs, ◌+ℤ◌, ◌*ℤ◌, cond, Result, Ok, Err}
use Rattle.text_refusal.specs.declared.refusal.Refusal.{Refusal}
use Rattle.curve_hour.specs.Hour.{HourAnswer, read, refused, hour_in, hour_group, error_of}
use Rattle.curve_record.specs.Record.{group_at, with_group}
use Rattle.curve_record.specs.Possible.{record_possible}
use Rattle.curve_record.specs.declared.Group.{Group}
use Rattle.curve_record.specs.declared.Record.{Record}

-- a group with one error more: count, sum and sum of squares
unfoldable pub with_error : Group → ℤ → Group
with_error g e = record { count = g.count + 1; sum = g.sum +ℤ e; squares = g.squares +ℤ e *ℤ e }

-- a refused hour gives no record
abbrev pub kept : ℕ → ℕ → Result Record Refusal
kept number line = Err (record { number = number; line = line })

-- the record after a booking: the one that it gives, and the one from before where the hour is refused
abbrev pub record_after : Record → Result Record Refusal → Record
record_after history (Ok booked) = booked
record_after history (Err found) = history

-- 10 where the group already has 1000 hours, 11 where the error lies beyond ±20000000; an accepted hour changes only its group
unfoldable pub book_error : Record → ℕ → ℤ → Result Record Refusal
book_error history g e =
    cond (leb 1000 (group_at history g).count)
    (kept 10 0)
    (cond (leb (nat_abs e) 20000000)
    (Ok (with_group history g (with_error (group_at history g) e)))
    (kept 11 0))

-- an hour that was read, or what its text was refused by
abbrev pub book_hour : Record → HourAnswer → Result Record Refusal
book_hour history (refused found) = Err found
book_hour history (read hour runs) = book_error history (hour_group hour) (error_of hour runs)

-- an hour's text booked on a record
unfoldable pub booked : Record → List ℕ → Result Record Refusal
booked history text = cond (record_possible history) (book_hour history (hour_in text)) (kept 1 0)
