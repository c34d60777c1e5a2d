-- Document 01, "Programs": `curves` reads a `voll` line, a `floor` line, then hours, each followed by an empty line that is no part of it; it prints the curve
-- text. The first refusal ends the program, and nothing else is printed.
use Rattle.std.specs.Prelude.{ℕ, Bool, true, ◌&&◌, cond, List, [], ◌∷◌, ◌++◌, eqb, ℤ, take, drop, Result, Ok, Err}
use Rattle.text_refusal.specs.Bytes.{bytes}
use Rattle.text_line.specs.Field.{Field, LineAnswer, got, refused, field_at}
use Rattle.curve_record.specs.Record.{fresh}
use Rattle.curve_booking.specs.Booking.{booked}
use Rattle.curve_settling.specs.Settle.{settled}
use Rattle.curve_text.specs.CurveText.{voll_field, floor_field, curve_text}
use Rattle.text_refusal.specs.declared.refusal.Refusal.{Refusal}
use Rattle.curve_record.specs.declared.Record.{Record}
use Rattle.curve_set.specs.declared.CurveSet.{CurveSet}
use Rattle.text_writer.specs.Output.{refusal_lines}

-- a `voll` or `floor` line at the start of the rest; one not ended within 65536 bytes is refused by 3
abbrev pub settle_line : Field ℤ → List ℕ → LineAnswer ℤ
settle_line field rest = field_at field (take 65536 rest) 0

-- whether a line starts after some bytes: they are none, or end with byte 10
unfoldable pub at_line_start : List ℕ → Bool
at_line_start [] = true
at_line_start (byte ∷ []) = eqb byte 10
at_line_start (byte ∷ (next ∷ rest)) = at_line_start (next ∷ rest)

-- an empty line is byte 10 at a line's start
abbrev pub ends_hour : List ℕ → ℕ → Bool
ends_hour hour byte = eqb byte 10 && at_line_start hour

-- at the input's end: an hour exists where it has at least one byte
abbrev pub last_hour : List ℕ → List (List ℕ)
last_hour [] = []
last_hour (byte ∷ hour) = (byte ∷ hour) ∷ []

-- the hours of the rest, `hour` being what is read of the present one: each ends before the first empty line or at the input's end
unfoldable pub hours_from : List ℕ → List ℕ → List (List ℕ)
hours_from hour [] = last_hour hour
hours_from hour (byte ∷ rest) = cond (ends_hour hour byte) (hour ∷ hours_from [] rest) (hours_from (hour ++ (byte ∷ [])) rest)

-- ---- what is printed

abbrev pub settle_refused : ℕ → ℕ → List ℕ
settle_refused number line = refusal_lines (record { number = number; line = line }) (bytes "settle")

abbrev pub printed_curves : Result CurveSet Refusal → List ℕ
printed_curves (Ok curves) = curve_text curves
printed_curves (Err found) = refusal_lines found (bytes "settle")

abbrev pub settled_text : ℤ → ℤ → Record → List ℕ
settled_text voll floor history = printed_curves (settled history voll floor)

abbrev pub after_hour : Result Record Refusal → (Record → List ℕ) → List ℕ
after_hour (Ok history) more = more history
after_hour (Err found) more = refusal_lines found (bytes "hour")

-- the hours booked in order, then settled
unfoldable pub hours_booked : ℤ → ℤ → Record → List (List ℕ) → List ℕ
hours_booked voll floor history [] = settled_text voll floor history
hours_booked voll floor history (hour ∷ hours) = after_hour (booked history hour) (λ changed. hours_booked voll floor changed hours)

abbrev pub after_floor : ℤ → List ℕ → LineAnswer ℤ → List ℕ
after_floor voll rest (refused found) = settle_refused found.number 2
after_floor voll rest (got floor next) = hours_booked voll floor fresh (hours_from [] (drop next rest))

abbrev pub after_voll : List ℕ → LineAnswer ℤ → List ℕ
after_voll rest (refused found) = settle_refused found.number 1
after_voll rest (got voll next) = after_floor voll (drop next rest) (settle_line floor_field (drop next rest))

-- the whole input, and what the program prints
unfoldable pub curves_output : List ℕ → List ℕ
curves_output input = after_voll input (settle_line voll_field input)
