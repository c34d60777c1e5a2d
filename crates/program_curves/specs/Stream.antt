-- The input taken byte by byte: what a byte does to the stream and to the bytes it holds.
use Rattle.std.specs.Prelude.{ℕ, Bool, true, false, not, cond, ◌≡◌, List, [], ◌∷◌, ◌++◌, eqb, leb, ℤ, pos, length, take, set, Result, Ok, Err}
use Rattle.text_refusal.specs.Bytes.{bytes}
use Rattle.text_line.specs.Field.{Field, LineAnswer, got, refused, field_at}
use Rattle.text_schema.specs.Schema.{laid_over}
use Rattle.text_refusal.specs.declared.refusal.Refusal.{Refusal}
use Rattle.curve_record.specs.Record.{fresh}
use Rattle.curve_record.specs.Possible.{record_possible}
use Rattle.curve_text.specs.CurveText.{voll_field, floor_field}
use Rattle.curve_booking.specs.Booking.{booked}
use Rattle.curve_record.specs.declared.Record.{Record}
use Rattle.text_writer.specs.Output.{refusal_lines}
use Rattle.program_curves.specs.Program.{ends_hour, last_hour, settle_refused, hours_booked}
use Rattle.program_curves.specs.declared.Stage.{Stage}
use Rattle.program_curves.specs.declared.Stage.TheVariants as stage
use Rattle.program_curves.specs.declared.Stream.{Stream}

-- a stream, and the bytes of the line or hour that has begun
pub record State : Type 0 where
  pub stage : Stage
  pub voll : ℤ
  pub floor : ℤ
  pub history : Record
  pub held : List ℕ

-- before any input
abbrev pub start : State
start = record { stage = stage.Voll; voll = pos 0; floor = pos 0; history = fresh; held = [] }

-- what the library holds between two parts: the first bytes of the lent buffer are the bytes held
abbrev pub state_of : Stream → List ℕ → State
state_of s buffer =
    record { stage = s.stage; voll = s.voll; floor = s.floor; history = s.history; held = take s.held buffer }

-- the stream of a state, whose bytes held stand in the buffer
abbrev pub stream_of : State → Stream
stream_of s = record { stage = s.stage; voll = s.voll; floor = s.floor; history = s.history; held = length s.held }

abbrev pub at_stage : State → Stage → List ℕ → State
at_stage s next held = record { stage = next; voll = s.voll; floor = s.floor; history = s.history; held = held }

abbrev pub refused_settle : State → ℕ → ℕ → State
refused_settle s number line = at_stage s (stage.RefusedSettle (record { number = number; line = line })) []

abbrev pub refused_hour : State → Refusal → State
refused_hour s found = at_stage s (stage.RefusedHour found) []

-- a whole `voll` line
abbrev pub voll_taken : State → LineAnswer ℤ → State
voll_taken s (refused found) = refused_settle s found.number 1
voll_taken s (got voll next) = record { stage = stage.Floor; voll = voll; floor = s.floor; history = s.history; held = [] }

-- a whole `floor` line
abbrev pub floor_taken : State → LineAnswer ℤ → State
floor_taken s (refused found) = refused_settle s found.number 2
floor_taken s (got floor next) = record { stage = stage.Hours; voll = s.voll; floor = floor; history = s.history; held = [] }

-- a whole hour
abbrev pub hour_taken : State → Result Record Refusal → State
hour_taken s (Ok history) = record { stage = stage.Hours; voll = s.voll; floor = s.floor; history = history; held = [] }
hour_taken s (Err found) = refused_hour s found

-- an hour of more than 65536 bytes: 1, then 2
abbrev pub hour_too_long : State → State
hour_too_long s = refused_hour s (record { number = cond (record_possible s.history) 2 1; line = 0 })

-- a byte of a `voll` or `floor` line: 3 where 65536 bytes stand before it, the line judged at byte 10
abbrev pub line_byte : (State → LineAnswer ℤ → State) → Field ℤ → ℕ → State → ℕ → State
line_byte taken field line s byte =
    cond (leb 65536 (length s.held))
    (refused_settle s 3 line)
    (cond (eqb byte 10)
    (taken s (field_at field (s.held ++ (byte ∷ [])) 0))
    (at_stage s s.stage (s.held ++ (byte ∷ []))))

-- a byte of an hour: an empty line ends it, and 65537 bytes are too many
abbrev pub hour_byte : State → ℕ → State
hour_byte s byte =
    cond (ends_hour s.held byte)
    (hour_taken s (booked s.history s.held))
    (cond (leb 65536 (length s.held))
    (hour_too_long s)
    (at_stage s s.stage (s.held ++ (byte ∷ []))))

abbrev pub by_stage : Stage → State → ℕ → State
by_stage stage.Voll s byte = line_byte voll_taken voll_field 1 s byte
by_stage stage.Floor s byte = line_byte floor_taken floor_field 2 s byte
by_stage stage.Hours s byte = hour_byte s byte
by_stage (stage.RefusedHour found) s byte = s
by_stage (stage.RefusedSettle found) s byte = s

unfoldable pub fed : State → ℕ → State
fed s byte = by_stage s.stage s byte

unfoldable pub fed_all : State → List ℕ → State
fed_all s [] = s
fed_all s (byte ∷ rest) = fed_all (fed s byte) rest

-- whether the stream is refused, so that nothing more is read
abbrev pub is_refused : Stage → Bool
is_refused stage.Voll = false
is_refused stage.Floor = false
is_refused stage.Hours = false
is_refused (stage.RefusedHour found) = true
is_refused (stage.RefusedSettle found) = true

-- ---- the lent buffer

-- whether a byte is part of a line or an hour
abbrev pub stores : Stage → List ℕ → ℕ → Bool
stores stage.Voll held byte = true
stores stage.Floor held byte = true
stores stage.Hours held byte = not (ends_hour held byte)
stores (stage.RefusedHour found) held byte = false
stores (stage.RefusedSettle found) held byte = false

-- such a byte is put after those held, where there is room
abbrev pub buffer_fed : State → List ℕ → ℕ → List ℕ
buffer_fed s buffer byte = cond (stores s.stage s.held byte) (set buffer (length s.held) byte) buffer

unfoldable pub buffer_fed_all : State → List ℕ → List ℕ → List ℕ
buffer_fed_all s buffer [] = buffer
buffer_fed_all s buffer (byte ∷ rest) = buffer_fed_all (fed s byte) (buffer_fed s buffer byte) rest

-- what taking a part of the input gives: the stream and the buffer after it
pub record Fed (s : Stream) (buffer part : List ℕ) (r : Stream) (after : List ℕ) : Type 0 where
  pub state : state_of r after ≡ fed_all (state_of s buffer) part
  pub count : r.held ≡ length (fed_all (state_of s buffer) part).held
  pub bytes : after ≡ buffer_fed_all (state_of s buffer) buffer part

-- ---- at the input's end

abbrev pub finished_at : Stage → State → List ℕ
finished_at stage.Voll s = settle_refused 3 1
finished_at stage.Floor s = settle_refused 3 2
finished_at stage.Hours s = hours_booked s.voll s.floor s.history (last_hour s.held)
finished_at (stage.RefusedHour found) s = refusal_lines found (bytes "hour")
finished_at (stage.RefusedSettle found) s = refusal_lines found (bytes "settle")

-- what the program prints
unfoldable pub finished : State → List ℕ
finished s = finished_at s.stage s

-- what printing a text gives: its length, and the text in place of the buffer's first bytes
pub record Printed (text before after : List ℕ) (r : ℕ) : Type 0 where
  pub count : r ≡ length text
  pub bytes : after ≡ laid_over text before
