-- Internals of `feed`: what its own functions say to each other. No definition of the program rests on these.
use Rattle.std.specs.Prelude.{ℕ, ◌+◌, ◌≤◌, ℤ, Bool, true, cond, List, ◌≡◌, eqb, length, take, drop, Result, Ok, Err}
use Rattle.text_refusal.specs.declared.refusal.Fault.{Fault}
use Rattle.text_line.specs.Field.{Field, LineAnswer, got, refused}
use Rattle.curve_text.specs.CurveText.{voll_field, floor_field}
use Rattle.program_curves.specs.Program.{ends_hour}
use Rattle.program_curves.specs.Stream.{State, state_of, voll_taken, floor_taken, fed_all, buffer_fed_all}
use Rattle.program_curves.specs.declared.Stage.{Stage}
use Rattle.program_curves.specs.declared.Stage.TheVariants as stage
use Rattle.program_curves.specs.declared.Stream.{Stream}

-- ---- the `voll` line and the `floor` line, by the stage that waits for it

-- its number in the text of a settling; 0 at the stages that wait for no such line
abbrev pub line_of : Stage → ℕ
line_of stage.Voll = 1
line_of stage.Floor = 2
line_of stage.Hours = 0
line_of (stage.RefusedHour found) = 0
line_of (stage.RefusedSettle found) = 0

-- the line's field, and what a whole line does; a stage other than `Voll` is read as `Floor`
abbrev pub field_of : Stage → Field ℤ
field_of stage.Voll = voll_field
field_of _ = floor_field

abbrev pub taken_at : Stage → State → LineAnswer ℤ → State
taken_at stage.Voll s found = voll_taken s found
taken_at _ s found = floor_taken s found

-- the number of a line, or its fault
abbrev pub line_value : LineAnswer ℤ → Result ℤ Fault
line_value (got value next) = Ok value
line_value (refused found) = Err found

-- whether a byte after those held is the last one: an empty line after an hour, byte 10 of a line
abbrev pub ends_at : Stage → List ℕ → ℕ → Bool
ends_at stage.Hours held byte = ends_hour held byte
ends_at _ held byte = eqb byte 10

-- whether a byte is not only put after those held: it is the last one, or finds no room
abbrev pub stops_at : Stage → ℕ → List ℕ → ℕ → Bool
stops_at waits held buffer byte = cond (eqb held 65536) true (ends_at waits (take held buffer) byte)

-- ---- within a part

-- a buffer of 65536 bytes, of which no more are held
pub record Ready (s : Stream) (buffer : List ℕ) : Type 0 where
  pub room : length buffer ≡ 65536
  pub within : s.held ≤ 65536

-- a stream with another number of bytes held
abbrev pub holding : Stream → ℕ → Stream
holding s held = record { stage = s.stage; voll = s.voll; floor = s.floor; history = s.history; held = held }

-- further on in a part: what is left of it leads to the same
pub record Further (s : State) (buffer rest : List ℕ) (s' : State) (buffer' rest' : List ℕ) : Type 0 where
  pub state : fed_all s' rest' ≡ fed_all s rest
  pub bytes : buffer_fed_all s' buffer' rest' ≡ buffer_fed_all s buffer rest

-- further on in a part by as many bytes, which are only held
pub record Stored (s : Stream) (buffer part after : List ℕ) (count : ℕ) : Type 0 where
  pub room : length after ≡ 65536
  pub within : s.held + count ≤ 65536
  pub inside : count ≤ length part
  pub further : Further (state_of s buffer) buffer part (state_of (holding s (s.held + count)) after) after (drop count part)
