-- What one byte does to the stream and to the lent buffer, case by case.
use Prim.Native.Nat.{ℕ, ◌+◌, ◌<◌}
use mathlib.Core.Path.{◌≡◌, refl, sym, ◌∙◌}
use mathlib.Core.Bool.{true, false}
use mathlib.Core.List.{List, [], ◌∷◌, ◌++◌}
use native.Mathlib.Numerals.{add-one}
use native.Mathlib.Omega.{arith}
use borrow.Author.Tests.{eq-eqb, ne_eqb, le-leb, lt-leb}
use lib.IntN.{ℤ}
use lib.ListN.{length, take, set, length-append}
use lib.Seq.{length-take-le, set_out, take-suc-set}
use Rattle.text_line.specs.Field.{Field, LineAnswer, got, refused, field_at}
use Rattle.curve_booking.specs.Booking.{booked}
use Rattle.std.specs.Prelude.{Result, Ok, Err}
use Rattle.text_refusal.specs.declared.refusal.Refusal.{Refusal}
use Rattle.curve_record.specs.declared.Record.{Record}
use Rattle.curve_text.specs.CurveText.{voll_field, floor_field}
use Rattle.program_curves.specs.Program.{ends_hour}
use Rattle.program_curves.specs.internal.Feeding.{Ready}
use Rattle.program_curves.specs.Stream.{State, state_of, stream_of, at_stage, refused_settle, voll_taken, floor_taken, line_byte, hour_byte, hour_taken, hour_too_long, fed, fed_all, buffer_fed, buffer_fed_all, Fed}
use Rattle.program_curves.specs.declared.Stage.{Stage}
use Rattle.program_curves.specs.declared.Stage.TheVariants as stage
use Rattle.program_curves.specs.declared.Stream.{Stream}

-- a stage that waits for a line
pub data LineStage : Stage → (State → LineAnswer ℤ → State) → Field ℤ → ℕ → Type 0 where
  voll_line : LineStage stage.Voll voll_taken voll_field 1
  floor_line : LineStage stage.Floor floor_taken floor_field 2

line_fed : {at : Stage} {taken : State → LineAnswer ℤ → State} {field : Field ℤ} {line : ℕ} → LineStage at taken field line →
    (s : State) (byte : ℕ) → s.stage ≡ at → fed s byte ≡ line_byte taken field line s byte
unfolding fed
line_fed voll_line s byte e = rw e
line_fed floor_line s byte e = rw e

line_sets : {at : Stage} {taken : State → LineAnswer ℤ → State} {field : Field ℤ} {line : ℕ} → LineStage at taken field line →
    (s : State) (buffer : List ℕ) (byte : ℕ) → s.stage ≡ at → buffer_fed s buffer byte ≡ set buffer (length s.held) byte
line_sets voll_line s buffer byte e = rw e
line_sets floor_line s buffer byte e = rw e

-- what a whole line leads to does not depend on the bytes held, and holds none
line_same : {at : Stage} {taken : State → LineAnswer ℤ → State} {field : Field ℤ} {line : ℕ} → LineStage at taken field line →
    (stream : Stream) (buffer : List ℕ) (found : LineAnswer ℤ) → taken (state_of stream buffer) found ≡ taken (state_of stream []) found
line_same voll_line stream buffer (got value next) = refl
line_same voll_line stream buffer (refused found) = refl
line_same floor_line stream buffer (got value next) = refl
line_same floor_line stream buffer (refused found) = refl

line_empties : {at : Stage} {taken : State → LineAnswer ℤ → State} {field : Field ℤ} {line : ℕ} → LineStage at taken field line →
    (s : State) (found : LineAnswer ℤ) → (taken s found).held ≡ []
line_empties voll_line s (got value next) = refl
line_empties voll_line s (refused found) = refl
line_empties floor_line s (got value next) = refl
line_empties floor_line s (refused found) = refl

hour_fed : (s : State) (byte : ℕ) → s.stage ≡ stage.Hours → fed s byte ≡ hour_byte s byte
unfolding fed
hour_fed s byte e = rw e

hour_same : (stream : Stream) (buffer : List ℕ) (booking : Result Record Refusal) → hour_taken (state_of stream buffer) booking ≡ hour_taken (state_of stream []) booking
hour_same stream buffer (Ok history) = refl
hour_same stream buffer (Err found) = refl

hour_empties : (s : State) (booking : Result Record Refusal) → (hour_taken s booking).held ≡ []
hour_empties s (Ok history) = refl
hour_empties s (Err found) = refl

given_up : (at : Stage) (voll floor : ℤ) (history : Record) (held after : List ℕ) → held ≡ [] →
    let to : State = record { stage = at; voll = voll; floor = floor; history = history; held = held } in
    state_of (stream_of to) after ≡ to
given_up at voll floor history held after none = rw none

module _ (stream : Stream) (buffer : List ℕ) (byte : ℕ) where
  -- the bytes held are given up
  emptied : (after : List ℕ) (r : Stream) (to : State) → fed (state_of stream buffer) byte ≡ to → buffer_fed (state_of stream buffer) buffer byte ≡ after →
      to.held ≡ [] → r ≡ stream_of to → Fed stream buffer (byte ∷ []) r after
  unfolding fed_all buffer_fed_all
  emptied after r to goes sets none is =
      record {
        state = rw (is, goes) (given_up to.stage to.voll to.floor to.history to.held after none);
        count = rw (is, goes);
        bytes = sym sets;
      }

  module _ (ready : Ready stream buffer) where
    held_length : length (take stream.held buffer) ≡ stream.held
    held_length = length-take-le stream.held buffer (omega arith)

    stored : stream.held < 65536 → take (stream.held + 1) (set buffer stream.held byte) ≡ take stream.held buffer ++ (byte ∷ [])
    stored room = rw (add-one stream.held) (take-suc-set buffer stream.held byte (omega arith))

    -- one byte more is held
    longer : (at : Stage) (r : Stream) → stream.held < 65536 →
        fed (state_of stream buffer) byte ≡ at_stage (state_of stream buffer) at (take stream.held buffer ++ (byte ∷ [])) →
        buffer_fed (state_of stream buffer) buffer byte ≡ set buffer stream.held byte →
        r ≡ record { stage = at; voll = stream.voll; floor = stream.floor; history = stream.history; held = stream.held + 1 } →
        Fed stream buffer (byte ∷ []) r (set buffer stream.held byte)
    unfolding fed_all buffer_fed_all
    longer at r room goes sets is =
        record {
          state = rw (is, goes, stored room);
          count = rw (is, goes, length-append, held_length);
          bytes = sym sets;
        }

    module _ {at : Stage} {taken : State → LineAnswer ℤ → State} {field : Field ℤ} {line : ℕ} (waits : LineStage at taken field line) (here : stream.stage ≡ at) where
      pub line_full : (r : Stream) → stream.held ≡ 65536 → r ≡ stream_of (refused_settle (state_of stream []) 3 line) → Fed stream buffer (byte ∷ []) r buffer
      line_full r full is =
          emptied buffer r (refused_settle (state_of stream []) 3 line)
          (line_fed waits (state_of stream buffer) byte here ∙ rw (held_length, le-leb 65536 stream.held (omega arith)))
          (line_sets waits (state_of stream buffer) buffer byte here ∙ set_out buffer _ byte (rw held_length (omega arith)))
          refl is

      pub line_more : (r : Stream) → stream.held < 65536 → (byte ≡ 10 → ⊥) →
          r ≡ record { stage = at; voll = stream.voll; floor = stream.floor; history = stream.history; held = stream.held + 1 } →
          Fed stream buffer (byte ∷ []) r (set buffer stream.held byte)
      line_more r room other is =
          longer at r room
          (line_fed waits (state_of stream buffer) byte here ∙ rw (held_length, lt-leb 65536 stream.held room, ne_eqb byte 10 other, here))
          (line_sets waits (state_of stream buffer) buffer byte here ∙ rw held_length)
          is

      pub line_last_byte : (r : Stream) → stream.held < 65536 → byte ≡ 10 →
          r ≡ stream_of (taken (state_of stream []) (field_at field (take (stream.held + 1) (set buffer stream.held byte)) 0)) →
          Fed stream buffer (byte ∷ []) r (set buffer stream.held byte)
      line_last_byte r room ten is =
          let found : LineAnswer ℤ = field_at field (take stream.held buffer ++ (byte ∷ [])) 0 in
          emptied (set buffer stream.held byte) r (taken (state_of stream []) found)
          (line_fed waits (state_of stream buffer) byte here
          ∙ rw (held_length, lt-leb 65536 stream.held room, eq-eqb byte 10 ten) (line_same waits stream buffer found))
          (line_sets waits (state_of stream buffer) buffer byte here ∙ rw held_length)
          (line_empties waits (state_of stream []) found)
          (is ∙ rw (stored room))

    module _ (here : stream.stage ≡ stage.Hours) where
      pub hour_end : (r : Stream) → ends_hour (take stream.held buffer) byte ≡ true →
          let booking = booked stream.history (take stream.held buffer) in
          r ≡ stream_of (hour_taken (state_of stream []) booking) → Fed stream buffer (byte ∷ []) r buffer
      hour_end r ends is =
          let booking = booked stream.history (take stream.held buffer) in
          emptied buffer r (hour_taken (state_of stream []) booking)
          (hour_fed (state_of stream buffer) byte here ∙ rw ends (hour_same stream buffer booking))
          (rw (here, ends))
          (hour_empties (state_of stream []) booking) is

      pub hour_full : (r : Stream) → ends_hour (take stream.held buffer) byte ≡ false → stream.held ≡ 65536 →
          r ≡ stream_of (hour_too_long (state_of stream [])) → Fed stream buffer (byte ∷ []) r buffer
      hour_full r more full is =
          emptied buffer r (hour_too_long (state_of stream []))
          (hour_fed (state_of stream buffer) byte here ∙ rw (more, held_length, le-leb 65536 stream.held (omega arith)))
          (rw (here, more) (set_out buffer _ byte (rw held_length (omega arith))))
          refl is

      pub hour_more : (r : Stream) → ends_hour (take stream.held buffer) byte ≡ false → stream.held < 65536 →
          r ≡ record { stage = stage.Hours; voll = stream.voll; floor = stream.floor; history = stream.history; held = stream.held + 1 } →
          Fed stream buffer (byte ∷ []) r (set buffer stream.held byte)
      hour_more r more room is =
          longer stage.Hours r room
          (hour_fed (state_of stream buffer) byte here ∙ rw (more, held_length, lt-leb 65536 stream.held room, here))
          (rw (here, more, held_length))
          is
