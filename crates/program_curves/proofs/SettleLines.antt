-- The `voll` line and the `floor` line told apart by the stage that waits for them.
use Prim.Native.Nat.{ℕ, ◌≤◌}
use mathlib.Core.Path.{◌≡◌}
use mathlib.Core.List.{[]}
use lib.IntN.{ℤ}
use native.Mathlib.Omega.{arith}
use Rattle.std.specs.Prelude.{Ok, Err}
use Rattle.text_refusal.specs.declared.refusal.Fault.{Fault}
use Rattle.text_line.specs.Field.{LineAnswer, got, refused}
use Rattle.program_curves.specs.Stream.{State, refused_settle, voll_taken, floor_taken}
use Rattle.program_curves.specs.internal.Feeding.{line_of, line_value, field_of, taken_at}
use Rattle.program_curves.specs.declared.Stage.{Stage}
use Rattle.program_curves.specs.declared.Stage.TheVariants as stage
use Rattle.program_curves.proofs.OneByte.{LineStage, voll_line, floor_line}

pub waits : (here : Stage) → 1 ≤ line_of here → LineStage here (taken_at here) (field_of here) (line_of here)
waits stage.Voll h = voll_line
waits stage.Floor h = floor_line
waits stage.Hours h = absurd (omega arith)
waits (stage.RefusedHour found) h = absurd (omega arith)
waits (stage.RefusedSettle found) h = absurd (omega arith)

-- what a line leads to, by its number or by its fault
module _ (s : State) (found : LineAnswer ℤ) where
  pub voll_got : (voll : ℤ) → line_value found ≡ Ok voll → voll_taken s found ≡ record { stage = stage.Floor; voll = voll; floor = s.floor; history = s.history; held = [] }
  voll_got voll = go found
    where
      go : (a : LineAnswer ℤ) → line_value a ≡ Ok voll → voll_taken s a ≡ record { stage = stage.Floor; voll = voll; floor = s.floor; history = s.history; held = [] }
      go (got value next) e = let same : value ≡ voll = cc in rw same
      go (refused fault) e = cc

  pub voll_refused : (fault : Fault) → line_value found ≡ Err fault → voll_taken s found ≡ refused_settle s fault.number 1
  voll_refused fault = go found
    where
      go : (a : LineAnswer ℤ) → line_value a ≡ Err fault → voll_taken s a ≡ refused_settle s fault.number 1
      go (got value next) e = cc
      go (refused met) e = let same : met ≡ fault = cc in rw same

  pub floor_got : (floor : ℤ) → line_value found ≡ Ok floor → floor_taken s found ≡ record { stage = stage.Hours; voll = s.voll; floor = floor; history = s.history; held = [] }
  floor_got floor = go found
    where
      go : (a : LineAnswer ℤ) → line_value a ≡ Ok floor → floor_taken s a ≡ record { stage = stage.Hours; voll = s.voll; floor = floor; history = s.history; held = [] }
      go (got value next) e = let same : value ≡ floor = cc in rw same
      go (refused fault) e = cc

  pub floor_refused : (fault : Fault) → line_value found ≡ Err fault → floor_taken s found ≡ refused_settle s fault.number 2
  floor_refused fault = go found
    where
      go : (a : LineAnswer ℤ) → line_value a ≡ Err fault → floor_taken s a ≡ refused_settle s fault.number 2
      go (got value next) e = cc
      go (refused met) e = let same : met ≡ fault = cc in rw same
