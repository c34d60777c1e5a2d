-- The stream fed byte by byte prints what the program prints on the whole input.
use Prim.Native.Nat.{ℕ}
use mathlib.Core.Path.{◌≡◌, refl, ◌∙◌}
use mathlib.Core.List.{List, []}
use native.Mathlib.Omega.{arith}
use lib.IntN.{ℤ, pos}
use lib.ListN.{drop}
use Rattle.text_line.specs.Field.{LineAnswer, got, refused}
use Rattle.text_line.proofs.LineBytes.{one_line_none}
use Rattle.curve_record.specs.Record.{fresh}
use Rattle.curve_text.specs.CurveText.{voll_field, floor_field}
use Rattle.program_curves.specs.Program.{settle_line, after_voll, after_floor, curves_output}
use Rattle.program_curves.specs.Stream.{State, voll_taken, floor_taken, fed, fed_all, finished}
use Rattle.program_curves.specs.Promises.{StreamIsTheProgram}
use Rattle.program_curves.specs.declared.Stage.TheVariants as stage
use Rattle.program_curves.proofs.SettleLine.{after, line_taken}
use Rattle.program_curves.proofs.Hours.{hours_taken}

abbrev voll_state : List ℕ → State
voll_state held = record { stage = stage.Voll; voll = pos 0; floor = pos 0; history = fresh; held = held }

abbrev floor_state : ℤ → List ℕ → State
floor_state voll held = record { stage = stage.Floor; voll = voll; floor = pos 0; history = fresh; held = held }

floor_line : (voll : ℤ) (rest : List ℕ) → finished (fed_all (floor_state voll []) rest) ≡ after_floor voll rest (settle_line floor_field rest)
unfolding fed finished
floor_line voll rest =
    line_taken (floor_state voll) floor_field 2 floor_taken (λ held byte. refl) (λ held. refl) (λ held found. refl) (λ held value next. refl) [] rest one_line_none (omega arith)
    ∙ go (settle_line floor_field rest)
  where
    go : (found : LineAnswer ℤ) → after (floor_state voll) floor_field 2 floor_taken rest found ≡ after_floor voll rest found
    go (refused found) = refl
    go (got floor next) = hours_taken voll floor fresh [] (drop next rest) (omega arith)

pub stream_is_the_program : StreamIsTheProgram
unfolding fed finished curves_output
stream_is_the_program input =
    line_taken voll_state voll_field 1 voll_taken (λ held byte. refl) (λ held. refl) (λ held found. refl) (λ held value next. refl) [] input one_line_none (omega arith)
    ∙ go (settle_line voll_field input)
  where
    go : (found : LineAnswer ℤ) → after voll_state voll_field 1 voll_taken input found ≡ after_voll input found
    go (refused found) = refl
    go (got voll next) = floor_line voll (drop next input)
