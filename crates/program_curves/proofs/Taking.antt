-- What is taken after a refusal changes nothing; and cuts do not matter.
use Prim.Native.Nat.{ℕ, suc, ◌-◌, ◌<◌}
use mathlib.Core.Path.{◌≡◌, refl, sym, ap, ◌∙◌}
use mathlib.Core.Bool.{true}
use mathlib.Core.List.{List, [], ◌∷◌, ◌++◌}
use native.Mathlib.Omega.{arith}
use lib.Dec.{eqb}
use lib.ListN.{length, take, get_or}
use lib.Seq.{take-length, take-suc}
use Rattle.text_refusal.specs.declared.refusal.Refusal.{Refusal}
use Rattle.program_curves.specs.Program.{at_line_start}
use Rattle.program_curves.specs.Stream.{State, at_stage, fed, fed_all}
use Rattle.program_curves.specs.Promises.{CutsDoNotMatter}
use Rattle.program_curves.specs.declared.Stage.TheVariants as stage

pub hour_refused : (s : State) (found : Refusal) (rest : List ℕ) →
    fed_all (at_stage s (stage.RefusedHour found) []) rest ≡ at_stage s (stage.RefusedHour found) []
unfolding fed fed_all
hour_refused s found [] = refl
hour_refused s found (byte ∷ rest) = hour_refused s found rest

pub settle_refused_lem : (s : State) (found : Refusal) (rest : List ℕ) →
    fed_all (at_stage s (stage.RefusedSettle found) []) rest ≡ at_stage s (stage.RefusedSettle found) []
unfolding fed fed_all
settle_refused_lem s found [] = refl
settle_refused_lem s found (byte ∷ rest) = settle_refused_lem s found rest

-- whether a line starts after some bytes is told by the last one
after_byte : (front : List ℕ) (byte : ℕ) → at_line_start (front ++ (byte ∷ [])) ≡ eqb byte 10
unfolding at_line_start
after_byte [] byte = refl
after_byte (first ∷ []) byte = refl
after_byte (first ∷ (second ∷ front)) byte = after_byte (second ∷ front) byte

pub line_start : (text : List ℕ) → 0 < length text → at_line_start text ≡ eqb (get_or text (length text - 1) 0) 10
line_start text above =
    let last : ℕ = length text - 1 in
    let one_more : length text ≡ suc last = omega arith in
    let whole : text ≡ take last text ++ (get_or text last 0 ∷ []) =
    sym (take-length text) ∙ ap (λ (k : ℕ). take k text) one_more ∙ take-suc text last 0 (omega arith) in
    ap at_line_start whole ∙ after_byte (take last text) (get_or text last 0)

pub no_bytes : (text : List ℕ) → length text ≡ 0 → at_line_start text ≡ true
unfolding at_line_start
no_bytes [] h = refl
no_bytes (byte ∷ rest) h = absurd (omega arith)

pub cuts_do_not_matter : CutsDoNotMatter
unfolding fed_all
cuts_do_not_matter s [] back = refl
cuts_do_not_matter s (byte ∷ front) back = cuts_do_not_matter (fed s byte) front back
