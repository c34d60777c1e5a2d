-- Document 01, "Turned back, in checking order": a refusal gives its number and a line, the first line being 1.
use Rattle.std.specs.Prelude.{ℕ, zero, suc, ◌+◌, cond, List, [], ◌∷◌, eqb}
use Rattle.text_refusal.specs.declared.refusal.Fault.{Fault}
use Rattle.text_refusal.specs.declared.refusal.Refusal.{Refusal}

-- a refusal within a text: its number, and where the refused line starts
abbrev pub fault : ℕ → ℕ → Fault
fault number at = record { number = number; at = at }

-- how many of the first n bytes are byte 10: the number of lines that end before the position n
unfoldable pub ended_lines : ℕ → List ℕ → ℕ
ended_lines zero text = 0
ended_lines (suc n) [] = 0
ended_lines (suc n) (byte ∷ text) = cond (eqb byte 10) 1 0 + ended_lines n text

-- the line that starts at a position
abbrev pub line_of : List ℕ → ℕ → ℕ
line_of text at = ended_lines at text + 1

-- a fault as a number and a line
abbrev pub refusal_of : List ℕ → Fault → Refusal
refusal_of text fault = record { number = fault.number; line = line_of text fault.at }
