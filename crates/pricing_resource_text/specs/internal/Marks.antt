-- Internal: lines of numbers of which all but one may be marked suspect, read by keys and bounds.
use Rattle.std.specs.Prelude.{ℕ, suc, ◌≤◌, ◌≡◌, Bool, cond, List, [], ◌∷◌, eqb, ℤ, length, Result, Ok, Err}
use Rattle.text_refusal.specs.declared.refusal.Fault.{Fault}
use Rattle.text_line.specs.Field.{Field}
use Rattle.text_number.specs.Number.{number_in}
use Rattle.text_number.specs.Marked.{plain_number, marked_in, judged_marked, written_marked, numbers_of, marks_of}
use Rattle.text_number.specs.declared.marked.Marked.{Marked}
use Rattle.text_number.specs.declared.NumberError.{NumberError}
use Rattle.text_schema.specs.Schema.{read_fields, keys_of}
use Rattle.pricing_resource_text.specs.declared.marks.MarkedLines.{MarkedLines}

-- the value of a line: of a flag, which carries no mark, or of one that may be marked
abbrev pub marked_or_flag : Bool → ℤ → ℤ → List ℕ → Result Marked NumberError
marked_or_flag flag low high value = cond flag (plain_number (number_in low high value)) (marked_in low high value)

-- the line at a place: a flag, or one that may be marked
abbrev pub line_field : Bool → List ℕ → ℤ → ℤ → Field Marked
line_field flag key low high = record { key = key; read = λ value. judged_marked (marked_or_flag flag low high value); write = written_marked }

-- the lines of some keys, so many standing before them, of which the one at the place `flag` is a flag
unfoldable pub fields_of : ℕ → ℕ → List (List ℕ) → List ℤ → List ℤ → List (Field Marked)
fields_of flag i [] lows highs = []
fields_of flag i (key ∷ keys) [] highs = []
fields_of flag i (key ∷ keys) (low ∷ lows) [] = []
fields_of flag i (key ∷ keys) (low ∷ lows) (high ∷ highs) = line_field (eqb i flag) key low high ∷ fields_of flag (suc i) keys lows highs

-- as many keys and bounds as places, and few of them
pub record FewLines (keys : List ℕ) (lows highs places : List ℤ) : Type 0 where
  pub keys_are : length (keys_of keys) ≡ length places
  pub lows_are : length lows ≡ length places
  pub highs_are : length highs ≡ length places
  pub few : length places ≤ 8

-- what reading them gives: the numbers in their places and which of them are marked, or the refused line
pub record MarksRead (fields : List (Field Marked)) (text : List ℕ) (at : ℕ) (after : List ℤ) (ended : Result MarkedLines Fault) : Type 0 where
  pub taken :
      (found : MarkedLines) → ended ≡ Ok found →
      ((read_fields fields text at).end ≡ Ok found.next) × ((found.marks ≡ marks_of (read_fields fields text at).values) × (after ≡ numbers_of (read_fields fields text at).values))
  pub refused : (found : Fault) → ended ≡ Err found → (read_fields fields text at).end ≡ Err found
