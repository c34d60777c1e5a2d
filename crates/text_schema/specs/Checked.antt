-- Writing values that may be any: each line as it is written, and the number by which a reader of its kind refuses it.
use Rattle.std.specs.Prelude.{ℕ, suc, cond, List, [], ◌∷◌, ◌++◌, eqb, Ok}
use Rattle.text_refusal.specs.Answer.{Answer, refusal}
use Rattle.text_line.specs.Judged.{Judged, good, bad}
use Rattle.text_line.specs.Field.{Field}

-- a line to be written: its bytes, and the number by which it is refused, 0 where it is not
pub record CheckedLine : Type 0 where
  pub bytes : List ℕ
  pub number : ℕ

abbrev pub refused_by : {A : Type 0} → Judged A → ℕ
refused_by (good value) = 0
refused_by (bad number) = number

-- the line of a value: its key with `=`, the value as it is written, byte 10; refused as a reader refuses what is written
abbrev pub checked_line : {A : Type 0} → Field A → A → CheckedLine
checked_line field value =
    record {
      bytes = field.key ++ (field.write value ++ (10 ∷ []));
      number = refused_by (field.read (field.write value));
    }

-- lines in fixed order
unfoldable pub checked_lines : {A : Type 0} → List (Field A) → List A → List CheckedLine
checked_lines [] values = []
checked_lines (field ∷ fields) [] = []
checked_lines (field ∷ fields) (value ∷ values) = checked_line field value ∷ checked_lines fields values

-- the text of lines
unfoldable pub text_of : List CheckedLine → List ℕ
text_of [] = []
text_of (line ∷ lines) = line.bytes ++ text_of lines

-- the first refused of some lines, by its number and its line, `line` being that of the first of them
unfoldable pub first_refused : ℕ → List CheckedLine → Answer
first_refused line [] = Ok tt
first_refused line (due ∷ lines) = cond (eqb due.number 0) (first_refused (suc line) lines) (refusal due.number line)
