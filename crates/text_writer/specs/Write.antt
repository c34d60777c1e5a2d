-- Writing: the text of values by a schema of numbers, and a text laid into a lent buffer. Bytes after it stay; a buffer that is too short stays whole (14).
use Rattle.std.specs.Prelude.{ℕ, ◌+◌, ◌≡◌, List, [], ◌∷◌, ◌++◌, leb, ℤ, length, take, drop, cond, Option, Some, None}
use Rattle.text_number.specs.Number.{written_number}
use Rattle.text_number.specs.Marked.{written_marked}
use Rattle.text_number.specs.declared.marked.Marked.{Marked}
use Rattle.text_schema.specs.Schema.{keys_of}

-- a line: its key with `=`, the number, byte 10
abbrev pub written_line : List ℕ → ℤ → List ℕ
written_line key value = key ++ written_number value ++ (10 ∷ [])

-- numbers written under their keys, one a line
unfoldable pub written_numbers : List (List ℕ) → List ℤ → List ℕ
written_numbers [] values = []
written_numbers (key ∷ keys) [] = []
written_numbers (key ∷ keys) (value ∷ values) = written_line key value ++ written_numbers keys values

-- the same of numbers that may be marked suspect
abbrev pub written_marked_line : List ℕ → Marked → List ℕ
written_marked_line key value = key ++ written_marked value ++ (10 ∷ [])

unfoldable pub written_marked_lines : List (List ℕ) → List Marked → List ℕ
written_marked_lines [] values = []
written_marked_lines (key ∷ keys) [] = []
written_marked_lines (key ∷ keys) (value ∷ values) = written_marked_line key value ++ written_marked_lines keys values

-- a text in place of as many bytes of a buffer, from a position on
abbrev pub laid_at : List ℕ → ℕ → List ℕ → List ℕ
laid_at buffer at text = take at buffer ++ text ++ drop (at + length text) buffer

-- what laying a text into a buffer that has room for it gives: where the next byte stands, and the buffer after it
pub record TextLaid (text buffer : List ℕ) (at : ℕ) (after : List ℕ) (next : ℕ) : Type 0 where
  pub ends : next ≡ at + length text
  pub bytes : after ≡ laid_at buffer at text

-- what writing a text at a position of a buffer gives: all of it and where it ends, or nothing where the buffer is too short (14)
pub record TextWritten (text buffer : List ℕ) (at : ℕ) (after : List ℕ) (ended : Option ℕ) : Type 0 where
  pub ends : ended ≡ cond (leb (at + length text) (length buffer)) (Some (at + length text)) None
  pub bytes : after ≡ cond (leb (at + length text) (length buffer)) (laid_at buffer at text) buffer

abbrev pub LinesWritten : List ℕ → List ℤ → List ℕ → ℕ → List ℕ → Option ℕ → Type 0
LinesWritten keys values = TextWritten (written_numbers (keys_of keys) values)
