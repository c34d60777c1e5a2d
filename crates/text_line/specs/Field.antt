-- A line of any kind of value: how its value is read and written, and what reading the line gives.
use Rattle.std.specs.Prelude.{ℕ, ◌+◌, List, length}
use Rattle.text_refusal.specs.Refusal.{fault}
use Rattle.text_refusal.specs.declared.refusal.Fault.{Fault}
pub use Rattle.text_line.specs.Judged.{Judged, good, bad}
use Rattle.text_line.specs.Line.{line_at}

-- one line of a schema: its key with `=`, and how a value of its kind is read and written
pub record Field (A : Type 0) : Type 0 where
  pub key : List ℕ
  pub read : List ℕ → Judged A
  pub write : A → List ℕ

-- what reading a line gives: the value and where the next line starts, or a fault
pub data LineAnswer (A : Type 0) : Type 0 where
  got : A → ℕ → LineAnswer A
  refused : Fault → LineAnswer A

abbrev pub judged : {A : Type 0} → ℕ → ℕ → Judged A → LineAnswer A
judged at next (good value) = got value next
judged at next (bad number) = refused (fault number at)

-- the next line starts after the key, the value and byte 10
abbrev pub next_at : ℕ → List ℕ → List ℕ → ℕ
next_at at key value = at + length key + length value + 1

-- the bytes of the value are read as its kind says; the fault of a refused line is handed on
abbrev pub value_in : {A : Type 0} → Field A → ℕ → Judged (List ℕ) → LineAnswer A
value_in field at (good value) = judged at (next_at at field.key value) (field.read value)
value_in field at (bad number) = refused (fault number at)

-- the line due at a position, within it the checks in order: 3, 4 and 5 of every line, then those of the kind
unfoldable pub field_at : {A : Type 0} → Field A → List ℕ → ℕ → LineAnswer A
field_at field text at = value_in field at (line_at field.key text at)
