-- Reading in a part of a text that starts at a position is reading in the text from there on, every position moved by that one; and no position lies
-- past the text's end.
use Prim.Native.Nat.{ℕ, ◌+◌, ◌≤◌}
use mathlib.Core.List.{List, [], ◌∷◌}
use mathlib.Core.Path.{◌≡◌, refl}
use lib.ListN.{length, drop}
use Rattle.std.specs.Prelude.{Result, Ok, Err}
use Rattle.text_refusal.specs.declared.refusal.Fault.{Fault}
use Rattle.text_line.specs.Field.{Field, LineAnswer, got, refused, field_at}
use Rattle.text_line.proofs.FieldTexts.{moved_fault, moved_answer, answer_position, field_moved, field_position}
use Rattle.text_schema.specs.Schema.{Reading, and_then, read_fields}

abbrev pub moved_lines : ℕ → Result ℕ Fault → Result ℕ Fault
moved_lines k (Ok next) = Ok (k + next)
moved_lines k (Err found) = Err (moved_fault k found)

abbrev pub moved_reading : {A : Type 0} → ℕ → Reading A → Reading A
moved_reading k reading = record { values = reading.values; end = moved_lines k reading.end }

pub reading_moved : {A : Type 0} (fields : List (Field A)) (text : List ℕ) (k at : ℕ) → read_fields fields text (k + at) ≡ moved_reading k (read_fields fields (drop k text) at)
unfolding read_fields
reading_moved [] text k at = refl
reading_moved {A} (field ∷ fields) text k at = rw field_moved (go (field_at field (drop k text) at) (reading_moved fields text k))
  where
    go :
        (answer : LineAnswer A) → ((at : ℕ) → read_fields fields text (k + at) ≡ moved_reading k (read_fields fields (drop k text) at)) →
        and_then (moved_answer k answer) (λ next. read_fields fields text next) ≡ moved_reading k (and_then answer (λ next. read_fields fields (drop k text) next))
    go (got value next) again = rw (again next)
    go (refused found) again = refl

-- where reading goes on, or the refused line starts
abbrev pub lines_position : Result ℕ Fault → ℕ
lines_position (Ok next) = next
lines_position (Err found) = found.at

pub reading_within : (text : List ℕ) {A : Type 0} (fields : List (Field A)) (at : ℕ) → at ≤ length text → lines_position (read_fields fields text at).end ≤ length text
unfolding read_fields
reading_within text [] at h = h
reading_within text {A} (field ∷ fields) at h = go (field_at field text at) (field_position field text at h) (reading_within text fields)
  where
    go :
        (answer : LineAnswer A) → answer_position answer ≤ length text → ((at : ℕ) → at ≤ length text → lines_position (read_fields fields text at).end ≤ length text) →
        lines_position (and_then answer (λ next. read_fields fields text next)).end ≤ length text
    go (got value next) n again = again next n
    go (refused found) n again = n
