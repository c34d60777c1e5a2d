-- Document 01, "Texts": a text is lines `key=value`, each ended by byte 10. Refusals 3, 4 and 5.
use Rattle.std.specs.Prelude.{ℕ, suc, Bool, true, false, cond, List, [], ◌∷◌, ◌≡◌, eqb, ltb, length, take, drop}
use Rattle.text_refusal.specs.Refusal.{fault}
use Rattle.text_refusal.specs.declared.refusal.Fault.{Fault}
use Rattle.text_line.specs.Judged.{Judged, good, bad}
use Rattle.text_line.specs.Piece.{part}

-- how many bytes stand before the first byte 10, or at all where there is none
unfoldable pub line_length : List ℕ → ℕ
line_length [] = 0
line_length (byte ∷ rest) = cond (eqb byte 10) 0 (suc (line_length rest))

-- bytes with no byte 10 among them
abbrev pub OneLine : List ℕ → Type 0
OneLine bytes = line_length bytes ≡ length bytes

-- whether a line begins with a key
unfoldable pub begins : List ℕ → List ℕ → Bool
begins [] line = true
begins (letter ∷ key) [] = false
begins (letter ∷ key) (byte ∷ line) = cond (eqb byte letter) (begins key line) false

-- the line due, `rest` being the text from there on: 3 where it is absent or lacks its byte 10, 4 where it does not begin with the key and `=`, 5 where
-- its value is empty, else its value
unfoldable pub line_in : List ℕ → List ℕ → Judged (List ℕ)
line_in key rest =
    cond (ltb (line_length rest) (length rest))
    (cond (begins key (take (line_length rest) rest))
    (cond (eqb (length key) (line_length rest)) (bad 5) (good (part rest (length key) (line_length rest))))
    (bad 4))
    (bad 3)

-- the line due at a position
abbrev pub line_at : List ℕ → List ℕ → ℕ → Judged (List ℕ)
line_at key text at = line_in key (drop at text)

-- the value's bytes; none where the line is refused
abbrev pub value_or_none : Judged (List ℕ) → List ℕ
value_or_none (good value) = value
value_or_none (bad number) = []

abbrev pub value_at : List ℕ → List ℕ → ℕ → List ℕ
value_at key text at = value_or_none (line_at key text at)

-- the number of the line's own refusal; 0 where the line has a value
abbrev pub number_or_zero : Judged (List ℕ) → ℕ
number_or_zero (good value) = 0
number_or_zero (bad number) = number

abbrev pub line_fault : List ℕ → List ℕ → ℕ → ℕ
line_fault key text at = number_or_zero (line_at key text at)

-- the fault of a line whose value a reader of values refused by a number: the line's own where it is refused itself
abbrev pub own_or : ℕ → Judged (List ℕ) → ℕ
own_or number (good value) = number
own_or number (bad own) = own

abbrev pub value_fault : List ℕ → List ℕ → ℕ → ℕ → Fault
value_fault key text at number = fault (own_or number (line_at key text at)) at
