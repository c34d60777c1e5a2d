-- Laws on schemas in which numbers may be marked suspect, beside the same lines of numbers alone.
use Prim.Native.Nat.{ℕ, zero, suc, ◌/◌, ◌<◌}
use native.Mathlib.Omega.{arith}
use mathlib.Core.Bool.{Bool, true, false, ◌&&◌, cond}
use mathlib.Core.List.{List, [], ◌∷◌, ◌++◌}
use mathlib.Core.Path.{◌≡◌, refl}
use lib.IntN.{ℤ, pos}
use lib.ListN.{length, get_or, get_or-map}
use lib.Signed.{le_z}
use Rattle.std.specs.Prelude.{Result, Ok, Err}
use Rattle.text_number.specs.declared.NumberError.{NumberError}
use Rattle.text_number.specs.declared.NumberError.TheVariants as error
use Rattle.integer.proofs.Order.{le_z-true}
use Rattle.text_refusal.specs.declared.refusal.Fault.{Fault}
use Rattle.text_line.specs.Judged.{good}
use Rattle.text_line.specs.Line.{OneLine}
use Rattle.text_line.specs.Field.{Field, LineAnswer, got, refused, field_at}
use Rattle.text_line.proofs.FieldTexts.{FieldNumbered, field_as}
use Rattle.text_number.specs.Number.{number_in}
use Rattle.text_number.specs.Field.{number_field}
use Rattle.text_number.specs.declared.marked.Marked.{Marked}
use Rattle.text_number.specs.Marked.{marked_field, unmarked_field, numbers_of, marked_by}
use Rattle.text_number.proofs.Marks.{plain-judged, plain_taken, mark_no_number, mark_behind, unmarked_written, suspect_written, plain_reads, suspect_reads, unmarked_between, marked_between, by_none, by_unmarked}
use Rattle.text_number.proofs.WrittenDigits.{number_of_written}
use Rattle.text_number.specs.Number.{written_number}
use Rattle.text_number.specs.Marked.{plain_number, suspect_number, marked_in, judged_marked, written_marked}
use Rattle.text_schema.specs.Schema.{and_then, read_fields, value}
use Rattle.text_schema.specs.Checked.{refused_by, checked_line}
use Rattle.text_schema.proofs.Fields.{number_judged_numbered}
use Rattle.text_schema.proofs.Readings.{Within, reading_none, reading_first, fields_read}

-- a line of a number with its mark beside the same line of a number alone: what the latter takes the former takes, without a mark
pub record LineBeside (field : Field Marked) (plain : Field ℤ) : Type 0 where
  pub keys : field.key ≡ plain.key
  pub takes : (bytes : List ℕ) (z : ℤ) → plain.read bytes ≡ good z → field.read bytes ≡ good (record { number = z; suspect = false })

pub data Beside : List (Field Marked) → List (Field ℤ) → Type 0 where
  none_beside : Beside [] []
  one_beside :
      {field : Field Marked} {plain : Field ℤ} {fields : List (Field Marked)} {others : List (Field ℤ)} → LineBeside field plain → Beside fields others →
      Beside (field ∷ fields) (plain ∷ others)

-- of both kinds of line: one that may be marked, and one that carries no mark
module _ (key : List ℕ) (low high : ℤ) where
  pub marked_line : LineBeside (marked_field key low high) (number_field key low high)
  marked_line = record { keys = refl; takes = λ bytes z e. plain_taken low high bytes e }

  pub unmarked_line : LineBeside (unmarked_field key low high) (number_field key low high)
  unmarked_line = record { keys = refl; takes = λ bytes z e. plain-judged low high bytes e }

-- ---- reading

-- lines that are read as numbers alone are read as the same numbers without marks
pub plain_read :
    {fields : List (Field Marked)} {others : List (Field ℤ)} → Beside fields others → (text : List ℕ) (at next : ℕ) → (read_fields others text at).end ≡ Ok next →
    read_fields fields text at ≡ record { values = marked_by 0 (read_fields others text at).values; end = Ok next }
plain_read none_beside text at next e =
    let over : ◌≡◌ {A = Result ℕ Fault} (Ok at) (Ok next) = rw (reading_none {A = ℤ}) at e in
    rw (reading_none {A = Marked}, reading_none {A = ℤ}, by_none 0, over)
plain_read (one_beside {field} {plain} {fields} {others} line more) text at next e =
    rw (reading_first field fields text at, reading_first plain others text at)
    (go (field_at plain text at) refl (λ after. plain_read more text after next) (rw (reading_first plain others text at) at e))
  where
    go :
        (answer : LineAnswer ℤ) → field_at plain text at ≡ answer →
        ((after : ℕ) → (read_fields others text after).end ≡ Ok next → read_fields fields text after ≡ record { values = marked_by 0 (read_fields others text after).values; end = Ok next }) →
        (and_then answer (λ after. read_fields others text after)).end ≡ Ok next →
        and_then (field_at field text at) (λ after. read_fields fields text after) ≡
        record { values = marked_by 0 (and_then answer (λ after. read_fields others text after)).values; end = Ok next }
    go (got z after) h again e =
        let here = field_as plain field text at line.keys h (λ bytes r. line.takes bytes z r) in
        rw (here, by_unmarked z (read_fields others text after).values, again after e)
    go (refused found) h again e = let n : ◌≡◌ {A = ℕ} 0 1 = cc in absurd (omega arith)

-- ---- writing

-- the number by which a line is refused: 7 out of its range, marked or not; 6 for a mark where none may stand
pub marked_checked : (key : List ℕ) (low high : ℤ) (m : Marked) → (checked_line (marked_field key low high) m).number ≡ cond (le_z low m.number && le_z m.number high) 0 7
marked_checked key low high m = go m.suspect m.number
  where
    judge : (b : Bool) (z : ℤ) (given : Result ℤ NumberError → Result Marked NumberError) → refused_by (judged_marked (given (Ok z))) ≡ 0 → refused_by (judged_marked (given (Err error.Outside))) ≡ 7 → refused_by (judged_marked (given (cond b (Ok z) (Err error.Outside)))) ≡ cond b 0 7
    judge true z given fine out = fine
    judge false z given fine out = out

    go : (b : Bool) (z : ℤ) → refused_by (judged_marked (marked_in low high (written_marked (record { number = z; suspect = b })))) ≡ cond (le_z low z && le_z z high) 0 7
    go true z = rw (suspect_written z, suspect_reads low high z) (judge (le_z low z && le_z z high) z suspect_number refl refl)
    go false z = rw (unmarked_written z, plain_reads low high z) (judge (le_z low z && le_z z high) z plain_number refl refl)

pub unmarked_checked : (key : List ℕ) (low high : ℤ) (m : Marked) → (checked_line (unmarked_field key low high) m).number ≡ cond m.suspect 6 (cond (le_z low m.number && le_z m.number high) 0 7)
unmarked_checked key low high m = go m.suspect m.number
  where
    judge : (b : Bool) (z : ℤ) → refused_by (judged_marked (plain_number (cond b (Ok z) (Err error.Outside)))) ≡ cond b 0 7
    judge true z = refl
    judge false z = refl

    go : (b : Bool) (z : ℤ) → refused_by (judged_marked (plain_number (number_in low high (written_marked (record { number = z; suspect = b }))))) ≡ cond b 6 (cond (le_z low z && le_z z high) 0 7)
    go true z = rw (suspect_written z, mark_no_number (written_number z ++ (63 ∷ [])) (mark_behind (written_number z)).0)
    go false z = rw (unmarked_written z, number_of_written z) (judge (le_z low z && le_z z high) z)

-- ---- the numbers of lines that were read

-- a number with its mark by its place
abbrev pub no_marked : Marked
no_marked = record { number = pos 0; suspect = false }

module _ (fields : List (Field Marked)) (text : List ℕ) (at next : ℕ) (e : (read_fields fields text at).end ≡ Ok next) (place : ℕ) (h : place < length fields) (key : List ℕ) (low high : ℤ) where
  -- lies within the bounds of its field
  pub marked_at : get_or fields place (marked_field key low high) ≡ marked_field key low high → Within low high (value (numbers_of (read_fields fields text at).values) place)
  marked_at is =
      let read = fields_read (marked_field key low high) no_marked fields text at next e place h in
      let inside = marked_between low high read.bytes _ (rw is at read.reads) in
      rw (get_or-map (λ (m : Marked). m.number) (read_fields fields text at).values place no_marked) (le_z-true low _ inside.0, le_z-true _ high inside.1)

  pub unmarked_at : get_or fields place (unmarked_field key low high) ≡ unmarked_field key low high → Within low high (value (numbers_of (read_fields fields text at).values) place)
  unmarked_at is =
      let read = fields_read (unmarked_field key low high) no_marked fields text at next e place h in
      let inside = unmarked_between low high read.bytes _ (rw is at read.reads) in
      rw (get_or-map (λ (m : Marked). m.number) (read_fields fields text at).values place no_marked) (le_z-true low _ inside.0, le_z-true _ high inside.1)

-- ---- the number of a refusal is one of 1 to 9

pub marked_numbered : (key : List ℕ) (low high : ℤ) → FieldNumbered (marked_field key low high)
marked_numbered key low high value = number_judged_numbered (marked_in low high value)

pub unmarked_numbered : (key : List ℕ) (low high : ℤ) → FieldNumbered (unmarked_field key low high)
unmarked_numbered key low high value = number_judged_numbered (plain_number (number_in low high value))

-- ---- lines each of which may be marked

pub data EachMarked : List (Field Marked) → List ℤ → List ℤ → Type 0 where
  no_marked_lem : EachMarked [] [] []
  one_marked :
      {key : List ℕ} {low high : ℤ} {fields : List (Field Marked)} {lows highs : List ℤ} → EachMarked fields lows highs →
      EachMarked (marked_field key low high ∷ fields) (low ∷ lows) (high ∷ highs)

-- the marks of the numbers after so many
abbrev pub marks_after : ℕ → ℕ → ℕ
marks_after zero marks = marks
marks_after (suc n) marks = marks_after n (marks / 2)

-- ---- lines of which some may be marked and some carry no mark, each under a key of one line

pub data LinesWithMarks : List (Field Marked) → Type 0 where
  no_line : LinesWithMarks []
  marked_one : {key : List ℕ} (low high : ℤ) {fields : List (Field Marked)} → OneLine key → LinesWithMarks fields → LinesWithMarks (marked_field key low high ∷ fields)
  unmarked_one : {key : List ℕ} (low high : ℤ) {fields : List (Field Marked)} → OneLine key → LinesWithMarks fields → LinesWithMarks (unmarked_field key low high ∷ fields)
