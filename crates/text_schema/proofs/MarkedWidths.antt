-- Lines of numbers that may be marked suspect, and of flags, which carry no mark: under which keys they are written, and how long they are.
use Prim.Native.Nat.{ℕ, ◌+◌, ◌≤◌}
use native.Mathlib.Omega.{arith}
use mathlib.Core.Bool.{Bool, true, false, ◌&&◌, cond}
use mathlib.Core.List.{List, [], ◌∷◌, ◌++◌}
use mathlib.Core.Path.{◌≡◌, refl, sym, ap, ◌∙◌}
use lib.IntN.{ℤ}
use lib.ListN.{length, length-append}
use lib.Signed.{le_z}
use Rattle.text_line.specs.Field.{Field}
use Rattle.text_number.specs.Number.{written_number}
use Rattle.text_number.specs.declared.marked.Marked.{Marked}
use Rattle.text_number.specs.Marked.{written_marked, marked_field, unmarked_field}
use Rattle.text_number.proofs.Marks.{unmarked_written, suspect_written}
use Rattle.text_schema.specs.Checked.{CheckedLine, checked_line, checked_lines, text_of}
use Rattle.text_schema.proofs.Checked.{text_none, text_first, checked_none, checked_no_values, checked_first, Unrefused}
use Rattle.text_schema.proofs.Marks.{marked_checked, unmarked_checked}

-- the lines under their keys: no number within its bounds has more bytes than its width, a mark is one byte more, and all lines together have at most so many
pub data MarkedWidths : List (Field Marked) → List (List ℕ) → ℕ → Type 0 where
  no_widths : MarkedWidths [] [] 0
  marked_width :
      {key : List ℕ} (low high : ℤ) {width bytes : ℕ} {fields : List (Field Marked)} {keys : List (List ℕ)} → ((z : ℤ) → (le_z low z && le_z z high) ≡ true → length (written_number z) ≤ width) →
      MarkedWidths fields keys bytes → MarkedWidths (marked_field key low high ∷ fields) (key ∷ keys) (length key + width + 2 + bytes)
  unmarked_width :
      {key : List ℕ} (low high : ℤ) {width bytes : ℕ} {fields : List (Field Marked)} {keys : List (List ℕ)} → ((z : ℤ) → (le_z low z && le_z z high) ≡ true → length (written_number z) ≤ width) →
      MarkedWidths fields keys bytes → MarkedWidths (unmarked_field key low high ∷ fields) (key ∷ keys) (length key + width + 1 + bytes)

-- ---- a line that is not refused

-- has its number in range
inside : (b : Bool) → ◌≡◌ {A = ℕ} (cond b 0 7) 0 → b ≡ true
inside true e = refl
inside false e = absurd (omega arith)

-- and that of a flag has no mark
flag_inside : (suspect b : Bool) → ◌≡◌ {A = ℕ} (cond suspect 6 (cond b 0 7)) 0 → (b ≡ true) × (suspect ≡ false)
flag_inside true b e = absurd (omega arith)
flag_inside false b e = (inside b e, refl)

-- ---- how long lines are

-- a mark is one byte
pub marked_length : (z : ℤ) (suspect : Bool) → length (written_marked (record { number = z; suspect = suspect })) ≡ length (written_number z) + cond suspect 1 0
marked_length z true = ap length (suspect_written z) ∙ length-append (written_number z) (63 ∷ [])
marked_length z false = omega (arith, ap length (unmarked_written z))

line_long : (key value : List ℕ) → length (key ++ (value ++ (10 ∷ []))) ≡ length key + length value + 1
line_long key value = omega (arith, length-append key (value ++ (10 ∷ [])), length-append value (10 ∷ []))

at_most_one : (b : Bool) → cond b 1 0 ≤ 1
at_most_one true = omega arith
at_most_one false = omega arith

pub marked_wide : {fields : List (Field Marked)} {keys : List (List ℕ)} {bytes : ℕ} → MarkedWidths fields keys bytes → (values : List Marked) → Unrefused (checked_lines fields values) → length (text_of (checked_lines fields values)) ≤ bytes
marked_wide no_widths values all = rw (checked_none {A = Marked} values, text_none) (omega arith)
marked_wide (marked_width {key} low high {fields = fields} narrow more) [] all = rw (checked_no_values (marked_field key low high ∷ fields), text_none) (omega arith)
marked_wide (unmarked_width {key} low high {fields = fields} narrow more) [] all = rw (checked_no_values (unmarked_field key low high ∷ fields), text_none) (omega arith)
marked_wide (marked_width {key} low high {fields = fields} narrow more) (m ∷ values) all =
    let line : CheckedLine = checked_line (marked_field key low high) m in
    let unrefused : (line.number ≡ 0) × Unrefused (checked_lines fields values) = rw (checked_first (marked_field key low high) fields m values) at all in
    let fits = narrow m.number (inside (le_z low m.number && le_z m.number high) (sym (marked_checked key low high m) ∙ unrefused.0)) in
    let rest = marked_wide more values unrefused.1 in
    rw (checked_first (marked_field key low high) fields m values, text_first line (checked_lines fields values))
    (omega (
      arith,
      fits,
      rest,
      length-append line.bytes (text_of (checked_lines fields values)),
      line_long key (written_marked m),
      marked_length m.number m.suspect,
      at_most_one m.suspect,
    ))
marked_wide (unmarked_width {key} low high {fields = fields} narrow more) (m ∷ values) all =
    let line : CheckedLine = checked_line (unmarked_field key low high) m in
    let unrefused : (line.number ≡ 0) × Unrefused (checked_lines fields values) = rw (checked_first (unmarked_field key low high) fields m values) at all in
    let told = flag_inside m.suspect (le_z low m.number && le_z m.number high) (sym (unmarked_checked key low high m) ∙ unrefused.0) in
    let fits = narrow m.number told.0 in
    let none : ◌≡◌ {A = ℕ} (cond m.suspect 1 0) 0 = rw told.1 in
    let rest = marked_wide more values unrefused.1 in
    rw (checked_first (unmarked_field key low high) fields m values, text_first line (checked_lines fields values))
    (omega (
      arith,
      fits,
      rest,
      none,
      length-append line.bytes (text_of (checked_lines fields values)),
      line_long key (written_marked m),
      marked_length m.number m.suspect,
    ))
