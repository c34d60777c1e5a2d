-- Laws of cells and rows: how long they are, a cell by its parts, and cells one after the other.
use Prim.Native.Nat.{ℕ, ◌+◌, ◌-◌, ◌≤◌, ◌<◌}
use native.Mathlib.Numerals.{add-one}
use native.Mathlib.Omega.{arith}
use mathlib.Core.Bool.{Bool, true, false}
use mathlib.Core.List.{List, [], ◌∷◌, ◌++◌, append_assoc, append-nil}
use mathlib.Core.Logic.{◌⊎◌, inl, inr}
use mathlib.Core.Path.{◌≡◌, refl, sym, ap, ◌∙◌}
use borrow.Author.Tests.{lt-ltb, le-ltb, ltb-true, ltb-false}
use lib.Dec.{ltb}
use lib.IntN.{ℤ, pos, nat_abs}
use lib.Signed.{lt_z}
use lib.ListN.{length, drop, set, length-append, length-drop, length-replicate, replicate-append-replicate}
use Rattle.text_number.specs.Number.{written_number}
use Rattle.text_writer.specs.internal.Signed.{signed, cut_to}
use Rattle.text_writer.specs.Row.{spaces, aligned_right, padded_right, number_cell, written_cells, written_row}
use Rattle.text_writer.specs.Write.{laid_at, TextLaid}
use Rattle.text_writer.proofs.Laid.{laid_more, laid_before}
use Rattle.text_writer.proofs.Writing.{cut_length, written_signed}

-- ---- spaces

pub spaces-length : (count : ℕ) → length (spaces count) ≡ count
spaces-length count = length-replicate {A = ℕ} count 32

-- one space more
pub spaces_next : (buffer : List ℕ) (at i : ℕ) → at + i < length buffer → set (laid_at buffer at (spaces i)) (at + i) 32 ≡ laid_at buffer at (spaces (i + 1))
spaces_next buffer at i room =
    let long : length (spaces i) ≡ i = spaces-length i in
    ap (λ (n : ℕ). set (laid_at buffer at (spaces i)) (at + n) 32) (sym long) ∙
    laid_more buffer at (spaces i) 32 (omega (arith, long)) ∙ ap (laid_at buffer at) (replicate-append-replicate i 1 32)

-- ---- a cell

-- a cell has just its width
pub aligned_length : (width : ℕ) (text : List ℕ) → length (aligned_right width text) ≡ width
unfolding aligned_right
aligned_length width text =
    omega (arith, length-append (spaces (width - length text)) (drop (length text - width) text), spaces-length (width - length text), length-drop (length text - width) text)

pub padded_is : (width : ℕ) (text : List ℕ) → padded_right width text ≡ text ++ spaces (width - length text)
unfolding padded_right
padded_is width text = refl

pub padded_fits : (width : ℕ) (text : List ℕ) → length text ≤ width → length (padded_right width text) ≡ width
unfolding padded_right
padded_fits width text fits = omega (arith, length-append text (spaces (width - length text)), spaces-length (width - length text))

-- a text as long as its width stands by itself
pub aligned_full : (width : ℕ) (text : List ℕ) → length text ≡ width → aligned_right width text ≡ text
unfolding aligned_right
aligned_full width text full =
    let none : width - length text ≡ 0 = omega arith in
    let whole : length text - width ≡ 0 = omega arith in
    rw (none, whole)

pub cell_length : (width : ℕ) (z : ℤ) → length (number_cell width z) ≡ width + 1
cell_length width z = omega (arith, aligned_length width (written_number z))

-- by its spaces, and the number's sign and magnitude
pub cell_signed : (width : ℕ) (z : ℤ) (negative : Bool) → lt_z z (pos 0) ≡ negative →
    number_cell width z ≡ spaces (width - length (signed negative (nat_abs z)) + 1) ++ cut_to width (signed negative (nat_abs z))
unfolding aligned_right
cell_signed width z negative e = rw (written_signed z negative e, add-one (width - length (signed negative (nat_abs z))))

-- the number laid at the end of the cell, and then the spaces before it
pub cell_laid : (width : ℕ) (z : ℤ) (negative : Bool) → lt_z z (pos 0) ≡ negative → {buffer middle after : List ℕ} {at first end next : ℕ} →
    TextLaid (cut_to (end - (at + 1)) (signed negative (nat_abs z))) buffer first middle end → TextLaid (spaces (first - at)) middle at after next →
    at + 1 + width ≡ end → end ≤ length buffer → TextLaid (number_cell width z) buffer at after end
cell_laid width z negative e {buffer} {middle} {after} {at} {first} {end} {next} number blank long room =
    let text = signed negative (nat_abs z) in
    let wide : end - (at + 1) ≡ width = omega arith in
    let cut : length (cut_to width text) ≡ length text - (length text - width) = cut_length width text in
    let ends : end ≡ first + length (cut_to width text) = number.ends ∙ rw wide in
    let count : first - at ≡ width - length text + 1 = omega arith in
    let before : List ℕ = spaces (width - length text + 1) in
    let place : first ≡ at + length before = omega (arith, spaces-length (width - length text + 1)) in
    rw (cell_signed width z negative e)
    (record {
      ends = omega (arith, spaces-length (width - length text + 1), length-append before (cut_to width text));
      bytes =
          blank.bytes ∙
          rw (number.bytes, count, wide) (ap (λ (k : ℕ). laid_at (laid_at buffer k (cut_to width text)) at before) place) ∙
          laid_before buffer at before (omega arith) (cut_to width text);
    })

-- ---- cells one after the other

pub no_cells : (values : List ℤ) → written_cells [] values ≡ []
unfolding written_cells
no_cells values = refl

pub first_cell : (width : ℕ) (widths : List ℕ) (value : ℤ) (values : List ℤ) → written_cells (width ∷ widths) (value ∷ values) ≡ number_cell width value ++ written_cells widths values
unfolding written_cells
first_cell width widths value values = refl

no_numbers : (widths : List ℕ) → written_cells widths [] ≡ []
unfolding written_cells
no_numbers [] = refl
no_numbers (width ∷ widths) = refl

-- the cells passed, and what the rest of the widths and values adds to them
pub record CellsPassed (widths : List ℕ) (values : List ℤ) (columns : List ℕ) (numbers : List ℤ) : Type 0 where
  pub done : List ℕ
  pub whole : written_cells widths values ≡ done ++ written_cells columns numbers

abbrev pub cells_none : {widths columns : List ℕ} {values numbers : List ℤ} → columns ≡ widths → numbers ≡ values → CellsPassed widths values columns numbers
cells_none w v = record { done = []; whole = rw (w, v) }

module _ {widths : List ℕ} {values : List ℤ} {columns : List ℕ} {numbers : List ℤ} (passed : CellsPassed widths values columns numbers) where
  -- no column is left, or no value
  pub cells_over : (columns ≡ []) ⊎ (numbers ≡ []) → written_cells widths values ≡ passed.done
  cells_over (inl e) = passed.whole ∙ rw (e, no_cells numbers) (append-nil passed.done)
  cells_over (inr e) = passed.whole ∙ rw (e, no_numbers columns) (append-nil passed.done)

  pub cells_within : length passed.done ≤ length (written_cells widths values)
  cells_within = omega (arith, ap length passed.whole, length-append passed.done (written_cells columns numbers))

  -- one cell more
  pub cells_next : {width : ℕ} {further : List ℕ} {value : ℤ} {others : List ℤ} → columns ≡ width ∷ further → numbers ≡ value ∷ others → (next : CellsPassed widths values further others) × (next.done ≡ passed.done ++ number_cell width value)
  cells_next {width} {further} {value} {others} w v = (
    record {
      done = passed.done ++ number_cell width value;
      whole = passed.whole ∙ rw (w, v, first_cell width further value others) (sym (append_assoc passed.done (number_cell width value) (written_cells further others)));
    },
    refl,
  )

-- what is left of the room behind cells that are all passed
pub room_left : (left done room : ℕ) → left + done ≡ room → ltb 0 left ≡ ltb done room
room_left left done room e = go (ltb 0 left) refl
  where
    go : (some : Bool) → ltb 0 left ≡ some → some ≡ ltb done room
    go true t = let some = ltb-true 0 left t in sym (lt-ltb done room (omega arith))
    go false t = let none = ltb-false 0 left t in sym (le-ltb done room (omega arith))

-- ---- a row

pub row_length : (name widths : List ℕ) (values : List ℤ) → length (written_row name widths values) ≡ length name + length (written_cells widths values) + 1
row_length name widths values =
    omega (arith, length-append name (written_cells widths values ++ (10 ∷ [])), length-append (written_cells widths values) (10 ∷ []))
