-- Laws on lines of numbers of which some are marked: a mark in place of byte 10, lines one after the other, and lines without marks.
use Prim.Native.Nat.{ℕ, suc, ◌+◌, ◌-◌, ◌/◌, ◌%◌, ◌≤◌, ◌<◌}
use native.Mathlib.Numerals.{add-one}
use native.Mathlib.Omega.{arith}
use mathlib.Core.Bool.{Bool, true, false, cond}
use mathlib.Core.List.{List, [], ◌∷◌, ◌++◌, append_assoc, append-nil}
use mathlib.Core.Path.{◌≡◌, refl, sym, ap, ◌∙◌}
use borrow.Author.Tests.{eqb-true, eqb-false}
use lib.Dec.{eqb}
use lib.IntN.{ℤ, pos, nat_abs}
use lib.Signed.{lt_z}
use lib.ListN.{length, drop, get_or, length-append, length-drop, drop_of_length-le}
use lib.Seq.{drop-cons, length-take-le}
use Rattle.text_line.specs.Field.{Field}
use Rattle.text_line.specs.Piece.{part, piece_length}
use Rattle.text_line.proofs.Pieces.{piece_none, piece_next, piece_fits}
use Rattle.text_number.specs.Number.{written_number}
use Rattle.text_number.specs.declared.marked.Marked.{Marked}
use Rattle.text_number.specs.Marked.{written_marked, marked_field, unmarked_field, first_marked, marked_by}
use Rattle.text_number.proofs.Marks.{unmarked_written, suspect_written, by_none, by_first, by_unmarked}
use Rattle.text_schema.specs.Schema.{keys_of}
use Rattle.text_schema.specs.Checked.{checked_line, checked_lines, text_of}
use Rattle.text_schema.proofs.Checked.{text_none, text_first, checked_none, checked_no_values, checked_first}
use Rattle.text_schema.proofs.MarkedWidths.{MarkedWidths, no_widths, marked_width, unmarked_width, marked_length}
use Rattle.text_writer.specs.Write.{written_line, written_numbers, written_marked_line, written_marked_lines, laid_at, TextLaid}
use Rattle.text_writer.proofs.Laid.{laid_length, laid_then, laid_again, laid_both}
use Rattle.text_writer.specs.internal.Signed.{signed_value}
use Rattle.text_writer.proofs.Writing.{no_keys, no_values, first_line, written_signed}

-- ---- one line

-- the first of some marks, as a number
pub first_mark : (marks : ℕ) → cond (first_marked marks) 1 0 ≡ marks % 2
first_mark marks = go (eqb (marks % 2) 1) refl
  where
    go : (b : Bool) → eqb (marks % 2) 1 ≡ b → cond b 1 0 ≡ marks % 2
    go true h = sym (eqb-true (marks % 2) 1 h)
    go false h = let other = eqb-false (marks % 2) 1 h in omega arith

pub marked_line_length : (key : List ℕ) (z : ℤ) (suspect : Bool) → length (written_marked_line key (record { number = z; suspect = suspect })) ≡ length key + length (written_number z) + cond suspect 1 0 + 1
marked_line_length key z suspect =
    let value : List ℕ = written_marked (record { number = z; suspect = suspect }) in
    omega (arith, length-append (key ++ value) (10 ∷ []), length-append key value, marked_length z suspect)

-- without a mark, the line of the number
pub line_unmarked : (key : List ℕ) (z : ℤ) → written_marked_line key (record { number = z; suspect = false }) ≡ written_line key z
line_unmarked key z = rw (unmarked_written z)

-- a number written with the mark that it has, and byte 10: by the number's sign and magnitude where it has none
abbrev pub marked_value : ℤ → Bool → List ℕ
marked_value z suspect = written_marked (record { number = z; suspect = suspect }) ++ (10 ∷ [])

pub value_unmarked : (z : ℤ) (negative : Bool) → lt_z z (pos 0) ≡ negative → marked_value z false ≡ signed_value negative (nat_abs z)
value_unmarked z negative e = rw (unmarked_written z, written_signed z negative e)

-- a mark laid in place of byte 10, which follows it
pub mark_laid :
    (z : ℤ) {buffer middle after : List ℕ} {at next last : ℕ} → TextLaid (marked_value z false) buffer at middle next → TextLaid (63 ∷ (10 ∷ [])) middle (next - 1) after last →
    at + length (marked_value z true) ≤ length buffer → TextLaid (marked_value z true) buffer at after last
mark_laid z {buffer} {middle} {after} {at} {next} {last} value mark room =
    let front : List ℕ = written_number z in
    let plain : TextLaid (front ++ (10 ∷ [])) buffer at middle next = rw (unmarked_written z) at value in
    let whole : marked_value z true ≡ front ++ (63 ∷ (10 ∷ [])) = rw (suspect_written z) (append_assoc front (63 ∷ []) (10 ∷ [])) in
    let long : length (front ++ (63 ∷ (10 ∷ []))) ≡ length front + 2 = length-append front (63 ∷ (10 ∷ [])) in
    let place : next - 1 ≡ at + length front = omega (arith, plain.ends, length-append front (10 ∷ [])) in
    let fits : at + length front + 2 ≤ length buffer = omega (arith, ap length whole) in
    rw whole
    (record {
      ends = omega (arith, mark.ends);
      bytes =
          mark.bytes
          ∙ rw (place, plain.bytes, ← laid_then buffer at front (omega arith) (10 ∷ []))
          (laid_again (laid_at buffer at front) (at + length front) (10 ∷ []) (omega (arith, laid_length buffer at front (omega arith))) (63 ∷ (10 ∷ [])) (omega arith))
          ∙ laid_then buffer at front (omega arith) (63 ∷ (10 ∷ []));
    })

-- a key laid, and the number behind it
pub line_laid :
    (key : List ℕ) (z : ℤ) (suspect : Bool) {buffer middle after : List ℕ} {at next last : ℕ} → TextLaid key buffer at middle next → TextLaid (marked_value z suspect) middle next after last →
    at + length key ≤ length buffer → TextLaid (written_marked_line key (record { number = z; suspect = suspect })) buffer at after last
line_laid key z suspect first value room = rw (append_assoc key (written_marked (record { number = z; suspect = suspect })) (10 ∷ [])) (laid_both first value room)

-- ---- lines one after the other

pub no_marked_keys : (values : List Marked) → written_marked_lines [] values ≡ []
unfolding written_marked_lines
no_marked_keys values = refl

no_marked_values : (keys : List (List ℕ)) → written_marked_lines keys [] ≡ []
unfolding written_marked_lines
no_marked_values [] = refl
no_marked_values (key ∷ keys) = refl

pub first_marked_line :
    (key : List ℕ) (keys : List (List ℕ)) (value : Marked) (values : List Marked) → written_marked_lines (key ∷ keys) (value ∷ values) ≡ written_marked_line key value ++ written_marked_lines keys values
unfolding written_marked_lines
first_marked_line key keys value values = refl

-- without marks, the lines of the numbers
pub lines_unmarked : (keys : List (List ℕ)) (numbers : List ℤ) → written_marked_lines keys (marked_by 0 numbers) ≡ written_numbers keys numbers
lines_unmarked [] numbers = no_marked_keys (marked_by 0 numbers) ∙ sym (no_keys numbers)
lines_unmarked (key ∷ keys) [] = rw (by_none 0) (no_marked_values (key ∷ keys) ∙ sym (no_values (key ∷ keys)))
lines_unmarked (key ∷ keys) (z ∷ numbers) =
    rw (
      by_unmarked z numbers,
      first_marked_line key keys (record { number = z; suspect = false }) (marked_by 0 numbers),
      line_unmarked key z,
      lines_unmarked keys numbers,
      first_line key keys z numbers,
    )

-- what the writer writes is what the schema writes
pub marked_text : {fields : List (Field Marked)} {keys : List (List ℕ)} {bytes : ℕ} → MarkedWidths fields keys bytes → (values : List Marked) → text_of (checked_lines fields values) ≡ written_marked_lines keys values
marked_text no_widths values = rw (checked_none {A = Marked} values) (text_none ∙ sym (no_marked_keys values))
marked_text (marked_width {key} low high {fields = fields} {keys = keys} narrow more) [] = rw (checked_no_values (marked_field key low high ∷ fields)) (text_none ∙ sym (no_marked_values (key ∷ keys)))
marked_text (unmarked_width {key} low high {fields = fields} {keys = keys} narrow more) [] = rw (checked_no_values (unmarked_field key low high ∷ fields)) (text_none ∙ sym (no_marked_values (key ∷ keys)))
marked_text (marked_width {key} low high {fields = fields} {keys = keys} narrow more) (m ∷ values) =
    rw (
      checked_first (marked_field key low high) fields m values,
      text_first (checked_line (marked_field key low high) m) (checked_lines fields values),
      marked_text more values,
      first_marked_line key keys m values,
    )
    (ap (λ (line : List ℕ). line ++ written_marked_lines keys values) (sym (append_assoc key (written_marked m) (10 ∷ []))))
marked_text (unmarked_width {key} low high {fields = fields} {keys = keys} narrow more) (m ∷ values) =
    rw (
      checked_first (unmarked_field key low high) fields m values,
      text_first (checked_line (unmarked_field key low high) m) (checked_lines fields values),
      marked_text more values,
      first_marked_line key keys m values,
    )
    (ap (λ (line : List ℕ). line ++ written_marked_lines keys values) (sym (append_assoc key (written_marked m) (10 ∷ []))))

-- the text of the lines passed, and what the rest of the keys, values and marks adds to it
pub record MarkedPassed (keys : List ℕ) (values : List ℤ) (marks from i rest : ℕ) : Type 0 where
  pub done : List ℕ
  pub within : from ≤ length keys
  pub whole : written_marked_lines (keys_of keys) (marked_by marks values) ≡ done ++ written_marked_lines (keys_of (drop from keys)) (marked_by rest (drop i values))

abbrev pub marked_start : (keys : List ℕ) (values : List ℤ) (marks : ℕ) → MarkedPassed keys values marks 0 0 marks
marked_start keys values marks = record { done = []; within = omega arith; whole = refl }

module _ {keys : List ℕ} {values : List ℤ} {marks from i rest : ℕ} (passed : MarkedPassed keys values marks from i rest) where
  -- no value is left
  pub marked_values : length values ≤ i → written_marked_lines (keys_of keys) (marked_by marks values) ≡ passed.done
  marked_values h = passed.whole ∙ rw (drop_of_length-le values {i = i} h, by_none rest, no_marked_values (keys_of (drop from keys))) (append-nil passed.done)

  pub marked_within : length passed.done ≤ length (written_marked_lines (keys_of keys) (marked_by marks values))
  marked_within = omega (arith, ap length passed.whole, length-append passed.done (written_marked_lines (keys_of (drop from keys)) (marked_by rest (drop i values))))

  module _ (end : ℕ) (ends : end ≡ from + piece_length 61 (drop from keys)) where
    -- no key is left
    pub marked_keys : end ≡ from → written_marked_lines (keys_of keys) (marked_by marks values) ≡ passed.done
    marked_keys over = passed.whole ∙ rw (piece_none 61 keys from end ends over, no_marked_keys (marked_by rest (drop i values))) (append-nil passed.done)

    pub marked_end : end ≤ length keys
    marked_end = piece_fits 61 keys from end ends passed.within

    module _ (some : end ≡ from → ⊥) (more : i < length values) where
      -- the line that is next
      abbrev pub marked_next : List ℕ
      marked_next = written_marked_line (part keys from end) (record { number = get_or values i (pos 0); suspect = first_marked rest })

      pub marked_next_lem : (next : MarkedPassed keys values marks end (i + 1) (rest / 2)) × (next.done ≡ passed.done ++ marked_next)
      marked_next_lem = (
        record {
          done = passed.done ++ marked_next;
          within = marked_end;
          whole =
              passed.whole
              ∙ rw (
                piece_next 61 keys from end ends some,
                drop-cons values i (pos 0) more,
                add-one i,
                by_first rest (get_or values i (pos 0)) (drop (suc i) values),
                first_marked_line (part keys from end) (keys_of (drop end keys)) (record { number = get_or values i (pos 0); suspect = first_marked rest }) (marked_by (rest / 2) (drop (suc i) values)),
              )
              (sym (append_assoc passed.done marked_next (written_marked_lines (keys_of (drop end keys)) (marked_by (rest / 2) (drop (suc i) values)))));
        },
        refl,
      )

      pub marked_next_length : length marked_next ≡ end - from + length (written_number (get_or values i (pos 0))) + rest % 2 + 1
      marked_next_length =
          omega (
            arith,
            marked_line_length (part keys from end) (get_or values i (pos 0)) (first_marked rest),
            first_mark rest,
            length-take-le (end - from) (drop from keys) (omega (arith, length-drop from keys, marked_end)),
          )

      -- the room that it has
      pub marked_room : length passed.done + length marked_next ≤ length (written_marked_lines (keys_of keys) (marked_by marks values))
      marked_room = omega (arith, marked_within_next, ap length marked_next_lem.1, length-append passed.done marked_next)
        where
          marked_within_next : length marked_next_lem.0.done ≤ length (written_marked_lines (keys_of keys) (marked_by marks values))
          marked_within_next =
              let next = marked_next_lem.0 in
              omega (arith, ap length next.whole, length-append next.done (written_marked_lines (keys_of (drop end keys)) (marked_by (rest / 2) (drop (i + 1) values))))
