-- How many bytes lines of numbers have, with marks and without.
use Prim.Native.Nat.{ℕ, zero, suc, ◌+◌, ◌*◌, ◌/◌, ◌%◌, ◌≤◌, ◌<◌}
use native.Mathlib.Numerals.{add-one}
use native.Mathlib.Omega.{arith}
use borrow.Author.Tests.{ltb-false}
use mathlib.Core.Bool.{Bool, true, false}
use mathlib.Core.List.{List, [], ◌∷◌}
use mathlib.Core.Path.{◌≡◌, refl, sym, ap, ◌∙◌}
use lib.Dec.{ltb}
use lib.IntN.{ℤ, pos}
use lib.ListN.{length, take, drop, get_or, length-append, drop_of_length-le}
use lib.Seq.{drop-cons, length-take-le, take-take}
use mir.Syntax.{w64}
use mir.Val.{SFits, bool_byte}
use Rattle.integer.proofs.Bounds.{fits_abs}
use Rattle.text_line.specs.Field.{Field}
use Rattle.text_line.proofs.Pieces.{computed_pieces}
use Rattle.text_number.specs.Number.{written_number}
use Rattle.text_number.specs.declared.marked.Marked.{Marked}
use Rattle.text_number.specs.Marked.{first_marked, marked_by}
use Rattle.text_number.proofs.Marks.{by_first}
use Rattle.text_number.proofs.WrittenDigits.{written_within}
use Rattle.text_schema.specs.Schema.{keys_of}
use Rattle.text_schema.specs.Checked.{checked_lines, text_of}
use Rattle.text_schema.proofs.Fields.{keys_computed}
use Rattle.text_schema.proofs.MarkedWidths.{MarkedWidths}
use Rattle.text_writer.specs.Write.{written_numbers, written_marked_line, written_marked_lines}
use Rattle.text_writer.proofs.MarkedLines.{first_mark, marked_line_length, no_marked_keys, first_marked_line, lines_unmarked, marked_text}
use Rattle.text_writer.proofs.ShortLines.{key_bytes, marks_few}
use Rattle.text_writer.specs.internal.Counted.{number_bytes, mark_bytes}

-- ---- the bytes of numbers, one after the other

pub bytes_none : number_bytes [] ≡ 0
unfolding number_bytes
bytes_none = refl

pub bytes_first : (z : ℤ) (values : List ℤ) → number_bytes (z ∷ values) ≡ length (written_number z) + number_bytes values
unfolding number_bytes
bytes_first z values = refl

module _ (values : List ℤ) (i : ℕ) where
  pub bytes_over : length values ≤ i → number_bytes (drop i values) ≡ 0
  unfolding number_bytes
  bytes_over past = rw (drop_of_length-le values {i = i} past)

  pub bytes_next : i < length values → number_bytes (drop i values) ≡ length (written_number (get_or values i (pos 0))) + number_bytes (drop (i + 1) values)
  unfolding number_bytes
  bytes_next more = rw (drop-cons values i (pos 0) more, add-one i)

-- a machine number has at most twenty bytes
pub machine_bytes : {z : ℤ} → SFits w64 z → length (written_number z) ≤ 20
machine_bytes {z} fits = omega (arith, written_within 18 z (omega (arith, fits_abs fits)))

-- ---- the bytes of marks, one after the other

pub marks_over : (marks : ℕ) → mark_bytes 0 marks ≡ 0
unfolding mark_bytes
marks_over marks = refl

pub marks_next : (count marks : ℕ) → mark_bytes (suc count) marks ≡ marks % 2 + mark_bytes count (marks / 2)
unfolding mark_bytes
marks_next count marks = refl

-- no mark is left
pub marks_left : (count : ℕ) → mark_bytes count 0 ≡ 0
unfolding mark_bytes
marks_left zero = refl
marks_left (suc count) = omega (arith, marks_left count)

-- room for nine bytes a line, and for one more a line where there are marks
pub marked_room : (count room marks : ℕ) → count ≤ room / (9 + bool_byte (ltb 0 marks)) → 9 * count + mark_bytes count marks ≤ room
marked_room count room marks fits = go (ltb 0 marks) refl fits
  where
    go : (some : Bool) → ltb 0 marks ≡ some → count ≤ room / (9 + bool_byte some) → 9 * count + mark_bytes count marks ≤ room
    go true e nine = omega (arith, marks_few count marks)
    go false e nine =
        let none : marks ≡ 0 = omega (arith, ltb-false 0 marks e) in
        omega (arith, marks_left count, ap (mark_bytes count) none)

-- ---- the bytes of lines

marked_lines_length : (keys : List (List ℕ)) (values : List ℤ) (marks : ℕ) → length values ≡ length keys → length (written_marked_lines keys (marked_by marks values)) ≡ key_bytes keys + length keys + number_bytes values + mark_bytes (length keys) marks
unfolding number_bytes mark_bytes
marked_lines_length [] [] marks e = ap length (no_marked_keys (marked_by marks []))
marked_lines_length [] (z ∷ values) marks e = absurd (omega arith)
marked_lines_length (key ∷ keys) [] marks e = absurd (omega arith)
marked_lines_length (key ∷ keys) (z ∷ values) marks e =
    let first : Marked = record { number = z; suspect = first_marked marks } in
    omega (
      arith,
      ap length (ap (written_marked_lines (key ∷ keys)) (by_first marks z values) ∙ first_marked_line key keys first (marked_by (marks / 2) values)),
      length-append (written_marked_line key first) (written_marked_lines keys (marked_by (marks / 2) values)),
      marked_line_length key z (first_marked marks),
      first_mark marks,
      marked_lines_length keys values (marks / 2) (omega arith),
    )

lines_length : (keys : List (List ℕ)) (values : List ℤ) → length values ≡ length keys → length (written_numbers keys values) ≡ key_bytes keys + length keys + number_bytes values
lines_length keys values e = omega (arith, ap length (lines_unmarked keys values), marked_lines_length keys values 0 e, marks_left (length keys))

-- only as many values as there are keys are written
marked_few : (keys : List (List ℕ)) (values : List ℤ) (marks : ℕ) → written_marked_lines keys (marked_by marks values) ≡ written_marked_lines keys (marked_by marks (take (length keys) values))
marked_few [] values marks = no_marked_keys (marked_by marks values) ∙ sym (no_marked_keys (marked_by marks []))
marked_few (key ∷ keys) [] marks = refl
marked_few (key ∷ keys) (z ∷ values) marks =
    let first : Marked = record { number = z; suspect = first_marked marks } in
    rw (
      by_first marks z values,
      by_first marks z (take (length keys) values),
      first_marked_line key keys first (marked_by (marks / 2) values),
      first_marked_line key keys first (marked_by (marks / 2) (take (length keys) values)),
      marked_few keys values (marks / 2),
    )

-- a byte string of so many keys, which have so many bytes with the byte 10 of each line
pub record KeyBytes (keys : List ℕ) (count bytes : ℕ) : Type 0 where
  pub counted : length (keys_of keys) ≡ count
  pub long : key_bytes (keys_of keys) + count ≡ bytes

-- for keys that are written out, the last two arguments are refl
pub key_bytes_lem : (keys : List ℕ) {count bytes : ℕ} → length (computed_pieces 61 [] keys) ≡ count → key_bytes (computed_pieces 61 [] keys) + count ≡ bytes → KeyBytes keys count bytes
key_bytes_lem keys {count} counted long =
    record {
      counted = ap length (keys_computed keys) ∙ counted;
      long = ap (λ (these : List (List ℕ)). key_bytes these + count) (keys_computed keys) ∙ long;
    }

module _ {keys : List ℕ} {count bytes : ℕ} (known : KeyBytes keys count bytes) (values : List ℤ) where
  pub lines_bytes : count ≤ length values → length (written_numbers (keys_of keys) (take count values)) ≡ bytes + number_bytes (take count values)
  lines_bytes enough =
      let taken = length-take-le count values enough in
      omega (arith, lines_length (keys_of keys) (take count values) (omega (arith, known.counted)), known.long, known.counted)

  pub marked_lines_bytes : (marks : ℕ) → count ≤ length values → length (written_marked_lines (keys_of keys) (marked_by marks (take count values))) ≡ bytes + number_bytes (take count values) + mark_bytes count marks
  marked_lines_bytes marks enough =
      let taken = length-take-le count values enough in
      omega (
        arith,
        marked_lines_length (keys_of keys) (take count values) marks (omega (arith, known.counted)),
        known.long,
        known.counted,
        ap (λ (n : ℕ). mark_bytes n marks) known.counted,
      )

  -- the lines of a schema by these keys, where more values are held
  pub first_marked_lines :
      {fields : List (Field Marked)} {most : ℕ} → MarkedWidths fields (keys_of keys) most → (marks held : ℕ) → count ≤ held →
      text_of (checked_lines fields (marked_by marks (take held values))) ≡ written_marked_lines (keys_of keys) (marked_by marks (take count values))
  first_marked_lines these marks held more =
      marked_text these (marked_by marks (take held values))
      ∙ marked_few (keys_of keys) (take held values) marks
      ∙ rw (known.counted, take-take count held values more)
