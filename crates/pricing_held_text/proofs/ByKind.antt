-- The lines of a row after its kind, by the kind.
use Prim.Native.Nat.{ℕ, zero, suc, ◌+◌, ◌≤◌, ◌<◌}
use native.Mathlib.Omega.{arith}
use mathlib.Core.List.{List, [], ◌∷◌, ◌++◌}
use mathlib.Core.Path.{◌≡◌, refl, ap, ◌∙◌}
use lib.IntN.{ℤ, nat_abs}
use lib.ListN.{length, take, drop, length-append, length-drop}
use Rattle.text_refusal.specs.Bytes.{bytes}
use Rattle.text_number.specs.Marked.{marked_by}
use Rattle.text_word.specs.Word.{written_word}
use Rattle.text_schema.specs.Schema.{value, keys_of}
use Rattle.text_schema.specs.Checked.{checked_line, checked_lines, text_of}
use Rattle.text_schema.proofs.Checked.{text_first}
use Rattle.text_writer.specs.Write.{written_marked_lines}
use Rattle.text_writer.proofs.Writing.{text_line_length}
use Rattle.pricing_resource_text.specs.Resource.{status_words, status_field, generator_fields, load_fields}
use Rattle.pricing_resource_text.proofs.Places.{generator_widths, controllable_widths, load_widths}
use Rattle.pricing_held.specs.Rows.{Row, place_of, marked_numbers}
use Rattle.pricing_held.specs.Lines.{lines_of_kind}
use Rattle.pricing_held.specs.internal.Checks.{row_of}
use Rattle.pricing_held.proofs.RowLines.{of_generator}
use Rattle.text_writer.specs.internal.Counted.{number_bytes, mark_bytes}
use Rattle.text_writer.proofs.Counted.{KeyBytes, key_bytes_lem, marked_lines_bytes, first_marked_lines}

-- ---- which lines

pub of_load : (kind : ℕ) (row : Row) → 5 ≤ kind → lines_of_kind kind row ≡ checked_lines load_fields (marked_numbers row)
of_load zero row h = absurd (omega arith)
of_load (suc zero) row h = absurd (omega arith)
of_load (suc (suc zero)) row h = absurd (omega arith)
of_load (suc (suc (suc zero))) row h = absurd (omega arith)
of_load (suc (suc (suc (suc zero)))) row h = absurd (omega arith)
of_load (suc (suc (suc (suc (suc n))))) row h = refl

-- ---- their keys

generator_bytes : KeyBytes (bytes "net=lsl=hsl=base=nonspin=cold30=") 6 38
generator_bytes = key_bytes_lem (bytes "net=lsl=hsl=base=nonspin=cold30=") refl refl

controllable_bytes : KeyBytes (bytes "base=lpc=nonspin=regup=") 4 27
controllable_bytes = key_bytes_lem (bytes "base=lpc=nonspin=regup=") refl refl

load_bytes : KeyBytes (bytes "rrsok=net=lpc=rrs=") 4 22
load_bytes = key_bytes_lem (bytes "rrsok=net=lpc=rrs=") refl refl

-- ---- their text and its length

abbrev pub status_text : List ℤ → List ℕ
status_text values = bytes "status=" ++ (written_word status_words (place_of (value values 1)) ++ (10 ∷ []))

-- so many numbers behind the kind and the status, with their marks, under their keys
abbrev pub row_marks : List ℤ → ℕ
row_marks values = nat_abs (value values 8)

abbrev pub numbers_text : List ℕ → ℕ → List ℤ → List ℕ
numbers_text keys count values = written_marked_lines (keys_of keys) (marked_by (row_marks values) (take count (drop 2 values)))

-- the same, as they are handed over
pub numbers_marked : (keys : List ℕ) (count : ℕ) (values : List ℤ) {marks : ℕ} → marks ≡ row_marks values → written_marked_lines (keys_of keys) (marked_by marks (take count (drop 2 values))) ≡ numbers_text keys count values
numbers_marked keys count values is = rw is

module _ (kind : ℕ) (values : List ℤ) where
  abbrev text : List ℕ
  text = text_of (lines_of_kind kind (row_of values))

  module _ (h : kind < 4) where
    pub generator_text : text ≡ status_text values ++ numbers_text (bytes "net=lsl=hsl=base=nonspin=cold30=") 6 values
    generator_text =
        ap text_of (of_generator (row_of values) kind h)
        ∙ text_first (checked_line status_field (place_of (value values 1))) (checked_lines generator_fields (marked_numbers (row_of values)))
        ∙ ap (λ (numbers : List ℕ). status_text values ++ numbers) (first_marked_lines generator_bytes (drop 2 values) generator_widths (row_marks values) 6 (omega arith))

    pub generator_length :
        9 ≤ length values → length text ≡ 46 + length (written_word status_words (place_of (value values 1))) + number_bytes (take 6 (drop 2 values)) + mark_bytes 6 (row_marks values)
    generator_length enough =
        omega (
          arith,
          ap length generator_text,
          length-append (status_text values) (numbers_text (bytes "net=lsl=hsl=base=nonspin=cold30=") 6 values),
          text_line_length (bytes "status=") (written_word status_words (place_of (value values 1))),
          marked_lines_bytes generator_bytes (drop 2 values) (row_marks values) (omega (arith, length-drop 2 values)),
        )

  module _ (h : kind ≡ 4) where
    pub controllable_text : text ≡ numbers_text (bytes "base=lpc=nonspin=regup=") 4 values
    controllable_text = rw h (first_marked_lines controllable_bytes (drop 2 values) controllable_widths (row_marks values) 6 (omega arith))

    pub controllable_length : 9 ≤ length values → length text ≡ 27 + number_bytes (take 4 (drop 2 values)) + mark_bytes 4 (row_marks values)
    controllable_length enough = ap length controllable_text ∙ marked_lines_bytes controllable_bytes (drop 2 values) (row_marks values) (omega (arith, length-drop 2 values))

  module _ (h : 5 ≤ kind) where
    pub load_text : text ≡ numbers_text (bytes "rrsok=net=lpc=rrs=") 4 values
    load_text = ap text_of (of_load kind (row_of values) h) ∙ first_marked_lines load_bytes (drop 2 values) load_widths (row_marks values) 6 (omega arith)

    pub load_length : 9 ≤ length values → length text ≡ 22 + number_bytes (take 4 (drop 2 values)) + mark_bytes 4 (row_marks values)
    load_length enough = ap length load_text ∙ marked_lines_bytes load_bytes (drop 2 values) (row_marks values) (omega (arith, length-drop 2 values))
