-- Kinds and statuses by their places in the lists of words, as they are written: one in its list is not refused, one outside it is refused by 6. The lines of each
-- kind: their keys and how long they are.
use Prim.Native.Nat.{ℕ, ◌+◌, ◌≤◌, ◌<◌}
use mathlib.Core.Bool.{true}
use mathlib.Core.List.{List, ◌∷◌}
use mathlib.Core.Path.{◌≡◌, refl}
use lib.Dec.{lit<}
use lib.IntN.{pos, neg_ℤ}
use lib.ListN.{length}
use Rattle.text_refusal.specs.Bytes.{bytes}
use Rattle.text_line.specs.Field.{Field}
use Rattle.text_number.specs.declared.marked.Marked.{Marked}
use Rattle.text_word.specs.Word.{word_field}
use Rattle.text_word.proofs.Words.{none_empty, empty_unknown, word_past, distinct, word_itself}
use Rattle.text_schema.specs.Schema.{keys_of}
use Rattle.text_schema.specs.Checked.{checked_line}
use Rattle.text_schema.proofs.Checked.{natural_wide, signed_wide}
use Rattle.text_schema.proofs.Fields.{keys_computed}
use Rattle.text_schema.proofs.MarkedWidths.{MarkedWidths, no_widths, marked_width, unmarked_width}
use Rattle.pricing_resource_text.specs.Resource.{kind_words, kind_field, status_words, status_field, resource_power, flag, generator_fields, controllable_fields, load_fields}

-- ---- words

module _ (key : List ℕ) (words : List (List ℕ)) where
  listed : distinct words ≡ true → (index : ℕ) → index < length words → (checked_line (word_field key words) index).number ≡ 0
  listed once index h = rw (word_itself words once index h)

  unlisted : none_empty words ≡ true → (index : ℕ) → length words ≤ index → (checked_line (word_field key words) index).number ≡ 6
  unlisted some index h = rw (word_past words index h, empty_unknown 0 words some)

pub kind_known : (k : ℕ) → k < 6 → (checked_line kind_field k).number ≡ 0
kind_known = listed (bytes "kind=") kind_words refl

pub kind_unknown : (k : ℕ) → 6 ≤ k → (checked_line kind_field k).number ≡ 6
kind_unknown = unlisted (bytes "kind=") kind_words refl

pub status_known : (s : ℕ) → s < 7 → (checked_line status_field s).number ≡ 0
status_known = listed (bytes "status=") status_words refl

pub status_unknown : (s : ℕ) → 7 ≤ s → (checked_line status_field s).number ≡ 6
status_unknown = unlisted (bytes "status=") status_words refl

-- ---- the lines with marks: their keys, and how long they are

-- a power field and a flag before other lines
power : {key : List ℕ} {bytes : ℕ} {fields : List (Field Marked)} {keys : List (List ℕ)} → MarkedWidths fields keys bytes → MarkedWidths (resource_power key ∷ fields) (key ∷ keys) (length key + 7 + 2 + bytes)
power = marked_width (pos 0) (pos 2000000) (natural_wide 6 2000000 (lit< tt))

of_flag : {key : List ℕ} {bytes : ℕ} {fields : List (Field Marked)} {keys : List (List ℕ)} → MarkedWidths fields keys bytes → MarkedWidths (flag key ∷ fields) (key ∷ keys) (length key + 1 + 1 + bytes)
of_flag = unmarked_width (pos 0) (pos 1) (natural_wide 0 1 (lit< tt))

pub generator_widths : MarkedWidths generator_fields (keys_of (bytes "net=lsl=hsl=base=nonspin=cold30=")) 80
unfolding generator_fields
generator_widths =
    rw (keys_computed (bytes "net=lsl=hsl=base=nonspin=cold30="))
    (marked_width (neg_ℤ (pos 2000000)) (pos 2000000) (signed_wide 6 2000000 (lit< tt)) (power (power (power (power (of_flag no_widths))))))

pub controllable_widths : MarkedWidths controllable_fields (keys_of (bytes "base=lpc=nonspin=regup=")) 59
unfolding controllable_fields
controllable_widths = rw (keys_computed (bytes "base=lpc=nonspin=regup=")) (power (power (power (power no_widths))))

pub load_widths : MarkedWidths load_fields (keys_of (bytes "rrsok=net=lpc=rrs=")) 47
unfolding load_fields
load_widths = rw (keys_computed (bytes "rrsok=net=lpc=rrs=")) (of_flag (power (power (power no_widths))))
