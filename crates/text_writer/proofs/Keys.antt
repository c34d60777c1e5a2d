-- Laws of keys taken one after the other: the next key and its line.
use Prim.Native.Nat.{ℕ, ◌+◌, ◌-◌, ◌/◌, ◌≤◌, ◌<◌}
use native.Mathlib.Nat.{add-sub_cancel_left}
use native.Mathlib.Omega.{arith}
use mathlib.Core.List.{List, [], ◌∷◌, ◌++◌, append_assoc}
use mathlib.Core.Path.{◌≡◌, refl, ap, ◌∙◌}
use lib.IntN.{ℤ, pos}
use lib.ListN.{length, take, drop, get_or, set, length-append, length-drop}
use lib.Seq.{length-take-le}
use Rattle.text_line.specs.Piece.{piece_length}
use Rattle.text_line.proofs.Pieces.{piece_within, Unmarked, unmarked_ends, unmarked_more}
use Rattle.text_number.specs.Marked.{written_marked, first_marked, marked_by}
use Rattle.text_schema.specs.Schema.{keys_of}
use Rattle.text_writer.specs.internal.Keys.{first_key, WholeKeys}
use Rattle.text_writer.specs.Write.{written_marked_line, written_marked_lines, laid_at, TextLaid}
use Rattle.text_writer.proofs.MarkedLines.{MarkedPassed, marked_value, marked_keys, marked_next, marked_next_lem, marked_room}
use Rattle.text_writer.proofs.Laid.{laid_next}

pub key_length : (keys : List ℕ) → length (first_key keys) ≡ piece_length 61 keys
key_length keys = length-take-le (piece_length 61 keys) keys (piece_within 61 keys)

module _ {keys : List ℕ} {values : List ℤ} {marks from i rest : ℕ} (passed : MarkedPassed keys values marks from i rest) where
  -- no key is left
  pub keys_over : length keys ≤ from → written_marked_lines (keys_of keys) (marked_by marks values) ≡ passed.done
  keys_over over = marked_keys passed from (omega (arith, piece_within 61 (drop from keys), length-drop from keys)) refl

  module _ (whole : WholeKeys keys) (left : from < length keys) (more : i < length values) where
    -- the line that is next
    abbrev pub next_line : List ℕ
    next_line = written_marked_line (first_key (drop from keys)) (record { number = get_or values i (pos 0); suspect = first_marked rest })

    some : from + piece_length 61 (drop from keys) ≡ from → ⊥
    some none = let key = whole from left in omega arith

    same : from + piece_length 61 (drop from keys) - from ≡ piece_length 61 (drop from keys)
    same = add-sub_cancel_left from (piece_length 61 (drop from keys))

    next_is : marked_next passed (from + piece_length 61 (drop from keys)) refl some more ≡ next_line
    next_is = rw same

    -- with it, the lines passed
    pub key_passed : (after : MarkedPassed keys values marks (from + piece_length 61 (drop from keys)) (i + 1) (rest / 2)) × (after.done ≡ passed.done ++ next_line)
    key_passed =
        let next = marked_next_lem passed (from + piece_length 61 (drop from keys)) refl some more in
        (next.0, next.1 ∙ ap (λ (line : List ℕ). passed.done ++ line) next_is)

    -- the room that its key and its number have
    pub key_room : length passed.done + (length (first_key (drop from keys)) + length (marked_value (get_or values i (pos 0)) (first_marked rest))) ≤ length (written_marked_lines (keys_of keys) (marked_by marks values))
    key_room =
        let key : List ℕ = first_key (drop from keys) in
        let value : List ℕ = marked_value (get_or values i (pos 0)) (first_marked rest) in
        omega (
          arith,
          marked_room passed (from + piece_length 61 (drop from keys)) refl some more,
          ap length next_is,
          ap length (append_assoc key (written_marked (record { number = get_or values i (pos 0); suspect = first_marked rest })) (10 ∷ [])),
          length-append key value,
        )

-- ---- the bytes of a key, laid one after the other

module _ (buffer₀ : List ℕ) (at : ℕ) {keys : List ℕ} {i : ℕ} {buffer : List ℕ} (before : Unmarked 61 keys 0 i) (laid : buffer ≡ laid_at buffer₀ at (take i keys)) (within : i < length keys) (room : at + i < length buffer₀) where
  byte_laid : set buffer (at + i) (get_or keys i 0) ≡ laid_at buffer₀ at (take (i + 1) keys)
  byte_laid = ap (λ (bytes : List ℕ). set bytes (at + i) (get_or keys i 0)) laid ∙ laid_next buffer₀ at keys i within room

  pub key_more : (get_or keys i 0 ≡ 61 → ⊥) → Unmarked 61 keys 0 (i + 1) × (set buffer (at + i) (get_or keys i 0) ≡ laid_at buffer₀ at (take (i + 1) keys))
  key_more other = (unmarked_more before within other, byte_laid)

  pub key_laid : get_or keys i 0 ≡ 61 → TextLaid (first_key keys) buffer₀ at (set buffer (at + i) (get_or keys i 0)) (at + i + 1)
  key_laid mark =
      let ends : i + 1 ≡ piece_length 61 keys = omega (arith, unmarked_ends before within mark) in
      record { ends = omega (arith, key_length keys); bytes = byte_laid ∙ ap (λ (n : ℕ). laid_at buffer₀ at (take n keys)) ends }
