-- Laws of texts laid into a buffer: nothing, one byte, and two texts of which one follows the other, laid in either order.
use Prim.Native.Nat.{ℕ, ◌+◌, ◌-◌, ◌≤◌, ◌<◌}
use native.Mathlib.Nat.{add-zero, add_assoc}
use native.Mathlib.Numerals.{add-one}
use native.Mathlib.Omega.{arith}
use mathlib.Core.List.{List, [], ◌∷◌, ◌++◌, append_assoc, append-nil}
use mathlib.Core.Path.{◌≡◌, refl, sym, ap, ◌∙◌}
use lib.ListN.{length, take, drop, get_or, set, length-append, length-drop, take-append-drop}
use lib.Seq.{length-take-le, take_at, drop_at, take-append-le, take-take, drop-drop, drop-append-add, set_split, take-suc}
use Rattle.text_writer.specs.Write.{laid_at, TextLaid}

pub laid_none : (buffer : List ℕ) (at : ℕ) → laid_at buffer at [] ≡ buffer
laid_none buffer at = rw (add-zero at, append-nil (take at buffer)) (take-append-drop at buffer)

pub laid_byte : (buffer : List ℕ) (at byte : ℕ) → at < length buffer → set buffer at byte ≡ laid_at buffer at (byte ∷ [])
laid_byte buffer at byte within = rw (add-one at, append_assoc (take at buffer) (byte ∷ [])) (set_split buffer at byte within)

module _ (buffer : List ℕ) (at : ℕ) (one : List ℕ) (room : at + length one ≤ length buffer) where
  front_length : length (take at buffer ++ one) ≡ at + length one
  front_length = omega (arith, length-append (take at buffer) one, length-take-le at buffer (omega arith))

  pub laid_length : length (laid_at buffer at one) ≡ length buffer
  laid_length = omega (arith, front_length, length-append (take at buffer ++ one) (drop (at + length one) buffer), length-drop (at + length one) buffer)

  -- bytes behind the text stay
  pub laid_behind : (k : ℕ) → drop (at + length one + k) (laid_at buffer at one) ≡ drop (at + length one + k) buffer
  laid_behind k =
      ap (λ (n : ℕ). drop (n + k) (laid_at buffer at one)) (sym front_length) ∙
      drop-append-add (take at buffer ++ one) (drop (at + length one) buffer) k ∙ drop-drop k (at + length one) buffer

  -- and those before it
  pub laid_ahead : take at (laid_at buffer at one) ≡ take at buffer
  laid_ahead = rw (append_assoc (take at buffer) one (drop (at + length one) buffer)) (take_at (take at buffer) (one ++ drop (at + length one) buffer) at (length-take-le at buffer (omega arith)))

  -- a text laid over another one that is no longer
  pub laid_again : (other : List ℕ) → length one ≤ length other → laid_at (laid_at buffer at one) at other ≡ laid_at buffer at other
  laid_again other longer =
      let behind : at + length other ≡ at + length one + (length other - length one) = omega arith in
      rw (laid_ahead, behind, laid_behind (length other - length one))

  -- a text laid behind another one
  pub laid_then : (other : List ℕ) → laid_at (laid_at buffer at one) (at + length one) other ≡ laid_at buffer at (one ++ other)
  laid_then other =
      rw (take_at (take at buffer ++ one) (drop (at + length one) buffer) (at + length one) front_length, laid_behind (length other), length-append one other, ← add_assoc at (length one) (length other))
      (simp append_assoc)

  -- a text laid in front of another one
  pub laid_before : (other : List ℕ) → laid_at (laid_at buffer (at + length one) other) at one ≡ laid_at buffer at (one ++ other)
  laid_before other =
      let place : ℕ = at + length one in
      let rest : List ℕ = other ++ drop (place + length other) buffer in
      let front : length (take place buffer) ≡ place = length-take-le place buffer room in
      let laid : laid_at buffer place other ≡ take place buffer ++ rest = simp append_assoc in
      rw (laid, take-append-le at (take place buffer) rest (omega arith), take-take at place buffer (omega arith), drop_at (take place buffer) rest place front, length-append one other, ← add_assoc at (length one) (length other))
      (simp append_assoc)

-- one byte behind a text, and one in front of it
pub laid_more : (buffer : List ℕ) (at : ℕ) (text : List ℕ) (byte : ℕ) → at + length text < length buffer → set (laid_at buffer at text) (at + length text) byte ≡ laid_at buffer at (text ++ (byte ∷ []))
laid_more buffer at text byte room =
    laid_byte (laid_at buffer at text) (at + length text) byte (omega (arith, laid_length buffer at text (omega arith))) ∙ laid_then buffer at text (omega arith) (byte ∷ [])

pub laid_less : (buffer : List ℕ) (at : ℕ) (text : List ℕ) (byte : ℕ) → at + 1 + length text ≤ length buffer → set (laid_at buffer (at + 1) text) at byte ≡ laid_at buffer at (byte ∷ text)
laid_less buffer at text byte room =
    laid_byte (laid_at buffer (at + 1) text) at byte (omega (arith, laid_length buffer (at + 1) text room)) ∙ laid_before buffer at (byte ∷ []) (omega arith) text

-- a text laid, and another one where it ends
pub laid_both : {buffer middle after : List ℕ} {at next last : ℕ} {one other : List ℕ} → TextLaid one buffer at middle next → TextLaid other middle next after last → at + length one ≤ length buffer → TextLaid (one ++ other) buffer at after last
laid_both {buffer} {middle} {after} {at} {next} {last} {one} {other} first then room =
    record {
      ends = omega (arith, first.ends, then.ends, length-append one other);
      bytes = then.bytes ∙ rw (first.ends, first.bytes) (laid_then buffer at one room other);
    }

-- no byte is laid yet
pub laid_start : (buffer : List ℕ) (at : ℕ) → TextLaid [] buffer at buffer at
laid_start buffer at = record { ends = omega arith; bytes = sym (laid_none buffer at) }

-- a text laid, and a byte where it ends
pub laid_end : {buffer middle : List ℕ} {at next : ℕ} {one : List ℕ} (byte : ℕ) → TextLaid one buffer at middle next → at + length one < length buffer → TextLaid (one ++ (byte ∷ [])) buffer at (set middle next byte) (next + 1)
laid_end {buffer} {middle} {at} {next} {one} byte first room =
    let long : length middle ≡ length buffer = omega (arith, ap length first.bytes, laid_length buffer at one (omega arith)) in
    laid_both first (record { ends = refl; bytes = laid_byte middle next byte (omega (arith, first.ends)) }) (omega arith)

-- one byte more of some bytes
pub laid_next : (buffer : List ℕ) (at : ℕ) (bytes : List ℕ) (i : ℕ) → i < length bytes → at + i < length buffer → set (laid_at buffer at (take i bytes)) (at + i) (get_or bytes i 0) ≡ laid_at buffer at (take (i + 1) bytes)
laid_next buffer at bytes i within room =
    let long : length (take i bytes) ≡ i = length-take-le i bytes (omega arith) in
    ap (λ (n : ℕ). set (laid_at buffer at (take i bytes)) (at + n) (get_or bytes i 0)) (sym long) ∙
    laid_more buffer at (take i bytes) (get_or bytes i 0) (omega arith) ∙ rw (add-one i, take-suc bytes i 0 within)
