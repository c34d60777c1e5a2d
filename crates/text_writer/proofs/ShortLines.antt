-- How many bytes lines of short numbers have at most.
use Prim.Native.Nat.{ℕ, zero, suc, ◌+◌, ◌*◌, ◌/◌, ◌≤◌}
use native.Mathlib.Omega.{arith}
use mathlib.Core.Bool.{Bool, true, false, cond}
use mathlib.Core.List.{List, [], ◌∷◌, ◌++◌}
use borrow.Author.Tests.{ltb-true}
use lib.Dec.{eqb, ltb}
use Rattle.std.proofs.Common.{◌≡◌, refl, ◌&&◌}
use Rattle.std.proofs.lemmas.Bool.{false≢true}
use Rattle.std.specs.List.{list_all}
use lib.IntN.{ℤ, nat_abs}
use lib.ListN.{length, length-append}
use Rattle.text_line.proofs.Pieces.{computed_pieces}
use Rattle.text_number.proofs.WrittenDigits.{written_within}
use Rattle.text_schema.specs.Schema.{keys_of}
use Rattle.text_schema.proofs.Fields.{keys_computed}
use Rattle.text_number.specs.Marked.{first_marked, marked_by}
use Rattle.text_writer.specs.internal.Counted.{mark_bytes}
use Rattle.text_writer.specs.Write.{written_marked_line, written_marked_lines}
use Rattle.text_writer.proofs.MarkedLines.{first_mark, marked_line_length}

and_true : (a b : Bool) → (a && b) ≡ true → (a ≡ true) × (b ≡ true)
and_true true b e = (refl, e)
and_true false b e = absurd (false≢true e)

abbrev pub key_bytes : List (List ℕ) → ℕ
key_bytes [] = 0
key_bytes (key ∷ keys) = length key + key_bytes keys

computed_bytes : (front bytes : List ℕ) → key_bytes (computed_pieces 61 front bytes) ≤ length front + length bytes
computed_bytes front [] = omega arith
computed_bytes front (byte ∷ rest) = go (eqb byte 61) (computed_bytes [] rest) (computed_bytes (front ++ (byte ∷ [])) rest)
  where
    go : (b : Bool) → key_bytes (computed_pieces 61 [] rest) ≤ 0 + length rest → key_bytes (computed_pieces 61 (front ++ (byte ∷ [])) rest) ≤ length (front ++ (byte ∷ [])) + length rest →
        key_bytes (cond b ((front ++ (byte ∷ [])) ∷ computed_pieces 61 [] rest) (computed_pieces 61 (front ++ (byte ∷ [])) rest)) ≤ length front + suc (length rest)
    go true ended more = omega (arith, length-append front (byte ∷ []))
    go false ended more = omega (arith, length-append front (byte ∷ []))

-- keys have no more bytes than the string that they are cut from
pub key_bytes_within : (keys : List ℕ) → key_bytes (keys_of keys) ≤ length keys
key_bytes_within keys = rw (keys_computed keys) (omega (arith, computed_bytes [] keys))

-- whether a number has at most seven digits
abbrev pub is_short : ℤ → Bool
is_short z = ltb (nat_abs z) 10000000

-- there are no more marks than numbers
pub marks_few : (count marks : ℕ) → mark_bytes count marks ≤ count
unfolding mark_bytes
marks_few zero marks = omega arith
marks_few (suc count) marks = omega (arith, marks_few count (marks / 2))

-- each line of such a number has at most eight bytes after its key, byte 10, and its mark
pub short_lines :
    (keys : List (List ℕ)) (values : List ℤ) (marks : ℕ) → list_all is_short values ≡ true →
    length (written_marked_lines keys (marked_by marks values)) ≤ key_bytes keys + 9 * length values + mark_bytes (length values) marks
unfolding written_marked_lines marked_by mark_bytes
short_lines [] values marks short = omega arith
short_lines (key ∷ keys) [] marks short = omega arith
short_lines (key ∷ keys) (z ∷ values) marks short =
    let line : List ℕ = written_marked_line key (record { number = z; suspect = first_marked marks }) in
    let both = and_true (is_short z) (list_all is_short values) short in
    omega (
      arith,
      length-append line (written_marked_lines keys (marked_by (marks / 2) values)),
      marked_line_length key z (first_marked marks),
      first_mark marks,
      written_within 6 z (ltb-true (nat_abs z) 10000000 both.0),
      short_lines keys values (marks / 2) both.1,
    )
