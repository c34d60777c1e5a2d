-- Laws of the lines of a refusal: how many bytes they have, and the same by the magnitudes of their numbers.
use mathlib.Core.Bool.{false}
use mathlib.Core.List.{List, [], ◌∷◌, ◌++◌}
use mathlib.Core.Path.{◌≡◌, ap}
use Prim.Native.Nat.{ℕ, ◌+◌, ◌^◌, ◌≤◌, ◌<◌}
use native.Mathlib.Omega.{arith}
use lib.IntN.{pos}
use lib.ListN.{length, length-append}
use Rattle.text_refusal.specs.Bytes.{bytes}
use Rattle.text_refusal.specs.declared.refusal.Refusal.{Refusal}
use Rattle.text_number.specs.Number.{digits_of}
use Rattle.text_number.proofs.WrittenDigits.{twenty_digits, written_natural}
use Rattle.text_writer.specs.internal.Signed.{signed_line}
use Rattle.text_writer.specs.Output.{refusal_lines}
use Rattle.text_writer.specs.Write.{written_line}
use Rattle.text_writer.proofs.Writing.{line_length}

pub refusal_length : (found : Refusal) (name : List ℕ) →
    length (refusal_lines found name) ≡ 21 + length (digits_of found.number) + length (digits_of found.line) + length name
unfolding refusal_lines
refusal_length found name =
    let one = written_line (bytes "refused=") (pos found.number) in
    let two = written_line (bytes "line=") (pos found.line) in
    let three = bytes "text=" ++ (name ++ (10 ∷ [])) in
    omega (
      arith,
      length-append one (two ++ three),
      length-append two three,
      line_length (bytes "refused=") (pos found.number),
      line_length (bytes "line=") (pos found.line),
      length-append name (10 ∷ []),
      ap length (written_natural found.number),
      ap length (written_natural found.line),
    )

-- the lines by the sign and the magnitude of their numbers
pub refusal-signed : (found : Refusal) (name : List ℕ) →
    refusal_lines found name ≡ signed_line (bytes "refused=") false found.number ++ (signed_line (bytes "line=") false found.line ++ (bytes "text=" ++ (name ++ (10 ∷ []))))
unfolding refusal_lines
refusal-signed found name = rw (written_natural found.number, written_natural found.line)

-- how long they can be at most
pub refusal_short : (found : Refusal) (name : List ℕ) → found.number < 2 ^ 64 → found.line < 2 ^ 64 → length name ≤ 8 → length (refusal_lines found name) ≤ 256
refusal_short found name number line short =
    omega (arith, refusal_length found name, twenty_digits found.number number, twenty_digits found.line line)
