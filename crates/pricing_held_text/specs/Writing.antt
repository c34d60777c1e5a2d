-- Document 02, W-204: the text of a snapshot held as values, its length before it is written, and writing it into a lent buffer: 6, 7 and 8 as its lines say, then 15
-- (W-206), then 14 for a buffer that is shorter than the text. Bytes after the text stay, and a refused write leaves the buffer.
use Rattle.std.specs.Prelude.{ℕ, ◌≡◌, cond, List, leb, ℤ, length, Result, Ok, Err}
use Rattle.text_refusal.specs.declared.refusal.Refusal.{Refusal}
use Rattle.text_refusal.specs.Answer.{Answer, refusal, followed_by, lent_after_answer}
use Rattle.text_writer.specs.Write.{laid_at}
use Rattle.pricing_held.specs.Lines.{held_answer, held_text}

-- the length of an accepted text
abbrev pub length_or : ℕ → Answer → Result ℕ Refusal
length_or length (Ok accepted) = Ok length
length_or length (Err found) = Err found

-- the exact length of the text, before it is written
unfoldable pub held_length : List ℤ → List ℕ → List ℤ → Result ℕ Refusal
held_length header ids numbers = length_or (length (held_text header ids numbers)) (held_answer header ids numbers)

-- the first refused line, then 15, then 14
unfoldable pub writing_held : List ℤ → List ℕ → List ℤ → List ℕ → Answer
writing_held header ids numbers buffer =
    followed_by (held_answer header ids numbers) (cond (leb (length (held_text header ids numbers)) (length buffer)) (Ok tt) (refusal 14 0))

-- what writing into a lent buffer gives: the text's length, and the text at the front of the buffer
pub record HeldWritten (header : List ℤ) (ids : List ℕ) (numbers : List ℤ) (buffer after : List ℕ) (ended : Result ℕ Refusal) : Type 0 where
  pub ends : ended ≡ length_or (length (held_text header ids numbers)) (writing_held header ids numbers buffer)
  pub bytes : after ≡ lent_after_answer (writing_held header ids numbers buffer) buffer (laid_at buffer 0 (held_text header ids numbers))
