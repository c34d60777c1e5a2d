-- Laws on ids among others: the bytes before a mark, one after the other; the id that starts at a position; in a text; and whether an id stands above.
use Prim.Native.Nat.{ℕ, zero, suc, ◌+◌, ◌-◌, ◌≤◌, ◌<◌}
use native.Mathlib.Omega.{arith}
use mathlib.Core.Path.{◌≡◌, refl, ap, sym, ◌∙◌}
use mathlib.Core.Bool.{Bool, true, false, not, ◌||◌, cond}
use mathlib.Core.List.{List, [], ◌∷◌, ◌++◌, append_assoc}
use borrow.Author.Tests.{eq-eqb}
use lib.Dec.{eqb}
use lib.ListN.{length, take, drop, length-take, length-drop, drop_of_length-le}
use lib.Seq.{take_all, drop-drop, drop-append_seam}
use Rattle.std.specs.Prelude.{◌==◌, position, Some, None}
use Rattle.std.specs.List.{position_or_len}
use Rattle.text_line.proofs.Marks.{first_some, first_none}
use Rattle.text_line.specs.Judged.{Judged, good, bad}
use Rattle.text_line.specs.Line.{line_in, value_or_none, value_at}
use Rattle.text_line.specs.Piece.{part}
use Rattle.text_line.proofs.LineBytes.{line_read}
use Rattle.text_line.proofs.Parts.{part_whole}
use Rattle.text_word.specs.Word.{same_bytes}
use Rattle.text_id.specs.Id.{is_id_byte, is_id}
use Rattle.text_id.proofs.Ids.{id_bytes, Free, id_free}
use Rattle.text_id_table.specs.Ids.{before, id_at, stands_in}

-- ---- the bytes before the first mark

before_first_mark : (mark : ℕ) (bytes : List ℕ) → before mark bytes ≡ take (position_or_len (λ byte. byte == mark) bytes) bytes
unfolding before
before_first_mark mark [] = refl
before_first_mark mark (byte ∷ rest) = rw (before_first_mark mark rest) (go (eqb byte mark) (position_or_len (λ other. other == mark) rest))
  where
    go : (b : Bool) (n : ℕ) → cond b [] (byte ∷ take n rest) ≡ take (cond (not b) (1 + n) 0) (byte ∷ rest)
    go true n = refl
    go false n = let one : 1 + n ≡ suc n = omega arith in rw one

module _ (mark : ℕ) (bytes : List ℕ) where
  pub before_marked : {end : ℕ} → position (λ byte. byte == mark) bytes ≡ Some end → before mark bytes ≡ take end bytes
  before_marked e = rw (before_first_mark mark bytes, first_some (λ byte. byte == mark) bytes e)

  pub before_unmarked : position (λ byte. byte == mark) bytes ≡ None → before mark bytes ≡ bytes
  before_unmarked e = rw (before_first_mark mark bytes, first_none (λ byte. byte == mark) bytes e) (take_all (length bytes) bytes (omega arith))

-- ---- the id that starts at a position

module _ (mark : ℕ) (bytes : List ℕ) (start : ℕ) where
  pub id_at_none : length bytes ≤ start → [] ≡ id_at mark bytes start
  unfolding id_at before
  id_at_none h = rw (drop_of_length-le bytes {i = start} h)

  -- fewer than 16 bytes are left
  pub id_at_last : length bytes - start < 16 → before mark (part bytes start (length bytes)) ≡ id_at mark bytes start
  unfolding id_at
  id_at_last few = ap (before mark) (part_whole bytes start ∙ sym (take_all 16 (drop start bytes) (omega (arith, length-drop start bytes))))

  pub id_at_first : before mark (part bytes start (start + 16)) ≡ id_at mark bytes start
  unfolding id_at
  id_at_first = let sixteen : start + 16 - start ≡ 16 = omega arith in rw sixteen

-- ---- an id in a text, and in a row

-- bytes with no mark among them end at the mark behind them
before_mark : (mark n : ℕ) (value after : List ℕ) → Free mark value → length value ≤ n → before mark (take n (value ++ (mark ∷ after))) ≡ value
unfolding before
before_mark mark zero [] after free few = refl
before_mark mark zero (byte ∷ value) after free few = absurd (omega arith)
before_mark mark (suc n) [] after free few = rw (eq-eqb mark mark refl)
before_mark mark (suc n) (byte ∷ value) after free few = rw free.0 (ap (λ (bytes : List ℕ). byte ∷ bytes) (before_mark mark n value after free.1 (omega arith)))

id_before : (mark : ℕ) → is_id_byte mark ≡ false → (bytes : List ℕ) (start : ℕ) (value after : List ℕ) → is_id value ≡ true → drop start bytes ≡ value ++ (mark ∷ after) → id_at mark bytes start ≡ value
unfolding id_at
id_before mark none bytes start value after valid stands = rw stands (before_mark mark 16 value after (id_free mark none value valid) (id_bytes value valid).few)

-- an id that stands at a position of a text, ended by byte 10
pub id_in_text : (text : List ℕ) (start : ℕ) (value after : List ℕ) → is_id value ≡ true → drop start text ≡ value ++ (10 ∷ after) → id_at 10 text start ≡ value
id_in_text = id_before 10 refl

-- an id that stands at a position of rows, ended by byte 0
pub id_in_row : (rows : List ℕ) (start : ℕ) (value after : List ℕ) → is_id value ≡ true → drop start rows ≡ value ++ (0 ∷ after) → id_at 0 rows start ≡ value
id_in_row = id_before 0 refl

-- an id that is a line's value stands behind the line's key
pub id_in_line : (key text : List ℕ) (at : ℕ) → is_id (value_at key text at) ≡ true → id_at 10 text (at + length key) ≡ value_at key text at
id_in_line key text at = go (line_in key (drop at text)) refl
  where
    go : (line : Judged (List ℕ)) → line_in key (drop at text) ≡ line → is_id (value_or_none line) ≡ true → id_at 10 text (at + length key) ≡ value_or_none line
    go (good value) e valid =
        let after = drop (length (key ++ value) + 1) (drop at text) in
        let stands : drop (at + length key) text ≡ value ++ (10 ∷ after) =
        sym (drop-drop (length key) at text)
        ∙ ap (λ (rest : List ℕ). drop (length key) rest) (line_read key (drop at text) value e ∙ append_assoc key value (10 ∷ after))
        ∙ drop-append_seam key (value ++ (10 ∷ after)) in
        id_in_text text (at + length key) value after valid stands
    go (bad number) e valid = absurd (omega (arith, (id_bytes [] valid).some_bytes))

-- ---- an id in a row: at most 16 bytes, none of them the mark

before_short : (mark : ℕ) (bytes : List ℕ) → length (before mark bytes) ≤ length bytes
unfolding before
before_short mark [] = omega arith
before_short mark (byte ∷ bytes) = go (eqb byte mark) (before_short mark bytes)
  where
    go : (b : Bool) → length (before mark bytes) ≤ length bytes → length (cond b [] (byte ∷ before mark bytes)) ≤ suc (length bytes)
    go true short = omega arith
    go false short = omega arith

module _ (mark : ℕ) (bytes : List ℕ) (start : ℕ) where
  pub id_few : length (id_at mark bytes start) ≤ 16
  unfolding id_at
  id_few = omega (arith, before_short mark (take 16 (drop start bytes)), length-take 16 (drop start bytes))

-- ---- whether an id stands among others

pub stands_none : (id : List ℕ) → stands_in id [] ≡ false
unfolding stands_in
stands_none id = refl

pub stands_more : (id other : List ℕ) (others : List (List ℕ)) → stands_in id (other ∷ others) ≡ same_bytes id other || stands_in id others
unfolding stands_in
stands_more id other others = refl
