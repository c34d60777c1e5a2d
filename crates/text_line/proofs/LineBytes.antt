-- Laws of a line by its bytes: bytes with no byte 10 among them, a key in front, a line as it is written and as it is read.
use Prim.Native.Nat.{ℕ, suc, ◌+◌, ◌-◌, ◌<◌}
use native.Mathlib.Numerals.{add-one}
use native.Mathlib.Omega.{arith}
use mathlib.Core.Bool.{Bool, true, false, not, ◌&&◌, cond}
use mathlib.Core.List.{List, [], ◌∷◌, ◌++◌, append_assoc}
use mathlib.Core.Path.{◌≡◌, refl, sym, ap, ◌∙◌}
use lib.Dec.{eqb}
use lib.ListN.{length, take, drop, length-append}
use lib.Seq.{take-append_seam, take_at, drop-append_seam, length-take-le}
use borrow.Author.Tests.{eqb-true, eq-eqb, lt-ltb, le-ltb, ne_eqb, not-true}
use Rattle.text_refusal.proofs.Choices.{and_left, and_right}
use Rattle.text_line.specs.Judged.{Judged, good, bad}
use Rattle.text_line.specs.Line.{line_length, OneLine, begins, line_in}
use Rattle.text_line.specs.Piece.{part, pieces_from}
use Rattle.text_line.proofs.Fields.{LineIs, valued, line_is}

-- ---- bytes with no byte 10 among them

pub one_line_none : OneLine []
unfolding line_length
one_line_none = refl

pub one_line_rest : (byte : ℕ) (bytes : List ℕ) → OneLine (byte ∷ bytes) → (eqb byte 10 ≡ false) × OneLine bytes
unfolding line_length
one_line_rest byte bytes e = go (eqb byte 10) refl e
  where
    go : (b : Bool) → eqb byte 10 ≡ b → cond b 0 (suc (line_length bytes)) ≡ suc (length bytes) → (eqb byte 10 ≡ false) × OneLine bytes
    go true h e = absurd (omega arith)
    go false h e = (h, omega arith)

pub one_line_byte : (byte : ℕ) (bytes : List ℕ) → eqb byte 10 ≡ false → OneLine bytes → OneLine (byte ∷ bytes)
unfolding line_length
one_line_byte byte bytes h e = rw h (ap suc e)

pub one_line_append : (one other : List ℕ) → OneLine one → OneLine other → OneLine (one ++ other)
one_line_append [] other e f = f
one_line_append (byte ∷ one) other e f =
    let h : (eqb byte 10 ≡ false) × OneLine one = one_line_rest byte one e in
    one_line_byte byte (one ++ other) h.0 (one_line_append one other h.1 f)

pub one_line_more : (bytes : List ℕ) (byte : ℕ) → OneLine bytes → eqb byte 10 ≡ false → OneLine (bytes ++ (byte ∷ []))
one_line_more bytes byte e h = one_line_append bytes (byte ∷ []) e (one_line_byte byte [] h one_line_none)

-- as a computed test, for keys that are written out
abbrev pub no_line_end : List ℕ → Bool
no_line_end [] = true
no_line_end (byte ∷ bytes) = not (eqb byte 10) && no_line_end bytes

pub one_line : (bytes : List ℕ) → no_line_end bytes ≡ true → OneLine bytes
one_line [] e = one_line_none
one_line (byte ∷ bytes) e =
    let h : eqb byte 10 ≡ false = not-true (eqb byte 10) (and_left (not (eqb byte 10)) (no_line_end bytes) e) in
    one_line_byte byte bytes h (one_line bytes (and_right (not (eqb byte 10)) (no_line_end bytes) e))

-- the pieces of such bytes
abbrev pub EachOneLine : List (List ℕ) → Type 0
EachOneLine [] = Unit
EachOneLine (piece ∷ pieces) = OneLine piece × EachOneLine pieces

pub pieces_one_line : (mark : ℕ) (front bytes : List ℕ) → OneLine front → OneLine bytes → EachOneLine (pieces_from mark front bytes)
unfolding pieces_from
pieces_one_line mark front [] e f = tt
pieces_one_line mark front (byte ∷ bytes) e f = go (eqb byte mark) (one_line_rest byte bytes f) (λ front. pieces_one_line mark front bytes)
  where
    go : (t : Bool) → (eqb byte 10 ≡ false) × OneLine bytes → ((front : List ℕ) → OneLine front → OneLine bytes → EachOneLine (pieces_from mark front bytes)) → EachOneLine (cond t ((front ++ (byte ∷ [])) ∷ pieces_from mark [] bytes) (pieces_from mark (front ++ (byte ∷ [])) bytes))
    go true h again = (one_line_more front byte e h.0, again [] one_line_none h.1)
    go false h again = again (front ++ (byte ∷ [])) (one_line_more front byte e h.0) h.1

-- such bytes end at the first byte 10 behind them
pub line_ended : (bytes after : List ℕ) → OneLine bytes → line_length (bytes ++ (10 ∷ after)) ≡ length bytes
unfolding line_length
line_ended [] after e = refl
line_ended (byte ∷ bytes) after e =
    let h : (eqb byte 10 ≡ false) × OneLine bytes = one_line_rest byte bytes e in
    rw h.0 (ap suc (line_ended bytes after h.1))

pub line_cut : (rest : List ℕ) → line_length rest < length rest → rest ≡ take (line_length rest) rest ++ (10 ∷ drop (suc (line_length rest)) rest)
unfolding line_length
line_cut [] l = absurd (omega arith)
line_cut (byte ∷ rest) l = go (eqb byte 10) refl (line_cut rest) l
  where
    go : (b : Bool) → eqb byte 10 ≡ b → (line_length rest < length rest → rest ≡ take (line_length rest) rest ++ (10 ∷ drop (suc (line_length rest)) rest)) → cond b 0 (suc (line_length rest)) < suc (length rest) → byte ∷ rest ≡ take (cond (eqb byte 10) 0 (suc (line_length rest))) (byte ∷ rest) ++ (10 ∷ drop (suc (cond (eqb byte 10) 0 (suc (line_length rest)))) (byte ∷ rest))
    go true h again l = rw (h, eqb-true byte 10 h)
    go false h again l = rw h (ap (λ (bytes : List ℕ). byte ∷ bytes) (again (omega arith)))

-- ---- a key in front

pub begins_own : (key rest : List ℕ) → begins key (key ++ rest) ≡ true
unfolding begins
begins_own [] rest = refl
begins_own (letter ∷ key) rest = rw (eq-eqb letter letter refl) (begins_own key rest)

pub begins_cut : (key line : List ℕ) → begins key line ≡ true → line ≡ key ++ drop (length key) line
unfolding begins
begins_cut [] line e = refl
begins_cut (letter ∷ key) [] e = cc
begins_cut (letter ∷ key) (byte ∷ line) e = go (eqb byte letter) refl (begins_cut key line) e
  where
    go : (b : Bool) → eqb byte letter ≡ b → (begins key line ≡ true → line ≡ key ++ drop (length key) line) → cond b (begins key line) false ≡ true → byte ∷ line ≡ letter ∷ (key ++ drop (length key) line)
    go true h again e = rw (eqb-true byte letter h) (ap (λ (bytes : List ℕ). letter ∷ bytes) (again e))
    go false h again e = cc

-- ---- a line as it is written and as it is read

part_middle : (key value after : List ℕ) (n : ℕ) → n ≡ length key + length value → part ((key ++ value) ++ after) (length key) n ≡ value
part_middle key value after n e = rw (append_assoc key value after, drop-append_seam key (value ++ after)) (take_at value after (n - length key) (omega arith))

-- a key, a value and byte 10 are read as the value, whatever follows
pub line_written : (key value after : List ℕ) → OneLine key → OneLine value → 0 < length value → line_in key ((key ++ value) ++ (10 ∷ after)) ≡ good value
unfolding line_in
line_written key value after key_line Value-line some_bytes =
    let ended : line_length ((key ++ value) ++ (10 ∷ after)) ≡ length (key ++ value) = line_ended (key ++ value) after (one_line_append key value key_line Value-line) in
    let longer : length (key ++ value) ≡ length key + length value = length-append key value in
    let whole : length ((key ++ value) ++ (10 ∷ after)) ≡ length (key ++ value) + suc (length after) = length-append (key ++ value) (10 ∷ after) in
    rw (ended, lt-ltb (length (key ++ value)) (length ((key ++ value) ++ (10 ∷ after))) (omega arith), take-append_seam (key ++ value) (10 ∷ after), begins_own key value, ne_eqb (length key) (length (key ++ value)) (λ same. omega arith))
    (ap good (part_middle key value (10 ∷ after) (length (key ++ value)) longer))

-- a line that is read as a value holds the key, the value and byte 10
pub line_read : (key rest value : List ℕ) → line_in key rest ≡ good value → rest ≡ (key ++ value) ++ (10 ∷ drop (length (key ++ value) + 1) rest)
line_read key rest value e = go (line_in key rest) (line_is key rest) e
  where
    go : (found : Judged (List ℕ)) → LineIs key rest found → found ≡ good value → rest ≡ (key ++ value) ++ (10 ∷ drop (length (key ++ value) + 1) rest)
    go (good bytes) (valued some within long begun is) e =
        let behind : List ℕ = drop (length key) (take (line_length rest) rest) in
        let front : take (line_length rest) rest ≡ key ++ behind = begins_cut key (take (line_length rest) rest) begun in
        let size : line_length rest ≡ length (key ++ behind) = sym (length-take-le (line_length rest) rest (omega arith)) ∙ ap length front in
        let whole : rest ≡ (key ++ behind) ++ (10 ∷ drop (suc (line_length rest)) rest) = line_cut rest (omega arith) ∙ ap (λ (line : List ℕ). line ++ (10 ∷ drop (suc (line_length rest)) rest)) front in
        let there : bytes ≡ behind =
        is ∙ ap (λ (text : List ℕ). part text (length key) (line_length rest)) whole
        ∙ part_middle key behind (10 ∷ drop (suc (line_length rest)) rest) (line_length rest) (size ∙ length-append key behind) in
        let same : value ≡ behind = (let told : value ≡ bytes = cc in told ∙ there) in
        rw (same, add-one (length (key ++ behind)), ← size) whole
    go (bad number) line e = let z : ◌≡◌ {A = ℕ} 0 1 = cc in absurd (omega arith)

-- bytes with no byte 10 are no whole line
pub line_unended : (key line : List ℕ) → OneLine line → line_in key line ≡ bad 3
unfolding line_in
line_unended key line e = rw (e, le-ltb (length line) (length line) (omega arith))

-- what follows a line's byte 10 does not matter
pub line_alone : (key line more : List ℕ) → OneLine line → line_in key (line ++ (10 ∷ more)) ≡ line_in key (line ++ (10 ∷ []))
unfolding line_in
line_alone key line more e = go (begins key line) refl
  where
    long : (more : List ℕ) → length (line ++ (10 ∷ more)) ≡ length line + suc (length more)
    long more = length-append line (10 ∷ more)

    alone : (b : Bool) → begins key line ≡ b → (more : List ℕ) → line_in key (line ++ (10 ∷ more)) ≡ cond b (cond (eqb (length key) (length line)) (bad 5) (good (part (line ++ (10 ∷ more)) (length key) (length line)))) (bad 4)
    alone b h more =
        rw (line_ended line more e, lt-ltb (length line) (length (line ++ (10 ∷ more))) (omega (arith, long more)), take-append_seam line (10 ∷ more), h)

    value : begins key line ≡ true → (more : List ℕ) → part (line ++ (10 ∷ more)) (length key) (length line) ≡ drop (length key) line
    value h more =
        let whole : line ≡ key ++ drop (length key) line = begins_cut key line h in
        ap (λ (bytes : List ℕ). part (bytes ++ (10 ∷ more)) (length key) (length line)) whole
        ∙ part_middle key (drop (length key) line) (10 ∷ more) (length line) (ap length whole ∙ length-append key (drop (length key) line))

    go : (b : Bool) → begins key line ≡ b → line_in key (line ++ (10 ∷ more)) ≡ line_in key (line ++ (10 ∷ []))
    go true h = alone true h more ∙ rw (value h more, ← value h []) (sym (alone true h []))
    go false h = alone false h more ∙ sym (alone false h [])
