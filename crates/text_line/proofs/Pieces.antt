-- Laws on the pieces of a byte string: what the first piece is, and where it ends.
use Prim.Native.Nat.{ℕ, zero, suc, ◌+◌, ◌-◌, ◌≤◌, ◌<◌}
use mathlib.Core.Path.{◌≡◌, refl, sym, ap, ◌∙◌}
use mathlib.Core.Bool.{Bool, true, false, cond}
use mathlib.Core.List.{List, [], ◌∷◌, ◌++◌, append_assoc}
use native.Mathlib.Numerals.{add-one}
use native.Mathlib.Nat.{add-sub_cancel_left}
use native.Mathlib.Omega.{arith}
use lib.Dec.{eqb}
use lib.ListN.{length, take, drop, get_or, drop_of_length-le, length-drop}
use lib.Seq.{drop-cons, drop-drop, take-suc, length-take-le, drop-append-le}
use borrow.Author.Tests.{eq-eqb, ne_eqb}
use Rattle.text_line.specs.Piece.{pieces_from, piece_length, one_more}

-- no piece is left
pub no_piece : (mark : ℕ) (front bytes : List ℕ) → piece_length mark bytes ≡ 0 → pieces_from mark front bytes ≡ []
unfolding piece_length pieces_from
no_piece mark front [] none = refl
no_piece mark front (byte ∷ rest) none = go (eqb byte mark) (piece_length mark rest) none (no_piece mark (front ++ (byte ∷ [])) rest)
  where
    go :
        (test : Bool) (n : ℕ) → cond test 1 (one_more n) ≡ 0 → (n ≡ 0 → pieces_from mark (front ++ (byte ∷ [])) rest ≡ []) →
        cond test ((front ++ (byte ∷ [])) ∷ pieces_from mark [] rest) (pieces_from mark (front ++ (byte ∷ [])) rest) ≡ []
    go true n none others = absurd (omega arith)
    go false zero none others = others refl
    go false (suc n) none others = absurd (omega arith)

-- the first piece, and those after it
pub first_piece :
    (mark : ℕ) (front bytes : List ℕ) → 0 < piece_length mark bytes →
    pieces_from mark front bytes ≡ (front ++ take (piece_length mark bytes) bytes) ∷ pieces_from mark [] (drop (piece_length mark bytes) bytes)
unfolding piece_length pieces_from
first_piece mark front [] some = absurd (omega arith)
first_piece mark front (byte ∷ rest) some = go (eqb byte mark) (piece_length mark rest) some (first_piece mark (front ++ (byte ∷ [])) rest)
  where
    go :
        (test : Bool) (n : ℕ) → 0 < cond test 1 (one_more n) →
        (0 < n → pieces_from mark (front ++ (byte ∷ [])) rest ≡ ((front ++ (byte ∷ [])) ++ take n rest) ∷ pieces_from mark [] (drop n rest)) →
        cond test ((front ++ (byte ∷ [])) ∷ pieces_from mark [] rest) (pieces_from mark (front ++ (byte ∷ [])) rest) ≡
        (front ++ take (cond test 1 (one_more n)) (byte ∷ rest)) ∷ pieces_from mark [] (drop (cond test 1 (one_more n)) (byte ∷ rest))
    go true n some others = refl
    go false zero some others = absurd (omega arith)
    go false (suc n) some others = others (omega arith) ∙ simp append_assoc

pub piece_within : (mark : ℕ) (bytes : List ℕ) → piece_length mark bytes ≤ length bytes
unfolding piece_length
piece_within mark [] = omega arith
piece_within mark (byte ∷ rest) = go (eqb byte mark) (piece_length mark rest) (piece_within mark rest)
  where
    go : (test : Bool) (n : ℕ) → n ≤ length rest → cond test 1 (one_more n) ≤ suc (length rest)
    go true n within = omega arith
    go false zero within = omega arith
    go false (suc n) within = omega arith

-- the same by positions: `end` is where the piece that starts at `from` ends
module _ (mark : ℕ) (bytes : List ℕ) (from end : ℕ) (ends : end ≡ from + piece_length mark (drop from bytes)) where
  pub piece_none : end ≡ from → pieces_from mark [] (drop from bytes) ≡ []
  piece_none e = no_piece mark [] (drop from bytes) (omega arith)

  pub piece_next :
      (end ≡ from → ⊥) → pieces_from mark [] (drop from bytes) ≡ take (end - from) (drop from bytes) ∷ pieces_from mark [] (drop end bytes)
  piece_next some = rw (first_piece mark [] (drop from bytes) (omega arith), drop-drop, ends, add-sub_cancel_left)

  pub piece_fits : from ≤ length bytes → end ≤ length bytes
  piece_fits within = omega (arith, piece_within mark (drop from bytes), length-drop from bytes)

-- a length counted from k bytes before, where there is a piece
abbrev farther : ℕ → ℕ → ℕ
farther k zero = 0
farther k (suc n) = k + suc n

farther_more : (k n : ℕ) → farther k (one_more n) ≡ farther (k + 1) n
farther_more k zero = refl
farther_more k (suc n) = omega arith

farther_none : (n : ℕ) → n ≡ farther 0 n
farther_none zero = refl
farther_none (suc n) = omega arith

-- no mark stands from one position up to another: the piece goes on there
pub record Unmarked (mark : ℕ) (bytes : List ℕ) (from i : ℕ) : Type 0 where
  pub behind : from ≤ i
  pub whole : piece_length mark (drop from bytes) ≡ farther (i - from) (piece_length mark (drop i bytes))

pub unmarked_start : (mark : ℕ) (bytes : List ℕ) (from : ℕ) → Unmarked mark bytes from from
unmarked_start mark bytes from =
    let e : from - from ≡ 0 = omega arith in
    record { behind = omega arith; whole = rw e (farther_none (piece_length mark (drop from bytes))) }

module _ {mark : ℕ} {bytes : List ℕ} {from i : ℕ} (before : Unmarked mark bytes from i) where
  -- past the last byte there is no piece
  pub unmarked_over : length bytes ≤ i → from ≡ from + piece_length mark (drop from bytes)
  unfolding piece_length
  unmarked_over h = rw (before.whole, drop_of_length-le bytes {i = i} h) (omega arith)

  pub unmarked_ends : i < length bytes → get_or bytes i 0 ≡ mark → i + 1 ≡ from + piece_length mark (drop from bytes)
  unfolding piece_length
  unmarked_ends h e = rw (before.whole, drop-cons bytes i 0 h, eq-eqb (get_or bytes i 0) mark e) (omega (arith, before.behind))

  pub unmarked_more : i < length bytes → (get_or bytes i 0 ≡ mark → ⊥) → Unmarked mark bytes from (i + 1)
  unfolding piece_length
  unmarked_more h n =
      let on : piece_length mark (drop i bytes) ≡ one_more (piece_length mark (drop (i + 1) bytes)) =
      rw (add-one, drop-cons bytes i 0 h, ne_eqb (get_or bytes i 0) mark n) in
      let e : i + 1 - from ≡ i - from + 1 = omega (arith, before.behind) in
      record {
        behind = omega (arith, before.behind);
        whole = rw (before.whole, on, e) (farther_more (i - from) (piece_length mark (drop (i + 1) bytes)));
      }

  -- where there is a piece, it ends behind the position
  pub unmarked_within : 0 < piece_length mark (drop from bytes) → i < from + piece_length mark (drop from bytes)
  unmarked_within some = go (piece_length mark (drop i bytes)) before.whole
    where
      go : (n : ℕ) → piece_length mark (drop from bytes) ≡ farther (i - from) n → i < from + piece_length mark (drop from bytes)
      go zero none = absurd (omega arith)
      go (suc n) on = omega (arith, before.behind)

-- ---- what follows the last mark is no piece

unmarked_byte : (mark : ℕ) (front bytes : List ℕ) (byte : ℕ) → (byte ≡ mark → ⊥) → pieces_from mark front (bytes ++ (byte ∷ [])) ≡ pieces_from mark front bytes
unfolding pieces_from
unmarked_byte mark front [] byte other = rw (ne_eqb byte mark other)
unmarked_byte mark front (first ∷ rest) byte other = rw (unmarked_byte mark [] rest byte other, unmarked_byte mark (front ++ (first ∷ [])) rest byte other)

marked_some : (mark : ℕ) (bytes : List ℕ) → 0 < piece_length mark (bytes ++ (mark ∷ []))
unfolding piece_length
marked_some mark [] = rw (eq-eqb mark mark refl) (omega arith)
marked_some mark (first ∷ rest) = go (eqb first mark) (piece_length mark (rest ++ (mark ∷ []))) (marked_some mark rest)
  where
    go : (test : Bool) (n : ℕ) → 0 < n → 0 < cond test 1 (one_more n)
    go true n some = omega arith
    go false zero some = absurd (omega arith)
    go false (suc n) some = omega arith

-- by the last byte of the first `end`
module _ (mark : ℕ) (bytes : List ℕ) (end : ℕ) (some : 0 < end) (within : end ≤ length bytes) where
  last_taken : take end bytes ≡ take (end - 1) bytes ++ (get_or bytes (end - 1) 0 ∷ [])
  last_taken =
      let last : end ≡ suc (end - 1) = omega arith in
      ap (λ (n : ℕ). take n bytes) last ∙ take-suc bytes (end - 1) 0 (omega arith)

  -- it is no mark: without it there are as many pieces
  pub unmarked_last : (get_or bytes (end - 1) 0 ≡ mark → ⊥) → pieces_from mark [] (take (end - 1) bytes) ≡ pieces_from mark [] (take end bytes)
  unmarked_last other = sym (ap (pieces_from mark []) last_taken ∙ unmarked_byte mark [] (take (end - 1) bytes) (get_or bytes (end - 1) 0) other)

  -- it is one: wherever a byte is left, a piece is
  pub marked_last : get_or bytes (end - 1) 0 ≡ mark → (from : ℕ) → from < end → 0 < piece_length mark (drop from (take end bytes))
  marked_last e from before =
      let front : length (take (end - 1) bytes) ≡ end - 1 = length-take-le (end - 1) bytes (omega arith) in
      rw (last_taken, e, drop-append-le from (take (end - 1) bytes) (mark ∷ []) (omega arith)) (marked_some mark (drop from (take (end - 1) bytes)))

-- ---- bytes that are written out: their pieces computed

abbrev pub computed_pieces : ℕ → List ℕ → List ℕ → List (List ℕ)
computed_pieces mark front [] = []
computed_pieces mark front (byte ∷ rest) =
    cond (eqb byte mark)
    ((front ++ (byte ∷ [])) ∷ computed_pieces mark [] rest)
    (computed_pieces mark (front ++ (byte ∷ [])) rest)

pub pieces_computed : (mark : ℕ) (front bytes : List ℕ) → pieces_from mark front bytes ≡ computed_pieces mark front bytes
unfolding pieces_from
pieces_computed mark front [] = refl
pieces_computed mark front (byte ∷ rest) = rw (pieces_computed mark [] rest, pieces_computed mark (front ++ (byte ∷ [])) rest)
