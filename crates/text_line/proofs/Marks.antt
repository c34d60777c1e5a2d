-- Laws of the first mark among some bytes, as `mark_at` finds it: a line ends at the first byte 10, a piece behind its mark.
use Prim.Native.Nat.{ℕ, suc, ◌+◌, ◌≤◌}
use native.Mathlib.Numerals.{add-one}
use native.Mathlib.Omega.{arith}
use mathlib.Core.Bool.{Bool, true, false, not, cond}
use mathlib.Core.List.{List, [], ◌∷◌}
use mathlib.Core.Path.{◌≡◌, refl, ◌∙◌}
use lib.Dec.{eqb, ltb}
use lib.ListN.{length, drop, drop_of_length-le}
use borrow.Author.Tests.{ltb-true, ltb-false, lt-ltb, le-ltb}
use Rattle.std.specs.Prelude.{◌==◌, position, Some, None}
use Rattle.std.specs.List.{position_or_len}
use Rattle.std.proofs.lemmas.List.Sums.{prefix_len-le-length}
use Rattle.std.proofs.lemmas.List.Recursion.{is_position_or_len}
use Rattle.text_line.specs.Line.{line_length}
use Rattle.text_line.specs.Piece.{piece_length, one_more}

-- ---- the first byte that passes a test

module _ (test : ℕ → Bool) (s : List ℕ) where
  pub first_some : {i : ℕ} → position test s ≡ Some i → position_or_len test s ≡ i
  first_some {i} e = go (position_or_len test s) (ltb (position_or_len test s) (length s)) e
    where
      go : (n : ℕ) (b : Bool) → cond b (Some n) None ≡ Some i → n ≡ i
      go n true e = cc
      go n false e = cc

  pub first_none : position test s ≡ None → position_or_len test s ≡ length s
  first_none e = go (ltb (position_or_len test s) (length s)) refl e
    where
      go : (b : Bool) → ltb (position_or_len test s) (length s) ≡ b → cond b (Some (position_or_len test s)) None ≡ None → position_or_len test s ≡ length s
      go true t e = cc
      go false t e = omega (arith, ltb-false (position_or_len test s) (length s) t, prefix_len-le-length (λ byte. not (test byte)) s)

-- ---- a line

pub line_first : (s : List ℕ) → line_length s ≡ position_or_len (λ byte. byte == 10) s
unfolding line_length
line_first s = is_position_or_len line_length (λ byte. byte == 10) refl (λ byte rest. let one : suc (line_length rest) ≡ 1 + line_length rest = omega arith in rw one) s

pub line_marked : (s : List ℕ) {i : ℕ} → position (λ byte. byte == 10) s ≡ Some i → line_length s ≡ i
line_marked s e = line_first s ∙ first_some (λ byte. byte == 10) s e

pub line_unmarked : (s : List ℕ) → position (λ byte. byte == 10) s ≡ None → line_length s ≡ length s
line_unmarked s e = line_first s ∙ first_none (λ byte. byte == 10) s e

-- ---- a piece

module _ (mark : ℕ) where
  -- a piece ends behind the first mark, where there is one
  piece_first : (s : List ℕ) → piece_length mark s ≡ cond (ltb (position_or_len (λ byte. byte == mark) s) (length s)) (position_or_len (λ byte. byte == mark) s + 1) 0
  unfolding piece_length
  piece_first [] = refl
  piece_first (byte ∷ rest) = rw (piece_first rest) (go (position_or_len (λ byte. byte == mark) rest) (eqb byte mark))
    where
      go : (n : ℕ) (b : Bool) →
          cond b 1 (one_more (cond (ltb n (length rest)) (n + 1) 0)) ≡ cond (ltb (cond (not b) (1 + n) 0) (suc (length rest))) (cond (not b) (1 + n) 0 + 1) 0
      go n true = rw (lt-ltb 0 (suc (length rest)) (omega arith))
      go n false = more (ltb n (length rest)) refl
        where
          more : (t : Bool) → ltb n (length rest) ≡ t → one_more (cond t (n + 1) 0) ≡ cond (ltb (1 + n) (suc (length rest))) (1 + n + 1) 0
          more true t = rw (lt-ltb (1 + n) (suc (length rest)) (let within = ltb-true n (length rest) t in omega arith), add-one) (omega arith)
          more false t = rw (le-ltb (1 + n) (suc (length rest)) (let past = ltb-false n (length rest) t in omega arith))

  pub piece_marked : (s : List ℕ) {i : ℕ} → position (λ byte. byte == mark) s ≡ Some i → piece_length mark s ≡ i + 1
  piece_marked s {i} e = piece_first s ∙ go (position_or_len (λ byte. byte == mark) s) (ltb (position_or_len (λ byte. byte == mark) s) (length s)) e
    where
      go : (n : ℕ) (b : Bool) → cond b (Some n) None ≡ Some i → cond b (n + 1) 0 ≡ i + 1
      go n true e = cc
      go n false e = cc

  pub piece_unmarked : (s : List ℕ) → position (λ byte. byte == mark) s ≡ None → piece_length mark s ≡ 0
  piece_unmarked s e = piece_first s ∙ go (position_or_len (λ byte. byte == mark) s) (ltb (position_or_len (λ byte. byte == mark) s) (length s)) e
    where
      go : (n : ℕ) (b : Bool) → cond b (Some n) None ≡ None → cond b (n + 1) 0 ≡ 0
      go n true e = cc
      go n false e = refl

  pub piece_past : (s : List ℕ) (from : ℕ) → length s ≤ from → piece_length mark (drop from s) ≡ 0
  unfolding piece_length
  piece_past s from h = rw (drop_of_length-le s {i = from} h)
