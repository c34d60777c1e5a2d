-- Laws of parts: cut short, and whole.
use Prim.Native.Nat.{ℕ, ◌-◌, ◌≤◌}
use native.Mathlib.Omega.{arith}
use mathlib.Core.List.{List, []}
use mathlib.Core.Path.{◌≡◌}
use lib.ListN.{length, drop, drop_of_length-le, length-drop}
use lib.Seq.{take-nil, take_all}
use Rattle.text_line.specs.Piece.{part}

-- no bytes: a part from the text's end on, or up to its own start
pub part_past : (s : List ℕ) (i j : ℕ) → length s ≤ i → [] ≡ part s i j
part_past s i j h = rw (drop_of_length-le s {i = i} h, take-nil)

pub part_none : (s : List ℕ) (i j : ℕ) → j ≤ i → [] ≡ part s i j
part_none s i j h = let e : j - i ≡ 0 = omega arith in rw e

-- a part that reaches the text's end
pub part_rest : (s : List ℕ) (i j : ℕ) → length s ≤ j → part s i (length s) ≡ part s i j
part_rest s i j h = rw (take_all (j - i) (drop i s) (omega (arith, length-drop i s)), take_all (length s - i) (drop i s) (omega (arith, length-drop i s)))

pub part_whole : (s : List ℕ) (i : ℕ) → part s i (length s) ≡ drop i s
part_whole s i = take_all (length s - i) (drop i s) (omega (arith, length-drop i s))
