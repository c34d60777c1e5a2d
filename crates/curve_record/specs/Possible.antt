-- Document 01, "History to curves": mu and V of a group. "Turned back, in checking order", 1: when a record is impossible.
use Rattle.std.specs.Prelude.{◌*◌, Bool, true, ◌&&◌, ◌||◌, List, [], ◌∷◌, leb, eqb, ℤ, pos, nat_abs, ◌+ℤ◌}
use Rattle.std.specs.Int.Signed.{le_z}
use Rattle.integer.specs.Floor.{floor_div}
use Rattle.integer.specs.Quadratic.{quadratic}
use Rattle.curve_record.specs.declared.Group.{Group}
use Rattle.curve_record.specs.declared.Record.{Record}
use Rattle.curve_record.specs.Record.{all_groups}

-- mu = floor(sum / count)
unfoldable pub mean_of : Group → ℤ
mean_of g = floor_div g.sum g.count

-- V with x for mu: squares - 2 × x × sum + count × x^2, the sum of (e - x)^2
unfoldable pub squares_around : Group → ℤ → ℤ
squares_around g x = quadratic g.sum g.squares (pos g.count) x

abbrev pub not_negative : ℤ → Bool
not_negative z = le_z (pos 0) z

-- what does not make a record impossible (1): count, sum, squares, then V and the same with mu + 1; a group of count 0 has no V
unfoldable pub possible : Group → Bool
possible g =
    leb g.count 1000
    && (leb (nat_abs g.sum) (g.count * 20000000)
    && (not_negative g.squares
    && (le_z g.squares (pos (g.count * 400000000000000))
    && (eqb g.count 0
    || (not_negative (squares_around g (mean_of g))
    && not_negative (squares_around g (mean_of g +ℤ pos 1)))))))

unfoldable pub all_possible : List Group → Bool
all_possible [] = true
all_possible (g ∷ groups) = possible g && all_possible groups

-- a record is impossible (1) where one of its groups is
unfoldable pub record_possible : Record → Bool
record_possible history = all_possible (all_groups history)
