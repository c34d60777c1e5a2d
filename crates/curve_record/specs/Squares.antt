-- Document 01, "History to curves": V, as the function that settling calls gives it: where the group's numbers and x are small enough that it fits a machine
-- number. A group of a record that is not impossible, and its mean, always are.
use Rattle.std.specs.Prelude.{Bool, cond, ◌&&◌, leb, ℤ, pos, nat_abs}
use Rattle.curve_record.specs.Possible.{squares_around}
use Rattle.curve_record.specs.declared.Group.{Group}

-- at most 1000 hours, their sum within ±1000 × 20000000, their squares within ±1000 × 4 × 10^14, and x within ±20000001
abbrev pub is_near : Group → ℤ → Bool
is_near g x =
    (leb g.count 1000 && leb (nat_abs g.sum) 20000000000)
    && (leb (nat_abs g.squares) 400000000000000000 && leb (nat_abs x) 20000001)

-- 0 where a number is too large
unfoldable pub squares_near : Group → ℤ → ℤ
squares_near g x = cond (is_near g x) (squares_around g x) (pos 0)
