-- The blocks are the posted ones: computed at all 24 hours.
use Prim.Native.Nat.{ℕ, ◌+◌}
use native.Mathlib.Omega.{arith}
use mathlib.Core.Path.{◌≡◌, refl}
use mathlib.Core.Bool.{Bool}
use mathlib.Core.List.{List, [], ◌∷◌, map}
use lib.Dec.{eqb}
use Rattle.curve_group.specs.Season.{row_has, block_of}
use Rattle.curve_group.specs.Posted.{posted_blocks, BlocksAreAsPosted}
use Rattle.curve_group.proofs.Below.{below, each_below}

-- which of the six rows have the hour ending of an hour, and which is the row of its block
abbrev posted : ℕ → List Bool
posted hour = map (row_has (hour + 1)) posted_blocks

abbrev defined : ℕ → List Bool
defined hour = map (eqb (block_of hour)) (0 ∷ 1 ∷ 2 ∷ 3 ∷ 4 ∷ 5 ∷ [])

computed : map posted (below 24) ≡ map defined (below 24)
unfolding block_of
computed = refl

pub blocks_are_as_posted : BlocksAreAsPosted
blocks_are_as_posted hour h = each_below posted defined 24 computed hour (omega arith)
