-- Document 02, W-202: the time blocks as the market posts them.
use Rattle.std.specs.Prelude.{ℕ, ◌+◌, ◌≤◌, ◌≡◌, List, [], ◌∷◌, map, eqb}
use Rattle.curve_group.specs.Season.{row_has, block_of}

-- the posted table: the hour endings of each block, from block 0 on
abbrev pub posted_blocks : List (List ℕ)
posted_blocks =
    (23 ∷ 24 ∷ 1 ∷ 2 ∷ [])
    ∷ (3 ∷ 4 ∷ 5 ∷ 6 ∷ [])
    ∷ (7 ∷ 8 ∷ 9 ∷ 10 ∷ [])
    ∷ (11 ∷ 12 ∷ 13 ∷ 14 ∷ [])
    ∷ (15 ∷ 16 ∷ 17 ∷ 18 ∷ [])
    ∷ (19 ∷ 20 ∷ 21 ∷ 22 ∷ [])
    ∷ []

-- hour h is hour ending h + 1: at each of the 24 hours the row of its block has its hour ending, and no other row has it
abbrev pub BlocksAreAsPosted : Type 0
BlocksAreAsPosted =
    (hour : ℕ) → hour ≤ 23 → map (row_has (hour + 1)) posted_blocks ≡ map (eqb (block_of hour)) (0 ∷ 1 ∷ 2 ∷ 3 ∷ 4 ∷ 5 ∷ [])
