-- Document 01, "History to curves": the group of an hour, which is document 01's term: the hours of one season and one block of the day.
use Rattle.std.specs.Prelude.{ℕ, ◌+◌, ◌*◌, ◌/◌, ◌%◌, Bool, false, ◌||◌, cond, List, [], ◌∷◌, eqb}

-- ---- document 02, W-203: the months of the four seasons, as the methodology lists them

abbrev pub winter : List ℕ
winter = 12 ∷ 1 ∷ 2 ∷ []

abbrev pub spring : List ℕ
spring = 3 ∷ 4 ∷ 5 ∷ []

abbrev pub summer : List ℕ
summer = 6 ∷ 7 ∷ 8 ∷ []

abbrev pub fall : List ℕ
fall = 9 ∷ 10 ∷ 11 ∷ []

-- whether one of these lists, or a row of the posted table, has a number
abbrev pub row_has : ℕ → List ℕ → Bool
row_has number [] = false
row_has number (one ∷ row) = eqb number one || row_has number row

-- season 0 winter, 1 spring, 2 summer, 3 fall; a month outside 1..12, which no text has, is in no list and gives 0
unfoldable pub season_of : ℕ → ℕ
season_of month =
    cond (row_has month winter) 0
    (cond (row_has month spring) 1
    (cond (row_has month summer) 2
    (cond (row_has month fall) 3
    0)))

-- ---- block and group

-- block = floor(((hour + 2) mod 24) / 4): document 02, W-202, whose posted table is `posted_blocks`
unfoldable pub block_of : ℕ → ℕ
block_of hour = (hour + 2) % 24 / 4

-- Group = 6 × season + block
unfoldable pub group_of : ℕ → ℕ → ℕ
group_of month hour = 6 * season_of month + block_of hour

-- the season and the block of a group
unfoldable pub group_season : ℕ → ℕ
group_season group = group / 6

unfoldable pub group_block : ℕ → ℕ
group_block group = group % 6
