-- Document 02, W-202 and W-203: the groups of months and hours, and of an hour that is booked, each with what it is to be, worked out by hand.
use Rattle.std.specs.Prelude.{ℕ, List, [], ◌∷◌, ◌++◌, map, ℤ, pos, replicate}
use Rattle.text_refusal.specs.Bytes.{bytes}
use Rattle.curve_group.specs.Season.{group_of}
use Rattle.curve_record.specs.Record.{fresh, all_groups}
use Rattle.curve_booking.specs.Booking.{booked, record_after}
use Rattle.known.specs.Probability.{single}

-- a month and an hour, and their group
abbrev pub group_claim : ℕ → ℕ → ℕ → List ℤ × List ℤ
group_claim month hour group = (single (group_of month hour), single group)

-- an hour of July, hour 14, with the error 5
unfoldable pub july_hour : List ℕ
july_hour =
    bytes "month=7\nhour=14\nongen=5\nload=0\ntie=0\nns=0\nreg=0\nrrs=0\nnclr=0\noffns=0\ncold30=0\nshed=0\nruns=1\n"
    ++ bytes "hsl=0\nbase=0\nrrs=0\nnclr=0\nreg=0\nns=0\noffns=0\ncold30=0\nshort=0\n"

-- how many hours each group has once a text is booked on a fresh record
abbrev pub counts_after : List ℕ → List ℤ
counts_after text = map (λ group. pos group.count) (all_groups (record_after fresh (booked fresh text)))

unfoldable pub group_values : List (List ℤ × List ℤ)
group_values =
    -- hour ending 15 is in block 4, and July in season 2
    group_claim 7 14 16
    -- hours 22 and 23, hour endings 23 and 24, are in block 0 and keep their month's season
    ∷ group_claim 12 22 0
    ∷ group_claim 2 23 0
    ∷ group_claim 11 22 18
    ∷ group_claim 8 23 12
    -- hour endings 1 and 2 are in block 0, hour ending 3 is in block 1
    ∷ group_claim 3 0 6
    ∷ group_claim 3 1 6
    ∷ group_claim 3 2 7
    -- hour endings 6 and 7, 10 and 11, 14 and 15, 18 and 19: the other bounds between two blocks
    ∷ group_claim 4 5 7
    ∷ group_claim 4 6 8
    ∷ group_claim 10 9 20
    ∷ group_claim 10 10 21
    ∷ group_claim 1 13 3
    ∷ group_claim 1 14 4
    ∷ group_claim 6 17 16
    ∷ group_claim 6 18 17
    -- hour ending 22 is the last of block 5
    ∷ group_claim 9 21 23
    -- the first and the last month of each season, at hour 10, hour ending 11, which is in block 3
    ∷ group_claim 12 10 3
    ∷ group_claim 2 10 3
    ∷ group_claim 3 10 9
    ∷ group_claim 5 10 9
    ∷ group_claim 6 10 15
    ∷ group_claim 8 10 15
    ∷ group_claim 9 10 21
    ∷ group_claim 11 10 21
    -- months outside 1..12 are in season 0, also where the remainder by 12 is a month of another season: 3, 11 and 3 in the last three
    ∷ group_claim 0 10 3
    ∷ group_claim 13 10 3
    ∷ group_claim 15 10 3
    ∷ group_claim 23 10 3
    ∷ group_claim 18446744073709551615 10 3
    -- the hour of July is booked on group 16
    ∷ (counts_after july_hour, replicate 16 (pos 0) ++ (pos 1 ∷ replicate 7 (pos 0)))
    ∷ []
