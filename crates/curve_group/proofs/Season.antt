-- All that other crates know of season, block and group: four seasons, six blocks, twenty-four groups, each of one season and one block.
use Prim.Native.Nat.{ℕ, ◌/◌, ◌%◌, ◌≤◌, ◌<◌}
use native.Mathlib.Omega.{arith}
use mathlib.Core.Path.{◌≡◌, refl}
use Rattle.curve_group.specs.Season.{season_of, block_of, group_of, group_season, group_block}
use Rattle.curve_group.proofs.Listed.{season_number}

pub season_below : (month : ℕ) → season_of month < 4
season_below month = rw (season_number month) (omega arith)

pub block_below : (hour : ℕ) → hour ≤ 23 → block_of hour < 6
unfolding block_of
block_below hour h = omega arith

pub group_below : (month hour : ℕ) → hour ≤ 23 → group_of month hour < 24
unfolding group_of
group_below month hour h = omega (arith, season_below month, block_below hour h)

-- ---- the season and the block of a group

pub season_of_group : (group : ℕ) → group_season group ≡ group / 6
unfolding group_season
season_of_group group = refl

pub block_of_group : (group : ℕ) → group_block group ≡ group % 6
unfolding group_block
block_of_group group = refl

pub group_season_lem : (month hour : ℕ) → hour ≤ 23 → group_season (group_of month hour) ≡ season_of month
unfolding group_of group_season
group_season_lem month hour h = omega (arith, block_below hour h)

pub group_block_lem : (month hour : ℕ) → hour ≤ 23 → group_block (group_of month hour) ≡ block_of hour
unfolding group_of group_block
group_block_lem month hour h = omega (arith, block_below hour h)
