-- The spread of a possible group is in range, and so are the pairs of a settled curve set.
use mathlib.Core.Path.{◌≡◌}
use mathlib.Core.Bool.{true}
use mathlib.Core.List.{List, [], ◌∷◌, map}
use Prim.Native.Nat.{ℕ, suc, ◌/◌, ◌≤◌, ◌<◌}
use native.Mathlib.Nat.{div-le_of_le-mul}
use native.Mathlib.Omega.{arith}
use lib.IntN.{nat_abs}
use lib.ListN.{length, get_or}
use Rattle.integer.proofs.Order.{le-le_z, pos-≤ℤ}
use Rattle.integer.proofs.Bounds.{abs_bound}
use Rattle.root.proofs.SquareRoot.{root_is, root_le}
use Rattle.curve_record.specs.declared.Group.{Group}
use Rattle.curve_record.specs.declared.Record.{Record}
use Rattle.curve_record.specs.Record.{no_hours, group_at, all_groups}
use Rattle.curve_record.specs.Possible.{mean_of, squares_around, possible, record_possible}
use Rattle.curve_set.specs.Curves.{pair_in_range, pairs_in_range}
use Rattle.curve_set.proofs.InRange.{no_pairs_in_range, more_pairs_in_range}
use Rattle.curve_settling.specs.Settle.{spread_of, pair_of, Faultless}
use Rattle.curve_record.proofs.RecordGroups.{all_groups-length, all_groups_at}
use Rattle.curve_record.proofs.PossibleGroups.{mean_bound, Possible, possible_is, squares_at_mean, possible_at}

pub spread_bound : (g : Group) → Possible g → 0 < g.count → spread_of g ≤ 20000000
unfolding spread_of
spread_bound g p some =
    let quotient = nat_abs (squares_around g (mean_of g)) / g.count in
    root_le quotient 400000000000001 (spread_of g) 20000000 (div-le_of_le-mul g.count (squares_at_mean g p some)) (root_is quotient).0 (omega arith)

pair_in_range_lem : (g : Group) → Possible g → 2 ≤ g.count → (spread_of g ≡ 0 → ⊥) → pair_in_range (pair_of g) ≡ true
unfolding pair_of
pair_in_range_lem g p hours apart =
    let mean = (abs_bound (mean_of g) 20000000).0 (mean_bound g p.small) in
    let low = (pos-≤ℤ 1 (spread_of g)).1 (omega arith) in
    let high = (pos-≤ℤ (spread_of g) 20000000).1 (spread_bound g p (omega arith)) in
    rw (le-le_z mean.0, le-le_z mean.1, le-le_z low, le-le_z high)

groups_in_range : (groups : List Group) → ((i : ℕ) → i < length groups → possible (get_or groups i no_hours) ≡ true)
    → ((i : ℕ) → i < length groups → Faultless (get_or groups i no_hours)) → pairs_in_range (map pair_of groups) ≡ true
groups_in_range [] each faultless = no_pairs_in_range
groups_in_range (g ∷ groups) each faultless =
    let fine = faultless 0 (omega arith) in
    more_pairs_in_range (pair_of g) (map pair_of groups) (pair_in_range_lem g (possible_is g (each 0 (omega arith))) fine.0 fine.1)
    (groups_in_range groups (λ i h. each (suc i) (omega arith)) (λ i h. faultless (suc i) (omega arith)))

-- the pairs of a possible record in which no group is faulty
pub pairs_in_range_lem : (history : Record) → record_possible history ≡ true → ((g : ℕ) → g < 24 → Faultless (group_at history g))
    → pairs_in_range (map pair_of (all_groups history)) ≡ true
pairs_in_range_lem history e faultless =
    groups_in_range (all_groups history)
    (λ i h. let below : i < 24 = omega (arith, all_groups-length history) in rw (all_groups_at history i below) (possible_at history e i below))
    (λ i h. let below : i < 24 = omega (arith, all_groups-length history) in rw (all_groups_at history i below) (faultless i below))
