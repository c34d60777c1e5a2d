-- What settling gives, case by case, and what a settled pair holds.
use Prim.Native.Nat.{ℕ, zero, suc, ◌+◌, ◌/◌, ◌≤◌, ◌<◌}
use native.Mathlib.Omega.{arith}
use mathlib.Core.Bool.{true, false}
use mathlib.Core.List.{List, [], ◌∷◌, map}
use mathlib.Core.Path.{◌≡◌, refl, ap, ap₂, ◌∙◌}
use borrow.Author.Tests.{lt-ltb, le-ltb, eq-eqb, ne_eqb}
use lib.IntN.{ℤ, pos, nat_abs}
use lib.ListN.{length, get_or, drop, length-map, drop_of_length-le}
use lib.Seq.{drop-cons}
use Rattle.std.specs.Prelude.{Ok}
use Rattle.root.specs.Root.{root_of}
use Rattle.curve_record.specs.declared.Group.{Group}
use Rattle.curve_record.specs.declared.Record.{Record}
use Rattle.curve_set.specs.declared.Pair.{Pair}
use Rattle.text_refusal.specs.Answer.{refusal}
use Rattle.curve_set.specs.Curves.{voll_in_range, floor_in_range, refused_curves}
use Rattle.curve_record.specs.Record.{no_hours, group_at, all_groups}
use Rattle.curve_record.specs.Possible.{mean_of, squares_around, record_possible}
use Rattle.curve_settling.specs.Settle.{spread_of, pair_of, Faultless, settled_groups, settled}
use Rattle.curve_record.proofs.RecordGroups.{all_groups-length, all_groups_at}

-- ---- mu and sigma of a group

pub pair_mean : (g : Group) → (pair_of g).mean ≡ mean_of g
unfolding pair_of
pair_mean g = refl

pub pair_spread : (g : Group) → (pair_of g).spread ≡ pos (spread_of g)
unfolding pair_of
pair_spread g = refl

-- the same V over as many hours gives the same sigma
pub same_spread :
    (first second : Group) → second.count ≡ first.count → squares_around second (mean_of second) ≡ squares_around first (mean_of first) → spread_of second ≡ spread_of first
unfolding spread_of
same_spread first second count squares = ap₂ (λ (v : ℤ) (n : ℕ). root_of (nat_abs v / n)) squares count

-- the pair of a group among those of a record
pub pair_at : (history : Record) (g : ℕ) (none : Pair) → g < 24 → get_or (map pair_of (all_groups history)) g none ≡ pair_of (group_at history g)
pair_at history g none h = at_place (all_groups history) g (omega (arith, all_groups-length history)) ∙ ap pair_of (all_groups_at history g h)
  where
    at_place : (groups : List Group) (g : ℕ) → g < length groups → get_or (map pair_of groups) g none ≡ pair_of (get_or groups g no_hours)
    at_place [] g h = absurd (omega arith)
    at_place (one ∷ groups) zero h = refl
    at_place (one ∷ groups) (suc g) h = at_place groups g (omega arith)

pub pairs_length : (history : Record) → length (map pair_of (all_groups history)) ≡ 24
pairs_length history = length-map (all_groups history) pair_of ∙ all_groups-length history

-- ---- the first faulty group

-- faultless groups are passed
passed_over : (index i : ℕ) (groups : List Group) → i ≤ length groups → ((k : ℕ) → k < i → Faultless (get_or groups k no_hours))
    → settled_groups index groups ≡ settled_groups (index + i) (drop i groups)
unfolding settled_groups
passed_over index zero groups h fine = let same : index + 0 ≡ index = omega arith in rw same
passed_over index (suc i) [] h fine = absurd (omega arith)
passed_over index (suc i) (g ∷ groups) h fine =
    let first = fine 0 (omega arith) in
    let on : suc index + i ≡ index + suc i = omega arith in
    rw (le-ltb g.count 2 first.0, ne_eqb (spread_of g) 0 first.1, ← on)
    (passed_over (suc index) i groups (omega arith) (λ k below. fine (suc k) (omega arith)))

module _ (history : Record) (g : ℕ) (below : g < 24) (earlier : (k : ℕ) → k < g → Faultless (group_at history k)) where
  earlier_pass : settled_groups 0 (all_groups history) ≡ settled_groups g (group_at history g ∷ drop (suc g) (all_groups history))
  earlier_pass =
      let groups = all_groups history in
      let inside : g < length groups = omega (arith, all_groups-length history) in
      let start : 0 + g ≡ g = omega arith in
      passed_over 0 g groups (omega arith)
      (λ k h. let k_below : k < 24 = omega arith in rw (all_groups_at history k k_below) (earlier k h))
      ∙ rw (start, drop-cons groups g no_hours inside, all_groups_at history g below)

  groups_few : (group_at history g).count < 2 → settled_groups 0 (all_groups history) ≡ refusal 12 g
  unfolding settled_groups
  groups_few few = earlier_pass ∙ rw (lt-ltb (group_at history g).count 2 few)

  groups_flat : 2 ≤ (group_at history g).count → spread_of (group_at history g) ≡ 0 → settled_groups 0 (all_groups history) ≡ refusal 13 g
  unfolding settled_groups
  groups_flat enough flat = earlier_pass ∙ rw (le-ltb (group_at history g).count 2 enough, eq-eqb (spread_of (group_at history g)) 0 flat)

groups_accepted : (history : Record) → ((g : ℕ) → g < 24 → Faultless (group_at history g)) → settled_groups 0 (all_groups history) ≡ Ok tt
unfolding settled_groups
groups_accepted history fine =
    let groups = all_groups history in
    passed_over 0 24 groups (omega (arith, all_groups-length history)) (λ k h. rw (all_groups_at history k h) (fine k h))
    ∙ rw (drop_of_length-le groups {i = 24} (omega (arith, all_groups-length history)))

-- ---- settling

module _ (history : Record) (voll floor : ℤ) where
  pub settled_impossible : record_possible history ≡ false → settled history voll floor ≡ refused_curves 1 0
  unfolding settled
  settled_impossible e = rw e

  module _ (possible : record_possible history ≡ true) where
    pub settled_voll : voll_in_range voll ≡ false → settled history voll floor ≡ refused_curves 7 0
    unfolding settled
    settled_voll e = rw (possible, e)

    module _ (voll_in : voll_in_range voll ≡ true) where
      pub settled_floor : floor_in_range floor ≡ false → settled history voll floor ≡ refused_curves 7 0
      unfolding settled
      settled_floor e = rw (possible, voll_in, e)

      module _ (floor_in : floor_in_range floor ≡ true) where
        module _ (g : ℕ) (below : g < 24) (earlier : (k : ℕ) → k < g → Faultless (group_at history k)) where
          pub settled_few : (group_at history g).count < 2 → settled history voll floor ≡ refused_curves 12 g
          unfolding settled
          settled_few few = rw (possible, voll_in, floor_in, groups_few history g below earlier few)

          pub settled_flat : 2 ≤ (group_at history g).count → spread_of (group_at history g) ≡ 0 → settled history voll floor ≡ refused_curves 13 g
          unfolding settled
          settled_flat enough flat = rw (possible, voll_in, floor_in, groups_flat history g below earlier enough flat)

        pub settled_accepted :
            ((g : ℕ) → g < 24 → Faultless (group_at history g)) →
            settled history voll floor ≡ Ok (record { voll = voll; floor = floor; pairs = map pair_of (all_groups history) })
        unfolding settled
        settled_accepted fine = rw (possible, voll_in, floor_in, groups_accepted history fine)
