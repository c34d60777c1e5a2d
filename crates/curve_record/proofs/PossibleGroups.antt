-- What a group that is not impossible (1) has: small numbers, and squares around any x that are not negative.
use mathlib.Core.Path.{◌≡◌, refl, sym, ap, ◌∙◌}
use mathlib.Core.Bool.{Bool, true, false, ◌&&◌, ◌||◌, or-true}
use mathlib.Core.List.{List, [], ◌∷◌}
use Prim.Native.Nat.{ℕ, zero, suc, ◌+◌, ◌*◌, ◌≤◌, ◌<◌}
use native.Mathlib.Numerals.{add-one}
use native.Mathlib.Omega.{arith}
use borrow.Author.Tests.{leb-true, le-leb, eqb-true, eqb-false}
use lib.Dec.{eqb, leb}
use lib.IntN.{ℤ, pos, nat_abs, ◌+ℤ◌, ◌-ℤ◌, ◌*ℤ◌}
use lib.ListN.{length, get_or, drop, drop_of_length-le}
use lib.Seq.{drop-cons}
use Rattle.std.specs.List.{list_all}
use Rattle.std.proofs.lemmas.List.{ext_get_or}
use lib.Signed.{le_z, ◌≤ℤ◌}
use Rattle.integer.specs.Floor.{floor_div}
use Rattle.integer.specs.Range.{within}
use Rattle.integer.proofs.Difference.{view, to_ℕ}
use Rattle.integer.proofs.Order.{le_z-true, le-le_z, pos-≤ℤ}
use Rattle.integer.proofs.Ranges.{both}
use Rattle.integer.proofs.Floor.{floor_low, floor_high, floor_bound}
use Rattle.integer.proofs.Quadratic.{quadratic_none, quadratic_nonneg, quadratic_bound, quadratic-add}
use Rattle.curve_record.specs.declared.Group.{Group}
use Rattle.curve_record.specs.declared.Record.{Record}
use Rattle.curve_record.specs.Record.{no_hours, group_at, with_group, fresh, all_groups}
use Rattle.curve_record.specs.Possible.{mean_of, squares_around, not_negative, possible, all_possible, record_possible}
use Rattle.curve_record.specs.Squares.{squares_near}
use Rattle.curve_record.specs.internal.Small.{SmallGroup}
use Rattle.curve_record.proofs.RecordGroups.{group_held, group_elsewhere, group_changed_or_kept, fresh_group, all_groups-length, all_groups_at}

-- a group whose count, sum and squares are within their bounds
pub record GroupBounds (g : Group) : Type 0 where
  pub count : g.count ≤ 1000
  pub sum : nat_abs g.sum ≤ g.count * 20000000
  pub low : pos 0 ≤ℤ g.squares
  pub high : g.squares ≤ℤ pos (g.count * 400000000000000)

pub squares_bound : (g : Group) → GroupBounds g → nat_abs g.squares ≤ g.count * 400000000000000
squares_bound g small = go g.squares (g.count * 400000000000000) small.low small.high
  where
    go : (z : ℤ) (b : ℕ) → pos 0 ≤ℤ z → z ≤ℤ pos b → nat_abs z ≤ b
    go z b = rw (view z) (simp to_ℕ (omega arith))

pub bounds_small : (g : Group) → GroupBounds g → SmallGroup g
bounds_small g bounds = record { count = bounds.count; sum = omega arith; squares = omega (arith, squares_bound g bounds) }

pub mean_floor : (g : Group) → floor_div g.sum g.count ≡ mean_of g
unfolding mean_of
mean_floor g = refl

pub mean_bound : (g : Group) → GroupBounds g → nat_abs (mean_of g) ≤ 20000000
unfolding mean_of
mean_bound g small = floor_bound g.sum g.count 20000000 small.sum

pub record Possible (g : Group) : Type 0 where
  pub small : GroupBounds g
  pub around : (x : ℤ) → pos 0 ≤ℤ squares_around g x

-- the two tests of a group that has hours
abbrev pub tests : Group → Bool
tests g = not_negative (squares_around g (mean_of g)) && not_negative (squares_around g (mean_of g +ℤ pos 1))

-- the bounds of the sum and of the squares
abbrev pub bounded : Group → Bool
bounded g = leb (nat_abs g.sum) (g.count * 20000000) && within (pos 0) (pos (g.count * 400000000000000)) g.squares

-- of a group of few hours the bounds are left, and of one with hours the two tests
pub few_possible : (g : Group) → g.count ≤ 1000 → possible g ≡ bounded g && (eqb g.count 0 || tests g)
unfolding possible
few_possible g few =
    rw (le-leb g.count 1000 few)
    (regroup (leb (nat_abs g.sum) (g.count * 20000000)) (not_negative g.squares) (le_z g.squares (pos (g.count * 400000000000000)))
    (eqb g.count 0 || tests g))
  where
    regroup : (sum low high rest : Bool) → sum && (low && (high && rest)) ≡ (sum && (low && high)) && rest
    regroup false low high rest = refl
    regroup true false high rest = refl
    regroup true true high rest = refl

pub bounded_small : (g : Group) → g.count ≤ 1000 → bounded g ≡ true → GroupBounds g
bounded_small g few e =
    let sum = both _ _ e in
    let squares = both _ _ sum.1 in
    record { count = few; sum = leb-true _ _ sum.0; low = le_z-true _ _ squares.0; high = le_z-true _ _ squares.1 }

small_bounded : (g : Group) → GroupBounds g → bounded g ≡ true
small_bounded g small = rw (le-leb (nat_abs g.sum) (g.count * 20000000) small.sum, le-le_z small.low, le-le_z small.high)

-- the two tests next to the mean are enough for every x
pub tests_all : (g : Group) → 0 < g.count → tests g ≡ true → (x : ℤ) → pos 0 ≤ℤ squares_around g x
unfolding squares_around mean_of
tests_all g some e =
    let parts = both (not_negative (squares_around g (mean_of g))) (not_negative (squares_around g (mean_of g +ℤ pos 1))) e in
    quadratic_nonneg g.sum g.squares (pos g.count) (floor_div g.sum g.count) (floor_low g.sum g.count some)
    (floor_high g.sum g.count some) (le_z-true _ _ parts.0) (le_z-true _ _ parts.1)

-- a group of no hours has no squares
none_around : (g : Group) → GroupBounds g → g.count ≡ 0 → (x : ℤ) → pos 0 ≤ℤ squares_around g x
unfolding squares_around
none_around g small none x = rw (none, zero g.sum (omega (arith, small.sum)), quadratic_none g.squares x) small.low
  where
    zero : (s : ℤ) → nat_abs s ≤ 0 → s ≡ pos 0
    zero s = rw (view s) (simp to_ℕ (omega arith))

count_few : (g : Group) → possible g ≡ true → g.count ≤ 1000
unfolding possible
count_few g e = leb-true _ _ (both _ _ e).0

pub possible_is : (g : Group) → possible g ≡ true → Possible g
possible_is g e =
    let few = count_few g e in
    let parts = both _ _ (sym (few_possible g few) ∙ e) in
    let small = bounded_small g few parts.0 in
    record { small = small; around = go small (eqb g.count 0) refl parts.1 }
  where
    go : GroupBounds g → (none : Bool) → eqb g.count 0 ≡ none → none || tests g ≡ true → (x : ℤ) → pos 0 ≤ℤ squares_around g x
    go small true n e = none_around g small (eqb-true g.count 0 n)
    go small false n e = tests_all g (omega (arith, eqb-false g.count 0 n)) e

pub is_possible : (g : Group) → Possible g → possible g ≡ true
is_possible g p =
    few_possible g p.small.count
    ∙ rw (small_bounded g p.small, le-le_z (p.around (mean_of g)), le-le_z (p.around (mean_of g +ℤ pos 1)), or-true (eqb g.count 0))

-- V of a group with one error more
pub squares_more : (g : Group) (e x : ℤ)
    → squares_around (record { count = g.count + 1; sum = g.sum +ℤ e; squares = g.squares +ℤ e *ℤ e }) x ≡ squares_around g x +ℤ (e -ℤ x) *ℤ (e -ℤ x)
unfolding squares_around
squares_more g e x = quadratic-add g.sum g.squares (pos g.count) x e

-- ---- mu and V of a possible group

-- V is at most a little above the squares
pub squares_at_mean : (g : Group) → Possible g → 0 < g.count → nat_abs (squares_around g (mean_of g)) ≤ g.count * 400000000000001
unfolding squares_around mean_of
squares_at_mean g p some =
    omega (
      arith,
      small (squares_around g (mean_of g)) g.squares g.count (g.count * 400000000000000) (p.around (mean_of g))
          (quadratic_bound g.sum g.squares (pos g.count) (mean_of g) ((pos-≤ℤ 0 g.count).1 (omega arith))
          (floor_low g.sum g.count some) (floor_high g.sum g.count some)) p.small.high,
    )
  where
    small : (v q : ℤ) (n b : ℕ) → pos 0 ≤ℤ v → v ≤ℤ (q +ℤ pos n) → q ≤ℤ pos b → nat_abs v ≤ b + n
    small v q n b = rw (view v, view q) (simp to_ℕ (omega arith))

-- V of a possible group around its mean is what `squares_near` gives
pub squares_near_mean : (g : Group) → Possible g → squares_near g (mean_of g) ≡ squares_around g (mean_of g)
unfolding squares_near
squares_near_mean g p =
    let small = bounds_small g p.small in
    rw (
      le-leb g.count 1000 small.count,
      le-leb (nat_abs g.sum) 20000000000 small.sum,
      le-leb (nat_abs g.squares) 400000000000000000 small.squares,
      le-leb (nat_abs (mean_of g)) 20000001 (omega (arith, mean_bound g p.small)),
    )

-- ---- a record's groups

-- a group of no hours is possible
pub none_possible : possible no_hours ≡ true
unfolding possible
none_possible = refl

pub possible_step : (groups : List Group) (i : ℕ) → i < length groups
    → all_possible (drop i groups) ≡ possible (get_or groups i no_hours) && all_possible (drop (i + 1) groups)
unfolding all_possible
possible_step groups i h = rw (add-one, drop-cons groups i no_hours)

pub possible_end : (groups : List Group) (i : ℕ) → length groups ≤ i → all_possible (drop i groups) ≡ true
unfolding all_possible
possible_end groups i h = rw (drop_of_length-le groups h)

pub possible_each : (groups : List Group) → all_possible groups ≡ true → (i : ℕ) → possible (get_or groups i no_hours) ≡ true
unfolding all_possible
possible_each [] e i = none_possible
possible_each (g ∷ groups) e zero = (both (possible g) (all_possible groups) e).0
possible_each (g ∷ groups) e (suc i) = possible_each groups (both (possible g) (all_possible groups) e).1 i

each_possible : (groups : List Group) → ((i : ℕ) → i < length groups → possible (get_or groups i no_hours) ≡ true) → all_possible groups ≡ true
unfolding all_possible
each_possible [] each = refl
each_possible (g ∷ groups) each = rw (each 0 (omega arith)) (each_possible groups (λ i h. each (suc i) (omega arith)))

module _ (history : Record) where
  pub record_groups : record_possible history ≡ all_possible (all_groups history)
  unfolding record_possible
  record_groups = refl

  -- each group of a possible record is possible
  pub possible_at : record_possible history ≡ true → (g : ℕ) → g < 24 → possible (group_at history g) ≡ true
  unfolding record_possible
  possible_at e g h = rw (all_groups_at history g h) at (possible_each (all_groups history) e g)

  -- a record whose groups are possible is possible
  pub possible_all : ((g : ℕ) → g < 24 → possible (group_at history g) ≡ true) → record_possible history ≡ true
  unfolding record_possible
  possible_all each =
      each_possible (all_groups history) (λ g h. let below : g < 24 = omega (arith, all_groups-length history) in rw (all_groups_at history g below) (each g below))

-- a possible group in the place of one
pub possible-with_group : (history : Record) (g : ℕ) (changed : Group) → record_possible history ≡ true → (g < 24 → possible changed ≡ true)
    → record_possible (with_group history g changed) ≡ true
possible-with_group history g changed e new = possible_all (with_group history g changed) (λ k h. go k h (eqb k g) refl)
  where
    go : (k : ℕ) → k < 24 → (same : Bool) → eqb k g ≡ same → possible (group_at (with_group history g changed) k) ≡ true
    go k h false s = rw (group_elsewhere history g k changed (eqb-false k g s)) (possible_at history e k h)
    go k h true s =
        let at_place : k ≡ g = eqb-true k g s in
        let below : g < 24 = omega arith in
        rw at_place (group_changed_or_kept history g changed (λ group. possible group ≡ true) (new below) (possible_at history e g below))

pub fresh-possible : record_possible fresh ≡ true
fresh-possible = possible_all fresh (λ g h. rw (fresh_group g) none_possible)

-- the groups that a record holds decide
list_all_possible : (groups : List Group) → list_all possible groups ≡ all_possible groups
unfolding all_possible
list_all_possible [] = refl
list_all_possible (g ∷ groups) = ap (λ (rest : Bool). possible g && rest) (list_all_possible groups)

pub record_possible_held : (history : Record) → length history.groups ≡ 24 → list_all possible history.groups ≡ record_possible history
unfolding record_possible
record_possible_held history size = list_all_possible history.groups
    ∙ ap all_possible (ext_get_or no_hours history.groups (all_groups history) (size ∙ sym (all_groups-length history)) same)
  where
    same : (g : ℕ) → g < length history.groups → get_or history.groups g no_hours ≡ get_or (all_groups history) g no_hours
    same g h = rw (group_held history g) at (sym (all_groups_at history g (omega arith)))
