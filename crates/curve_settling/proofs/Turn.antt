-- A turn over the groups of a record: the group at hand decides, or the groups left after it do. The group is as the code holds it.
use Prim.Native.Nat.{ℕ, ◌+◌, ◌≤◌, ◌<◌}
use native.Mathlib.Numerals.{add-one}
use mathlib.Core.Bool.{cond}
use mathlib.Core.List.{List, map}
use mathlib.Core.Path.{◌≡◌, ◌∙◌}
use borrow.Author.Tests.{lt-ltb, le-ltb, eq-eqb, ne_eqb}
use lib.Dec.{ltb, eqb}
use lib.IntN.{ℤ}
use lib.ListN.{length, get_or, take, drop, set, length-map, get_or-map}
use lib.Seq.{drop-cons, take-suc, take-suc-set}
use Rattle.text_refusal.specs.Answer.{refusal}
use Rattle.curve_record.specs.declared.Group.{Group}
use Rattle.curve_record.specs.declared.Record.{Record}
use Rattle.curve_record.specs.Record.{no_hours, all_groups}
use Rattle.curve_record.proofs.RecordGroups.{group_held, all_groups-length, all_groups_at}
use Rattle.curve_record.proofs.Turns.{turn_within}
use Rattle.curve_set.specs.declared.Pair.{Pair}
use Rattle.curve_set.specs.Curves.{refused_curves}
use Rattle.curve_settling.specs.Settle.{spread_of, pair_of, settled_groups, settled_curves}

abbrev pub held : Record → ℕ → Group
held history i = get_or history.groups i no_hours

in_order : (history : Record) (i : ℕ) → i < 24 → get_or (all_groups history) i no_hours ≡ held history i
in_order history i h = all_groups_at history i h ∙ group_held history i

-- the first of the groups left
step : (history : Record) (i : ℕ) → i < 24 →
    settled_groups i (drop i (all_groups history))
    ≡ cond (ltb (held history i).count 2) (refusal 12 i) (cond (eqb (spread_of (held history i)) 0) (refusal 13 i) (settled_groups (i + 1) (drop (i + 1) (all_groups history))))
unfolding settled_groups
step history i h =
    let groups = all_groups history in
    rw (add-one i, drop-cons groups i no_hours (turn_within h (all_groups-length history)), in_order history i h)

-- fewer than 2 hours
pub too_few : (history : Record) (voll floor : ℤ) (i : ℕ) → i < 24
    → settled_groups 0 (all_groups history) ≡ settled_groups i (drop i (all_groups history)) → (held history i).count < 2
    → refused_curves 12 i ≡ settled_curves history voll floor
too_few history voll floor i h left few = rw (left ∙ step history i h, lt-ltb (held history i).count 2 few)

-- a spread of 0
pub flat : (history : Record) (voll floor : ℤ) (i : ℕ) → i < 24
    → settled_groups 0 (all_groups history) ≡ settled_groups i (drop i (all_groups history)) → 2 ≤ (held history i).count → spread_of (held history i) ≡ 0
    → refused_curves 13 i ≡ settled_curves history voll floor
flat history voll floor i h left enough none =
    rw (left ∙ step history i h, le-ltb (held history i).count 2 enough, eq-eqb (spread_of (held history i)) 0 none)

-- a group that passes
pub fine : (history : Record) (i : ℕ) → i < 24
    → settled_groups 0 (all_groups history) ≡ settled_groups i (drop i (all_groups history)) → 2 ≤ (held history i).count → (spread_of (held history i) ≡ 0 → ⊥)
    → settled_groups 0 (all_groups history) ≡ settled_groups (i + 1) (drop (i + 1) (all_groups history))
fine history i h left enough some =
    left ∙ step history i h ∙ rw (le-ltb (held history i).count 2 enough, ne_eqb (spread_of (held history i)) 0 some)

-- one more pair
pub pair_more : (history : Record) (pairs : List Pair) (i : ℕ) → i < 24 → i < length pairs
    → take i pairs ≡ take i (map pair_of (all_groups history)) → take (i + 1) (set pairs i (pair_of (held history i))) ≡ take (i + 1) (map pair_of (all_groups history))
pair_more history pairs i h k e =
    let groups = all_groups history in
    let within : i < length (map pair_of groups) = rw (length-map groups pair_of) (turn_within h (all_groups-length history)) in
    rw (
      add-one i,
      take-suc-set pairs i (pair_of (held history i)) k,
      take-suc (map pair_of groups) i (pair_of no_hours) within,
      get_or-map pair_of groups i no_hours,
      in_order history i h,
      e,
    )
