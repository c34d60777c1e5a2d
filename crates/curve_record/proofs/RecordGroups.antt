-- All that others know of a record: the group at the changed place and at any other, the groups in order, and the fresh record.
use Prim.Native.Nat.{ℕ, zero, suc, ◌+◌, ◌≤◌, ◌<◌}
use native.Mathlib.Omega.{arith}
use mathlib.Core.Bool.{Bool, true, false}
use mathlib.Core.Path.{◌≡◌, refl, ap, ◌∙◌}
use borrow.Author.Tests.{ltb-true, ltb-false}
use lib.Dec.{ltb}
use lib.ListN.{length, get_or, set, replicate, length-set, get_or-eq_default}
use lib.Seq.{set_out, get_or-set_same, get_or-set_other}
use Rattle.curve_record.specs.declared.Group.{Group}
use Rattle.curve_record.specs.declared.Record.{Record}
use Rattle.curve_record.specs.Record.{no_hours, group_at, with_group, fresh, groups_from, all_groups}

-- ---- how a record is held, for those who hold one

-- a record of twenty-four groups, as the code holds it
unfoldable pub Whole : Record → Type 0
Whole history = length history.groups ≡ 24

pub whole : (history : Record) → length history.groups ≡ 24 → Whole history
unfolding Whole
whole history l = l

pub whole_is : (history : Record) → Whole history → length history.groups ≡ 24
unfolding Whole
whole_is history l = l

pub fresh_held : fresh ≡ record { groups = replicate 24 no_hours }
unfolding fresh
fresh_held = refl

pub group_held : (history : Record) (g : ℕ) → group_at history g ≡ get_or history.groups g no_hours
unfolding group_at
group_held history g = refl

pub replaced_held : (history : Record) (g : ℕ) (changed : Group) → with_group history g changed ≡ record { groups = set history.groups g changed }
unfolding with_group
replaced_held history g changed = refl

-- from the record's end on nothing is replaced
pub replaced_past_the_end : (history : Record) (g : ℕ) (changed : Group) → Whole history → 24 ≤ g → with_group history g changed ≡ history
unfolding with_group Whole
replaced_past_the_end history g changed l h = rw (set_out history.groups g changed (omega arith))

pub group_past_the_end : (history : Record) (g : ℕ) → Whole history → 24 ≤ g → group_at history g ≡ no_hours
unfolding group_at Whole
group_past_the_end history g l h = get_or-eq_default history.groups no_hours (omega arith)

-- ---- a group replaced

pub group_changed : (history : Record) (g : ℕ) (changed : Group) → Whole history → g < 24 → group_at (with_group history g changed) g ≡ changed
unfolding group_at with_group Whole
group_changed history g changed l h = get_or-set_same history.groups g changed no_hours (omega arith)

pub group_elsewhere : (history : Record) (g k : ℕ) (changed : Group) → (k ≡ g → ⊥) → group_at (with_group history g changed) k ≡ group_at history k
unfolding group_at with_group
group_elsewhere history g k changed apart = get_or-set_other history.groups g k changed no_hours apart

-- the group at the place, whatever the record holds there
pub group_changed_or_kept :
    (history : Record) (g : ℕ) (changed : Group) (P : Group → Type 0) → P changed → P (group_at history g) → P (group_at (with_group history g changed) g)
unfolding group_at with_group
group_changed_or_kept history g changed P new old = go (ltb g (length history.groups)) refl
  where
    go : (inside : Bool) → ltb g (length history.groups) ≡ inside → P (get_or (set history.groups g changed) g no_hours)
    go true e = rw (get_or-set_same history.groups g changed no_hours (ltb-true g (length history.groups) e)) new
    go false e = rw (set_out history.groups g changed (ltb-false g (length history.groups) e)) old

pub whole_after : (history : Record) (g : ℕ) (changed : Group) → Whole history → Whole (with_group history g changed)
unfolding Whole with_group
whole_after history g changed l = length-set history.groups g changed ∙ l

-- ---- the fresh record

pub fresh_whole : Whole fresh
unfolding Whole fresh
fresh_whole = refl

pub fresh_group : (g : ℕ) → group_at fresh g ≡ no_hours
unfolding group_at fresh
fresh_group g = none 24 g
  where
    none : (n k : ℕ) → get_or (replicate n no_hours) k no_hours ≡ no_hours
    none zero k = refl
    none (suc n) zero = refl
    none (suc n) (suc k) = none n k

-- ---- the groups in order

from_length : (g n : ℕ) (history : Record) → length (groups_from g n history) ≡ n
unfolding groups_from
from_length g zero history = refl
from_length g (suc n) history = ap suc (from_length (suc g) n history)

from_at : (g n : ℕ) (history : Record) (k : ℕ) → k < n → get_or (groups_from g n history) k no_hours ≡ group_at history (g + k)
unfolding groups_from
from_at g zero history k h = absurd (omega arith)
from_at g (suc n) history zero h = let same : g + 0 ≡ g = omega arith in rw same
from_at g (suc n) history (suc k) h = let same : g + suc k ≡ suc g + k = omega arith in from_at (suc g) n history k (omega arith) ∙ rw same

pub all_groups-length : (history : Record) → length (all_groups history) ≡ 24
all_groups-length history = from_length 0 24 history

pub all_groups_at : (history : Record) (g : ℕ) → g < 24 → get_or (all_groups history) g no_hours ≡ group_at history g
all_groups_at history g h = from_at 0 24 history g h ∙ (let same : 0 + g ≡ g = omega arith in rw same)
