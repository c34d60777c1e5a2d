-- Two records of which the second has every error lower by the same d: each mean falls by d and each V stays.
use mathlib.Core.Path.{◌≡◌, refl}
use mathlib.Core.Bool.{Bool, true, false}
use Prim.Native.Nat.{ℕ, ◌<◌}
use native.Mathlib.Omega.{arith}
use borrow.Author.Tests.{eqb-true, eqb-false, ltb-true, ltb-false}
use lib.Dec.{eqb, ltb}
use lib.IntN.{pos, ◌+ℤ◌, ◌-ℤ◌, ◌*ℤ◌}
use Rattle.integer.proofs.Difference.{to_ℕ}
use Rattle.integer.proofs.Floor.{floor_shift}
use Rattle.integer.proofs.Quadratic.{quadratic_shift}
use Rattle.curve_record.specs.declared.Group.{Group}
use Rattle.curve_record.specs.declared.Record.{Record}
use Rattle.curve_record.specs.Record.{no_hours, group_at, with_group, fresh}
use Rattle.curve_record.specs.Possible.{mean_of, squares_around}
use Rattle.curve_record.proofs.RecordGroups.{Whole, whole_after, replaced_past_the_end, group_changed, group_elsewhere, fresh_whole, fresh_group}

-- ---- one group: every error of the second is lower by d

pub record Lowered (d : ℕ) (first second : Group) : Type 0 where
  pub count : second.count ≡ first.count
  pub sum : second.sum ≡ first.sum -ℤ pos first.count *ℤ pos d
  pub squares : second.squares ≡ first.squares -ℤ pos 2 *ℤ (pos d *ℤ first.sum) +ℤ pos first.count *ℤ (pos d *ℤ pos d)

module _ (d : ℕ) (first second : Group) (l : Lowered d first second) (some : 0 < first.count) where
  pub lowered_mean : mean_of second ≡ mean_of first -ℤ pos d
  unfolding mean_of
  lowered_mean = rw (l.sum, l.count) (floor_shift first.sum (pos d) first.count some)

  pub lowered_squares : squares_around second (mean_of second) ≡ squares_around first (mean_of first)
  unfolding squares_around
  lowered_squares =
      rw (
        lowered_mean,
        l.sum,
        l.squares,
        l.count,
        quadratic_shift first.sum first.squares (pos first.count) (mean_of first) (pos d),
      )

lowered_none : (d : ℕ) → Lowered d no_hours no_hours
lowered_none d = record { count = refl; sum = simp to_ℕ (omega arith); squares = simp to_ℕ (omega arith) }

-- ---- two records

pub record LoweredRecord (d : ℕ) (first second : Record) : Type 0 where
  pub whole : Whole first
  pub whole' : Whole second
  pub at_each : (g : ℕ) → Lowered d (group_at first g) (group_at second g)

-- the same group replaced in each
pub lowered_with_group : (d : ℕ) (first second : Record) (g : ℕ) (changed changed' : Group) → LoweredRecord d first second → Lowered d changed changed'
    → LoweredRecord d (with_group first g changed) (with_group second g changed')
lowered_with_group d first second g changed changed' l c =
    record {
      whole = whole_after first g changed l.whole;
      whole' = whole_after second g changed' l.whole';
      at_each = λ k. go k (eqb k g) refl (ltb g 24) refl;
    }
  where
    go : (k : ℕ) (same : Bool) → eqb k g ≡ same → (inside : Bool) → ltb g 24 ≡ inside
        → Lowered d (group_at (with_group first g changed) k) (group_at (with_group second g changed') k)
    go k false s inside i =
        rw (group_elsewhere first g k changed (eqb-false k g s), group_elsewhere second g k changed' (eqb-false k g s)) (l.at_each k)
    go k true s true i =
        let below = ltb-true g 24 i in
        rw (eqb-true k g s, group_changed first g changed l.whole below, group_changed second g changed' l.whole' below) c
    go k true s false i =
        let over = ltb-false g 24 i in
        rw (replaced_past_the_end first g changed l.whole over, replaced_past_the_end second g changed' l.whole' over) (l.at_each k)

pub fresh_lowered : (d : ℕ) → LoweredRecord d fresh fresh
fresh_lowered d = record { whole = fresh_whole; whole' = fresh_whole; at_each = λ g. rw (fresh_group g) (lowered_none d) }
