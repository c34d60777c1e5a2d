-- Two lists of bookings, the second with every hour-ahead reserve lower by the same d: the curves that settling gives have the same VOLL and X, and in the group
-- of any header that was read no higher mean and the same spread.
use Prim.Native.Nat.{ℕ, ◌≤◌, ◌<◌}
use native.Mathlib.Omega.{arith}
use mathlib.Core.Path.{◌≡◌}
use mathlib.Core.List.{List, map}
use lib.IntN.{ℤ, pos, nat_abs, ◌-ℤ◌}
use lib.ListN.{get_or}
use lib.Signed.{◌≤ℤ◌}
use Rattle.std.specs.Prelude.{Result, Ok}
use Rattle.curve_set.specs.declared.CurveSet.{CurveSet}
use Rattle.integer.proofs.Difference.{view, to_ℕ}
use Rattle.text_refusal.specs.declared.refusal.Refusal.{Refusal}
use Rattle.curve_group.specs.Season.{group_of}
use Rattle.curve_group.proofs.Season.{group_below}
use Rattle.curve_record.specs.Record.{fresh, group_at, all_groups}
use Rattle.curve_record.specs.Possible.{mean_of}
use Rattle.curve_settling.specs.Settle.{pair_of, Faultless, settled}
use Rattle.curve_settling.proofs.Settled.{pair_mean, pair_spread, pair_at}
use Rattle.curve.specs.FirstRefusal.{SettlingCase, unsettled_record, voll_outside, floor_outside, too_few_hours, no_spread, record_settled}
use Rattle.curve.specs.Lists.{booked_all, ListsLowered}
use Rattle.curve.proofs.FirstRefusal.{settling_is_refused_first}
use Rattle.curve.proofs.Shift.{lowered_errors_lower_means}
use Rattle.curve_record.specs.declared.Record.{Record}
use Rattle.curve_set.specs.declared.Pair.{Pair}
use Rattle.pricing_order.specs.Promises.{CurvesLowered}
use Rattle.pricing_sums.specs.declared.header.Header.{Header}
use Rattle.pricing_resource.specs.internal.Range.{Between}
use Rattle.pricing_sums.proofs.Headers.{HeaderInRange}

-- ---- an accepted settling

pub record SettledAs (history : Record) (voll floor : ℤ) (curves : CurveSet) : Type 0 where
  pub set : curves ≡ record { voll = voll; floor = floor; pairs = map pair_of (all_groups history) }
  pub faultless : (g : ℕ) → g < 24 → Faultless (group_at history g)

pub settled_as : (history : Record) (voll floor : ℤ) (curves : CurveSet) → settled history voll floor ≡ Ok curves → SettledAs history voll floor curves
settled_as history voll floor curves e = go (settling_is_refused_first history voll floor).applies e
  where
    go : {given : Result CurveSet Refusal} → SettlingCase history voll floor given → given ≡ Ok curves → SettledAs history voll floor curves
    go (unsettled_record p) e = cc
    go (voll_outside p v) e = cc
    go (floor_outside p v f) e = cc
    go (too_few_hours p v f g below earlier few) e = cc
    go (no_spread p v f g below earlier enough flat) e = cc
    go (record_settled p v f fine) e =
        let same : ◌≡◌ {A = CurveSet} curves (record { voll = voll; floor = floor; pairs = map pair_of (all_groups history) }) = cc in
        record { set = same; faultless = fine }

-- ---- the group of a header

hour_below : (z : ℤ) → Between (pos 0) (pos 23) z → nat_abs z ≤ 23
hour_below z = rw (view z) (simp to_ℕ (omega arith))

not_higher : (x : ℤ) (d : ℕ) → (x -ℤ pos d) ≤ℤ x
not_higher x d = rw (view x) (simp to_ℕ (omega arith))

-- what a settled set says of a group that it has
pub pair_settled :
    (texts : List (List ℕ)) (voll floor : ℤ) (curves : CurveSet) (g : ℕ) (d : Pair) → g < 24 → SettledAs (booked_all fresh texts) voll floor curves →
    (get_or curves.pairs g d ≡ pair_of (group_at (booked_all fresh texts) g)) × (0 < (group_at (booked_all fresh texts) g).count)
pair_settled texts voll floor curves g d h s =
    let two = (s.faultless g h).0 in
    (rw s.set (pair_at (booked_all fresh texts) g d h), omega arith)

pub curves_lowered :
    (d : ℕ) (texts texts' : List (List ℕ)) (voll floor : ℤ) (curves curves' : CurveSet) → ListsLowered d fresh fresh texts texts' →
    settled (booked_all fresh texts) voll floor ≡ Ok curves → settled (booked_all fresh texts') voll floor ≡ Ok curves' →
    (h : Header) → HeaderInRange h → CurvesLowered h curves curves'
curves_lowered d texts texts' voll floor curves curves' lists accepted accepted' h ranged =
    let g : ℕ = group_of (nat_abs h.month) (nat_abs h.hour) in
    let below = group_below (nat_abs h.month) (nat_abs h.hour) (hour_below h.hour ranged.hour) in
    let s = settled_as (booked_all fresh texts) voll floor curves accepted in
    let s' = settled_as (booked_all fresh texts') voll floor curves' accepted' in
    let p = pair_settled texts voll floor curves g (record { mean = pos 0; spread = pos 0 }) below s in
    let p' = pair_settled texts' voll floor curves' g (record { mean = pos 0; spread = pos 0 }) below s' in
    let same = (lowered_errors_lower_means d texts texts' lists g).1 p.1 in
    record {
      voll = rw (s.set, s'.set);
      floor = rw (s.set, s'.set);
      mean =
          rw (p.0, p'.0, pair_mean (group_at (booked_all fresh texts) g), pair_mean (group_at (booked_all fresh texts') g), same.0)
          (not_higher (mean_of (group_at (booked_all fresh texts) g)) d);
      spread = rw (p.0, p'.0, pair_spread (group_at (booked_all fresh texts) g), pair_spread (group_at (booked_all fresh texts') g), same.1);
    }
