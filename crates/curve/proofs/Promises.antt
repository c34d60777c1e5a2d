-- The named statements whose proofs are laws of the crates below.
use mathlib.Core.Bool.{true}
use mathlib.Core.List.{map}
use mathlib.Core.Path.{◌≡◌, sym, ap, ◌∙◌}
use lib.IntN.{ℤ}
use lib.ListN.{length}
use Rattle.std.specs.Prelude.{Result, Ok}
use Rattle.text_refusal.specs.declared.refusal.Refusal.{Refusal}
use Rattle.curve_set.specs.declared.CurveSet.{CurveSet}
use Rattle.curve_set.specs.Curves.{curves_in_range}
use Rattle.curve_set.proofs.InRange.{set_in_range}
use Rattle.curve_record.specs.Record.{all_groups}
use Rattle.curve_record.specs.declared.Record.{Record}
use Rattle.curve_settling.specs.Settle.{pair_of, settled}
use Rattle.curve_settling.proofs.Range.{pairs_in_range_lem}
use Rattle.curve_settling.proofs.Settled.{pairs_length}
use Rattle.curve_probability.proofs.ProbabilityOrder.{online_never_rises, offline_never_rises}
use Rattle.curve.specs.FirstRefusal.{SettlingCase, unsettled_record, voll_outside, floor_outside, too_few_hours, no_spread, record_settled}
use Rattle.curve.specs.Promises.{SettledCurvesAreInRange, ProbabilitiesNeverRise}
use Rattle.curve.proofs.FirstRefusal.{settling_is_refused_first}

pub settled_curves_are_in_range : SettledCurvesAreInRange
settled_curves_are_in_range history voll floor curves e = go (settling_is_refused_first history voll floor).applies e
  where
    go : {given : Result CurveSet Refusal} → SettlingCase history voll floor given → given ≡ Ok curves → curves_in_range curves ≡ true
    go (unsettled_record p) a = cc
    go (voll_outside p v) a = cc
    go (floor_outside p v f) a = cc
    go (too_few_hours p v f g below earlier few) a = cc
    go (no_spread p v f g below earlier enough flat) a = cc
    go (record_settled p v f fine) a =
        let same : ◌≡◌ {A = CurveSet} (record { voll = voll; floor = floor; pairs = map pair_of (all_groups history) }) curves = cc in
        rw same at (set_in_range voll floor (map pair_of (all_groups history)) v f (pairs_in_range_lem history p fine))

-- a settled curve set has twenty-four pairs
pub settled-length : (history : Record) (voll floor : ℤ) (curves : CurveSet) → settled history voll floor ≡ Ok curves → length curves.pairs ≡ 24
settled-length history voll floor curves e = go (settling_is_refused_first history voll floor).applies e
  where
    go : {given : Result CurveSet Refusal} → SettlingCase history voll floor given → given ≡ Ok curves → length curves.pairs ≡ 24
    go (unsettled_record p) a = cc
    go (voll_outside p v) a = cc
    go (floor_outside p v f) a = cc
    go (too_few_hours p v f g below earlier few) a = cc
    go (no_spread p v f g below earlier enough flat) a = cc
    go (record_settled p v f fine) a =
        let same : ◌≡◌ {A = CurveSet} (record { voll = voll; floor = floor; pairs = map pair_of (all_groups history) }) curves = cc in
        sym (ap (λ (set : CurveSet). length set.pairs) same) ∙ pairs_length history

pub probabilities_never_rise : ProbabilitiesNeverRise
probabilities_never_rise = (online_never_rises, offline_never_rises)
