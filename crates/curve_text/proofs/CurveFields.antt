-- The schema of a curve text is sound, and a curve set in range fits it.
use Prim.Native.Nat.{ℕ, zero, suc}
use native.Mathlib.Omega.{arith}
use mathlib.Core.Bool.{true}
use mathlib.Core.List.{List, [], ◌∷◌}
use mathlib.Core.Path.{◌≡◌, refl}
use lib.IntN.{ℤ}
use lib.ListN.{length}
use Rattle.text_refusal.specs.Bytes.{bytes}
use Rattle.text_schema.specs.Schema.{repeated}
use Rattle.text.specs.Promises.{Sound, AllSound, none_sound, one_sound, AllFitting, none_fitting, one_fitting, Fitting}
use Rattle.text.proofs.Values.{numbers_are_sound, numbers_in_range_fit, sound_repeated}
use Rattle.text_line.proofs.LineBytes.{no_line_end, one_line}
use Rattle.text_schema.proofs.Fields.{repeated_none, repeated_more}
use Rattle.curve_set.specs.Curves.{Range, voll_range, floor_range, mean_range, spread_range, lies_in, pairs_in_range, curves_in_range}
use Rattle.curve_set.specs.CurveValues.{pair_values, curve_values}
use Rattle.curve_set.specs.declared.Pair.{Pair}
use Rattle.curve_set.specs.declared.CurveSet.{CurveSet}
use Rattle.curve_set.proofs.CurveValues.{values_in_order, no_pair_values, more_pair_values}
use Rattle.curve_set.proofs.InRange.{lies_low, lies_high, pair_range, first_in_range, rest_in_range, in_range_voll, in_range_floor, in_range_pairs}
use Rattle.curve_text.specs.CurveText.{ranged_field, pair_fields, curve_fields}

-- ---- the schema is sound

sound : (key : List ℕ) (range : Range) → no_line_end key ≡ true → Sound (ranged_field key range)
sound key range e = numbers_are_sound key range.low range.high (one_line key e)

pairs_sound : (n : ℕ) → AllSound (repeated n pair_fields)
pairs_sound n = sound_repeated n pair_fields (one_sound (sound (bytes "mu=") mean_range refl) (one_sound (sound (bytes "sigma=") spread_range refl) none_sound))

pub curves_sound : AllSound curve_fields
unfolding curve_fields
curves_sound = one_sound (sound (bytes "voll=") voll_range refl) (one_sound (sound (bytes "floor=") floor_range refl) (pairs_sound 24))

-- ---- a set in range fits it

fits : (key : List ℕ) (range : Range) (z : ℤ) → lies_in range z ≡ true → Fitting (ranged_field key range) z
fits key range z e = numbers_in_range_fit key range.low range.high z (lies_low range z e) (lies_high range z e)

pairs_fit : (n : ℕ) (pairs : List Pair) → length pairs ≡ n → pairs_in_range pairs ≡ true → AllFitting (repeated n pair_fields) (pair_values pairs)
pairs_fit zero [] l e = rw (repeated_none pair_fields, no_pair_values) none_fitting
pairs_fit zero (pair ∷ pairs) l e = absurd (omega arith)
pairs_fit (suc n) [] l e = absurd (omega arith)
pairs_fit (suc n) (pair ∷ pairs) l e =
    let r = pair_range pair (first_in_range pair pairs e) in
    rw (repeated_more pair_fields n, more_pair_values pair pairs)
    (one_fitting (fits (bytes "mu=") mean_range pair.mean r.mean)
    (one_fitting (fits (bytes "sigma=") spread_range pair.spread r.spread) (pairs_fit n pairs (omega arith) (rest_in_range pair pairs e))))

pub curves_fit : (curves : CurveSet) → length curves.pairs ≡ 24 → curves_in_range curves ≡ true → AllFitting curve_fields (curve_values curves)
unfolding curve_fields
curves_fit curves l e =
    rw (values_in_order curves)
    (one_fitting (fits (bytes "voll=") voll_range curves.voll (in_range_voll curves e))
    (one_fitting (fits (bytes "floor=") floor_range curves.floor (in_range_floor curves e)) (pairs_fit 24 curves.pairs l (in_range_pairs curves e))))
