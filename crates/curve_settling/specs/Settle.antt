-- Document 01, "History to curves": settling, which is document 01's term: from a record, given VOLL and X, the mean and the spread of each group as a curve
-- set.
use Rattle.text_refusal.specs.declared.refusal.Refusal.{Refusal}
use Rattle.std.specs.Prelude.{ℕ, suc, ◌/◌, ◌≤◌, ◌≡◌, List, [], ◌∷◌, map, ltb, eqb, ℤ, pos, nat_abs, cond, Result, Ok, Err}
use Rattle.root.specs.Root.{root_of}
use Rattle.text_refusal.specs.Answer.{Answer, refusal}
use Rattle.curve_record.specs.Possible.{mean_of, squares_around, record_possible}
use Rattle.curve_record.specs.Record.{all_groups}
use Rattle.curve_set.specs.Curves.{voll_in_range, floor_in_range, refused_curves}
use Rattle.curve_record.specs.declared.Group.{Group}
use Rattle.curve_record.specs.declared.Record.{Record}
use Rattle.curve_set.specs.declared.Pair.{Pair}
use Rattle.curve_set.specs.declared.CurveSet.{CurveSet}

-- sigma is the largest whole number whose square is at most floor(V / count)
unfoldable pub spread_of : Group → ℕ
spread_of g = root_of (nat_abs (squares_around g (mean_of g)) / g.count)

-- mu and sigma of a group
unfoldable pub pair_of : Group → Pair
pair_of g = record { mean = mean_of g; spread = pos (spread_of g) }

-- a group that 12 and 13 let pass: at least 2 hours, and sigma above 0
abbrev pub Faultless : Group → Type 0
Faultless g = (2 ≤ g.count) × (spread_of g ≡ 0 → ⊥)

-- the first faulty group, `index` groups standing before: 12 for fewer than 2 hours, then 13 for sigma 0
unfoldable pub settled_groups : ℕ → List Group → Answer
settled_groups index [] = Ok tt
settled_groups index (g ∷ groups) =
    cond (ltb g.count 2)
    (refusal 12 index)
    (cond (eqb (spread_of g) 0) (refusal 13 index) (settled_groups (suc index) groups))

-- the curves where no group is faulty
abbrev pub settled_set : CurveSet → Answer → Result CurveSet Refusal
settled_set curves (Ok accepted) = Ok curves
settled_set curves (Err found) = Err found

-- the curves of a record's groups
abbrev pub settled_curves : Record → ℤ → ℤ → Result CurveSet Refusal
settled_curves history voll floor =
    settled_set (record { voll = voll; floor = floor; pairs = map pair_of (all_groups history) }) (settled_groups 0 (all_groups history))

-- 1, then 7 for VOLL, then 7 for X, then the groups in order
unfoldable pub settled : Record → ℤ → ℤ → Result CurveSet Refusal
settled history voll floor =
    cond (record_possible history)
    (cond (voll_in_range voll)
    (cond (floor_in_range floor)
    (settled_curves history voll floor)
    (refused_curves 7 0))
    (refused_curves 7 0))
    (refused_curves 1 0)
