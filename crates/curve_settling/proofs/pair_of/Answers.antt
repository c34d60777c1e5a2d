-- The mean is mu, V is the sum of squares around it, and the root of their quotient is sigma. What fits does so for any number that V is taken around, and any
-- divisor.
use Rattle.std.proofs.Common.{◌≡◌, ℕ, true, false, cond, Bool, ◌≤◌, ◌∙◌, rules, arith, to_z-of_z}
use Rattle.std.proofs.lemmas.Int.{ints, to_z_pos}
use lib.IntN.{ℤ, pos, nat_abs}
use lib.Signed.{◌≤ℤ◌}
use mir.Syntax.{w64}
use mir.Val.{SFits, to_z, of_z}
use Rattle.integer.specs.Floor.{floor_div}
use Rattle.integer.proofs.Bounds.{abs_fits, fits_abs}
use Rattle.integer.proofs.Floor.{floor_nonneg, floor_magnitude}
use Rattle.integer.proofs.Signed.{cast_asks}
use Rattle.root.specs.Root.{root_of}
use Rattle.root.proofs.SquareRoot.{root_is, root_le}
use Rattle.curve_record.specs.declared.Group.{Group}
use Rattle.curve_record.specs.Possible.{mean_of, squares_around, possible}
use Rattle.curve_record.specs.Squares.{is_near, squares_near}
use Rattle.curve_record.proofs.PossibleGroups.{possible_is, mean_floor, squares_near_mean}
use Rattle.curve_settling.specs.Settle.{spread_of, pair_of}
use Rattle.curve_settling.proofs.pair_of.Goals as goal

near_nonneg : (g : Group) (x : ℤ) {v : ℤ} → possible g ≡ true → v ≡ squares_near g x → pos 0 ≤ℤ v
unfolding squares_near
near_nonneg g x is_possible e = rw e (go (is_near g x))
  where
    go : (near : Bool) → pos 0 ≤ℤ cond near (squares_around g x) (pos 0)
    go true = (possible_is g is_possible).around x
    go false = omega (arith, ints)

quotient_nonneg : (n : ℕ) {v variance : ℤ} → SFits w64 v → pos 0 ≤ℤ v → variance ≡ floor_div (to_z w64 (of_z w64 v)) n → pos 0 ≤ℤ variance
quotient_nonneg n {v} fits nonneg e = rw (e, to_z-of_z fits) (floor_nonneg v n nonneg)

root_small : {z : ℤ} {root : ℕ} → SFits w64 z → root ≡ root_of (nat_abs z) → root ≤ 4294967296
root_small {z} {root} fits e =
    rw e (root_le (nat_abs z) 18446744073709551616 (root_of (nat_abs z)) 4294967296 (omega (arith, fits_abs)) (root_is (nat_abs z)).0 (omega arith))

pub overflow_cast-floor_div : goal.overflow_cast-floor_div
overflow_cast-floor_div c =
    let v-fits : SFits w64 c.squares_near-v.result = search rules in
    let fits : SFits w64 c.floor_div.result = search rules in
    cast_asks c.floor_div.result fits (quotient_nonneg _ v-fits (near_nonneg c.args.g _ c.requires.g_value c.squares_near-v.ensures) c.floor_div.ensures)

pub overflow_cast-result : goal.overflow_cast-result
overflow_cast-result c =
    let fits : SFits w64 c.floor_div.result = search rules in
    omega (arith, abs_fits, root_small fits (rw (to_z-of_z fits) at c.root-spread.ensures))

spread_is :
    (g : Group) {variance : ℤ} {spread : ℕ} → possible g ≡ true → variance ≡ floor_div (squares_around g (mean_of g)) g.count →
    spread ≡ root_of (nat_abs variance) → spread ≡ spread_of g
unfolding spread_of
spread_is g is_possible variance e =
    rw (variance, floor_magnitude (squares_around g (mean_of g)) g.count ((possible_is g is_possible).around (mean_of g))) at e

-- V of the group, taken around its mean
at_mean : (g : Group) {mean v : ℤ} → possible g ≡ true → mean ≡ mean_of g → v ≡ squares_near g mean → v ≡ squares_around g (mean_of g)
at_mean g is_possible mean e = (rw mean at e) ∙ squares_near_mean g (possible_is g is_possible)

pub returns : goal.returns
unfolding pair_of
returns c =
    let g = c.args.g in
    let sum-fits : SFits w64 g.sum = search rules in
    let mean-fits : SFits w64 c.floor_div-mean.result = search rules in
    let v-fits : SFits w64 c.squares_near-v.result = search rules in
    let fits : SFits w64 c.floor_div.result = search rules in
    let mean : to_z w64 (of_z w64 c.floor_div-mean.result) ≡ mean_of g = to_z-of_z mean-fits ∙ (rw (to_z-of_z sum-fits) at c.floor_div-mean.ensures) ∙ mean_floor g in
    let v : c.squares_near-v.result ≡ squares_around g (mean_of g) = at_mean g c.requires.g_value mean c.squares_near-v.ensures in
    let variance : c.floor_div.result ≡ floor_div (squares_around g (mean_of g)) g.count = rw (to_z-of_z v-fits, v) at c.floor_div.ensures in
    let spread = spread_is g c.requires.g_value variance (rw (to_z-of_z fits) at c.root-spread.ensures) in
    let small = root_small fits (rw (to_z-of_z fits) at c.root-spread.ensures) in
    rw (mean, to_z_pos w64 c.root-spread.result (omega arith), spread)
