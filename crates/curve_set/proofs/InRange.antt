-- What a curve set in range has, and when a set is in range.
use Prim.Native.Nat.{ℕ, zero, suc, ◌≤◌, ◌<◌}
use native.Mathlib.Omega.{arith}
use mathlib.Core.Bool.{Bool, true, ◌&&◌}
use mathlib.Core.List.{List, [], ◌∷◌}
use mathlib.Core.Path.{◌≡◌, refl, ap}
use lib.IntN.{ℤ, pos, nat_abs}
use lib.ListN.{length, get_or, replicate}
use lib.Signed.{◌≤ℤ◌}
use Rattle.std.specs.List.{list_all}
use Rattle.integer.proofs.Ranges.{within_low, within_high}
use Rattle.integer.proofs.Bounds.{abs_bound}
use Rattle.integer.proofs.Difference.{view, to_ℕ}
use Rattle.text_refusal.proofs.Choices.{and_left, and_right}
use Rattle.curve_set.specs.declared.Pair.{Pair}
use Rattle.curve_set.specs.declared.CurveSet.{CurveSet}
use Rattle.curve_set.specs.Curves.{Range, lies_in, voll_range, floor_range, mean_range, spread_range, voll_in_range, floor_in_range, pair_in_range, pairs_in_range, curves_in_range, even_curves}
use Rattle.curve_set.proofs.CurveValues.{no_pair}

-- ---- a value in a range

module _ (range : Range) (z : ℤ) (e : lies_in range z ≡ true) where
  pub lies_low : range.low ≤ℤ z
  lies_low = within_low range.low range.high z e

  pub lies_high : z ≤ℤ range.high
  lies_high = within_high range.low range.high z e

-- a value from 0, or from 1, on
up_to : (low high : ℕ) (z : ℤ) → pos low ≤ℤ z → z ≤ℤ pos high → nat_abs z ≤ high
up_to low high z = rw (view z) (simp to_ℕ (omega arith))

-- ---- a pair in range

pub record PairRange (pair : Pair) : Type 0 where
  pub mean : lies_in mean_range pair.mean ≡ true
  pub spread : lies_in spread_range pair.spread ≡ true

pub pair_range : (pair : Pair) → pair_in_range pair ≡ true → PairRange pair
pair_range pair e =
    let mean : Bool = lies_in mean_range pair.mean in
    let spread : Bool = lies_in spread_range pair.spread in
    record { mean = and_left mean spread e; spread = and_right mean spread e }

-- ---- pairs in range, one after the other

-- a test of every pair
pub every_pair : (pairs : List Pair) → list_all pair_in_range pairs ≡ pairs_in_range pairs
unfolding pairs_in_range
every_pair [] = refl
every_pair (pair ∷ pairs) = ap (λ (rest : Bool). pair_in_range pair && rest) (every_pair pairs)

pub no_pairs_in_range : pairs_in_range [] ≡ true
unfolding pairs_in_range
no_pairs_in_range = refl

pub more_pairs_in_range : (pair : Pair) (pairs : List Pair) → pair_in_range pair ≡ true → pairs_in_range pairs ≡ true → pairs_in_range (pair ∷ pairs) ≡ true
unfolding pairs_in_range
more_pairs_in_range pair pairs first rest = rw (first) rest

module _ (pair : Pair) (pairs : List Pair) (e : pairs_in_range (pair ∷ pairs) ≡ true) where
  pub first_in_range : pair_in_range pair ≡ true
  unfolding pairs_in_range
  first_in_range = and_left (pair_in_range pair) (pairs_in_range pairs) e

  pub rest_in_range : pairs_in_range pairs ≡ true
  unfolding pairs_in_range
  rest_in_range = and_right (pair_in_range pair) (pairs_in_range pairs) e

each_in_range : (pairs : List Pair) → pairs_in_range pairs ≡ true → (g : ℕ) → g < length pairs → pair_in_range (get_or pairs g no_pair) ≡ true
each_in_range [] e g h = absurd (omega arith)
each_in_range (pair ∷ pairs) e zero h = first_in_range pair pairs e
each_in_range (pair ∷ pairs) e (suc g) h = each_in_range pairs (rest_in_range pair pairs e) g (omega arith)

-- ---- a curve set in range

pub set_in_range :
    (voll floor : ℤ) (pairs : List Pair) → voll_in_range voll ≡ true → floor_in_range floor ≡ true → pairs_in_range pairs ≡ true →
    curves_in_range (record { voll = voll; floor = floor; pairs = pairs }) ≡ true
unfolding curves_in_range
set_in_range voll floor pairs v f p = rw (v, f) p

-- with the same pair in each group
pub even_in_range :
    (voll floor mean spread : ℤ) → voll_in_range voll ≡ true → floor_in_range floor ≡ true → pair_in_range (record { mean = mean; spread = spread }) ≡ true →
    curves_in_range (even_curves voll floor mean spread) ≡ true
even_in_range voll floor mean spread v f p = set_in_range voll floor (even_curves voll floor mean spread).pairs v f (same 24)
  where
    same : (n : ℕ) → pairs_in_range (replicate n (record { mean = mean; spread = spread })) ≡ true
    same zero = no_pairs_in_range
    same (suc n) = more_pairs_in_range (record { mean = mean; spread = spread }) (replicate n (record { mean = mean; spread = spread })) p (same n)

module _ (curves : CurveSet) (e : curves_in_range curves ≡ true) where
  pub in_range_voll : voll_in_range curves.voll ≡ true
  unfolding curves_in_range
  in_range_voll = and_left (voll_in_range curves.voll) (floor_in_range curves.floor && pairs_in_range curves.pairs) e

  later : (floor_in_range curves.floor && pairs_in_range curves.pairs) ≡ true
  unfolding curves_in_range
  later = and_right (voll_in_range curves.voll) (floor_in_range curves.floor && pairs_in_range curves.pairs) e

  pub in_range_floor : floor_in_range curves.floor ≡ true
  in_range_floor = and_left (floor_in_range curves.floor) (pairs_in_range curves.pairs) later

  pub in_range_pairs : pairs_in_range curves.pairs ≡ true
  in_range_pairs = and_right (floor_in_range curves.floor) (pairs_in_range curves.pairs) later

  pub in_range_pair : (g : ℕ) → g < length curves.pairs → pair_in_range (get_or curves.pairs g no_pair) ≡ true
  in_range_pair g h = each_in_range curves.pairs in_range_pairs g h

-- ---- how large its values are

-- a pair of a set, and zeros past its end
abbrev pub PairSmall : Pair → Type 0
PairSmall pair = (nat_abs pair.mean ≤ 20000000) × (nat_abs pair.spread ≤ 20000000)

pub pair_small : (pair : Pair) → pair_in_range pair ≡ true → PairSmall pair
pair_small pair e =
    let r = pair_range pair e in (
      (abs_bound pair.mean 20000000).1 (lies_low mean_range pair.mean r.mean, lies_high mean_range pair.mean r.mean),
      up_to 1 20000000 pair.spread (lies_low spread_range pair.spread r.spread) (lies_high spread_range pair.spread r.spread),
    )

pairs_small : (pairs : List Pair) → pairs_in_range pairs ≡ true → (g : ℕ) → PairSmall (get_or pairs g no_pair)
pairs_small [] e g = (omega arith, omega arith)
pairs_small (pair ∷ pairs) e zero = pair_small pair (first_in_range pair pairs e)
pairs_small (pair ∷ pairs) e (suc g) = pairs_small pairs (rest_in_range pair pairs e) g

module _ (curves : CurveSet) (e : curves_in_range curves ≡ true) where
  pub voll_small : nat_abs curves.voll ≤ 2000000
  voll_small =
      let inside = in_range_voll curves e in
      up_to 0 2000000 curves.voll (lies_low voll_range curves.voll inside) (lies_high voll_range curves.voll inside)

  pub floor_small : nat_abs curves.floor ≤ 20000000
  floor_small =
      let inside = in_range_floor curves e in
      up_to 0 20000000 curves.floor (lies_low floor_range curves.floor inside) (lies_high floor_range curves.floor inside)

  pub mean_small : (g : ℕ) → nat_abs (get_or curves.pairs g no_pair).mean ≤ 20000000
  mean_small g = (pairs_small curves.pairs (in_range_pairs curves e) g).0

  pub spread_small : (g : ℕ) → nat_abs (get_or curves.pairs g no_pair).spread ≤ 20000000
  spread_small g = (pairs_small curves.pairs (in_range_pairs curves e) g).1
