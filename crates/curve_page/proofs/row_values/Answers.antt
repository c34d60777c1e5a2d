-- Block, mean and spread as they are, and the four probabilities, which are small.
use native.Mathlib.Omega.{arith}
use Prim.Native.Nat.{ℕ, zero, suc, ◌≤◌}
use mathlib.Core.Bool.{true}
use mathlib.Core.List.{List, [], ◌∷◌}
use mathlib.Core.Path.{◌≡◌, ap, ap₂, ◌∙◌}
use lib.IntN.{ℤ, pos, nat_abs}
use lib.ListN.{get_or}
use mir.Facts.{to_z-of_z}
use mir.Syntax.{w32, w64}
use mir.Val.{SFits, to_z, of_z}
use Rattle.std.proofs.lemmas.Int.{ints}
use Rattle.integer.proofs.Bounds.{abs_fits}
use Rattle.curve_group.proofs.Season.{block_of_group}
use Rattle.curve_set.specs.Curves.{pair_in_range}
use Rattle.curve_set.specs.declared.Pair.{Pair}
use Rattle.curve_set.proofs.InRange.{pair_small}
use Rattle.curve_probability.specs.Probability.{offline_probabilities}
use Rattle.curve_probability.proofs.ProbabilityOrder.{offline_le}
use Rattle.curve_page.specs.Page.{probability_above}
use Rattle.curve_page.proofs.Pages.{four_probabilities}
use Rattle.curve_page.proofs.row_values.Goals as goal

-- a pair's numbers, as the machine reads them back
module _ (pair : Pair) (here : pair_in_range pair ≡ true) where
  mean_held : to_z w64 (of_z w64 pair.mean) ≡ pair.mean
  mean_held = to_z-of_z {w = w64} (abs_fits (omega (arith, (pair_small pair here).0)))

  half_mean_held : to_z w32 (of_z w32 (to_z w64 (of_z w64 pair.mean))) ≡ pair.mean
  half_mean_held = ap (λ (z : ℤ). to_z w32 (of_z w32 z)) mean_held ∙ to_z-of_z {w = w32} (abs_fits (omega (arith, (pair_small pair here).0)))

  spread_held : to_z w64 (of_z w64 pair.spread) ≡ pair.spread
  spread_held = to_z-of_z {w = w64} (abs_fits (omega (arith, (pair_small pair here).1)))

  -- the four probabilities
  four :
      {values : List ℕ} {spread : ℕ} → values ≡ offline_probabilities (1000000 ∷ 2000000 ∷ 3000000 ∷ 4000000 ∷ []) (to_z w32 (of_z w32 (to_z w64 (of_z w64 pair.mean)))) spread →
      spread ≡ nat_abs (to_z w64 (of_z w64 pair.spread)) → let p = probability_above (pos 0) pair in values ≡ p 1000000 ∷ p 2000000 ∷ p 3000000 ∷ p 4000000 ∷ []
  four told size =
      told ∙ ap₂ (offline_probabilities (1000000 ∷ 2000000 ∷ 3000000 ∷ 4000000 ∷ [])) half_mean_held (size ∙ ap nat_abs spread_held) ∙ four_probabilities pair

-- a probability is small, whatever the distances
many_bound : (above : List ℕ) (mean : ℤ) (spread k : ℕ) → get_or (offline_probabilities above mean spread) k 0 ≤ 1000000000
unfolding offline_probabilities
many_bound [] mean spread k = omega arith
many_bound (distance ∷ above) mean spread zero = offline_le (pos distance) (pos 0) mean spread
many_bound (distance ∷ above) mean spread (suc k) = many_bound above mean spread k

small : {n : ℕ} → n ≤ 1000000000 → SFits w64 (pos n)
small h = abs_fits (omega arith)

pub overflow_cast-result : goal.overflow_cast-result
overflow_cast-result c = small (rw c.offline_probabilities.ensures (many_bound _ _ _ 0))

pub overflow_cast-result-2 : goal.overflow_cast-result-2
overflow_cast-result-2 c = small (rw c.offline_probabilities.ensures (many_bound _ _ _ 1))

pub overflow_cast-result-3 : goal.overflow_cast-result-3
overflow_cast-result-3 c = small (rw c.offline_probabilities.ensures (many_bound _ _ _ 2))

pub overflow_cast-result-4 : goal.overflow_cast-result-4
overflow_cast-result-4 c = small (rw c.offline_probabilities.ensures (many_bound _ _ _ 3))

-- the cells one by one
cells :
    {block block' mean mean' spread spread' first first' second second' third third' fourth fourth' : ℤ} →
    block ≡ block' → mean ≡ mean' → spread ≡ spread' → first ≡ first' → second ≡ second' → third ≡ third' → fourth ≡ fourth' →
    ◌≡◌ {A = List ℤ} (block ∷ mean ∷ spread ∷ first ∷ second ∷ third ∷ fourth ∷ []) (block' ∷ mean' ∷ spread' ∷ first' ∷ second' ∷ third' ∷ fourth' ∷ [])
cells a b c d e f g = rw (a, b, c, d, e, f, g)

pub returns : goal.returns
returns c =
    let pair = c.args.pair in
    let values = c.offline_probabilities.result in
    let told = c.offline_probabilities.ensures in
    let are = four pair c.requires told c.magnitude-spread.ensures in
    cells
    (omega (arith, ints, block_of_group c.args.group))
    (mean_held pair c.requires)
    (spread_held pair c.requires)
    (to_z-of_z {w = w64} {z = pos (get_or values 0 0)} (small (rw told (many_bound _ _ _ 0))) ∙ ap (λ (l : List ℕ). pos (get_or l 0 0)) are)
    (to_z-of_z {w = w64} {z = pos (get_or values 1 0)} (small (rw told (many_bound _ _ _ 1))) ∙ ap (λ (l : List ℕ). pos (get_or l 1 0)) are)
    (to_z-of_z {w = w64} {z = pos (get_or values 2 0)} (small (rw told (many_bound _ _ _ 2))) ∙ ap (λ (l : List ℕ). pos (get_or l 2 0)) are)
    (to_z-of_z {w = w64} {z = pos (get_or values 3 0)} (small (rw told (many_bound _ _ _ 3))) ∙ ap (λ (l : List ℕ). pos (get_or l 3 0)) are)
