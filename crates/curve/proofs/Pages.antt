-- The named statements on pages, from the laws of the crate below and the promise on probabilities.
use Prim.Native.Nat.{ℕ, ◌+◌, ◌≤◌}
use native.Mathlib.Omega.{arith}
use mathlib.Core.Path.{◌≡◌, refl, ap}
use lib.IntN.{ℤ, pos, nat_abs, ◌+ℤ◌}
use lib.ListN.{length, drop}
use lib.Signed.{◌≤ℤ◌}
use Rattle.integer.proofs.Difference.{view, to_ℕ}
use Rattle.text_number.specs.Number.{written_number}
use Rattle.text_writer.specs.Row.{padded_right}
use Rattle.curve_group.specs.Season.{group_season}
use Rattle.curve_group.proofs.Season.{group_season_lem, group_block_lem}
use Rattle.curve_set.specs.declared.Pair.{Pair}
use Rattle.curve_set.proofs.InRange.{in_range_pair}
use Rattle.text_writer.proofs.Laid.{laid_behind}
use Rattle.curve_page.specs.Page.{season_name, probability_above, pair_of_group, page_of}
use Rattle.curve_page.proofs.Pages.{season_fits, block_fits, mean_fits, spread_fits, probability_is, probability_fits, row_length, page_length, page_row_lem, pages_alike}
use Rattle.curve.specs.Promises.{PageHasItsRows, BytesAfterThePageStay, PageCellsFit, PageRowsBearSeasonAndBlock, PageProbabilitiesNeverRise, PagesRestOnPairs}
use Rattle.curve.specs.FirstRefusal.{PageWriting, WritingPageCase, page_impossible, page_buffer_short, page_written}
use Rattle.curve.proofs.FirstRefusal.{writing_pages_is_refused_first}
use Rattle.curve.proofs.Promises.{probabilities_never_rise}

pub page_has_its_rows : PageHasItsRows
page_has_its_rows curves all = (page_length curves all, λ g h. (page_row_lem curves all g h, row_length curves.floor g (pair_of_group curves g)))

pub bytes_after_the_page_stay : BytesAfterThePageStay
bytes_after_the_page_stay curves buffer all = go (writing_pages_is_refused_first curves buffer).applies
  where
    go : {written : PageWriting} → WritingPageCase curves buffer written → drop 1728 written.buffer ≡ drop 1728 buffer
    go (page_impossible out) = refl
    go (page_buffer_short inside short) = refl
    go (page_written inside room) =
        let long : length (page_of curves) ≡ 1728 = page_length curves all in
        let behind : 0 + length (page_of curves) + 0 ≡ 1728 = omega (arith, long) in
        rw behind at (laid_behind buffer 0 (page_of curves) (omega (arith, long, room)) 0)

pub page_cells_fit : PageCellsFit
page_cells_fit curves all e g h =
    let pair = pair_of_group curves g in
    let inside = in_range_pair curves e g (omega (arith, all, h)) in
    (season_fits (group_season g), block_fits g, mean_fits pair inside, spread_fits pair inside, probability_fits curves.floor pair)

pub page_rows_bear_season_and_block : PageRowsBearSeasonAndBlock
page_rows_bear_season_and_block month hour h = (
  ap (λ (season : ℕ). padded_right 6 (season_name season)) (group_season_lem month hour h),
  ap (λ (block : ℕ). written_number (pos block)) (group_block_lem month hour h),
)

-- farther above X
farther : (floor : ℤ) (pair : Pair) (near far : ℕ) → near ≤ far → probability_above floor pair far ≤ probability_above floor pair near
farther floor pair near far h =
    rw (probability_is floor pair far, probability_is floor pair near)
    (probabilities_never_rise.1 (floor +ℤ pos near) (floor +ℤ pos far) floor pair.mean pair.mean (nat_abs pair.spread) (more floor near far h) (same pair.mean))
  where
    more : (x : ℤ) (n m : ℕ) → n ≤ m → (x +ℤ pos n) ≤ℤ (x +ℤ pos m)
    more x n m = rw (view x) (simp to_ℕ (omega arith))

    same : (x : ℤ) → x ≤ℤ x
    same x = rw (view x) (simp to_ℕ (omega arith))

pub page_probabilities_never_rise : PageProbabilitiesNeverRise
page_probabilities_never_rise floor pair = (
  farther floor pair 1000000 2000000 (omega arith),
  farther floor pair 2000000 3000000 (omega arith),
  farther floor pair 3000000 4000000 (omega arith),
)

pub pages_rest_on_pairs : PagesRestOnPairs
pages_rest_on_pairs = pages_alike
