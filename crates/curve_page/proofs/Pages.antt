-- Laws of the page: each cell fits its width, a row has 72 bytes and is what the writer of rows writes, rows one after the other.
use Prim.Native.Nat.{ℕ, zero, suc, ◌+◌, ◌*◌, ◌≤◌, ◌<◌}
use native.Mathlib.Nat.{add-zero, zero-add}
use native.Mathlib.Numerals.{add-one}
use native.Mathlib.Omega.{arith}
use borrow.Author.Tests.{le-leb}
use mathlib.Core.Bool.{true}
use mathlib.Core.List.{List, [], ◌∷◌, ◌++◌, append_assoc, append-nil}
use mathlib.Core.Path.{◌≡◌, refl, sym, ap, ◌∙◌}
use lib.IntN.{ℤ, pos, nat_abs}
use lib.Signed.{◌≤ℤ◌}
use lib.ListN.{length, take, drop, get_or, length-append}
use lib.Seq.{take_all, take_at, drop-append-add}
use Rattle.text_number.specs.Number.{written_number}
use Rattle.text_number.proofs.WrittenDigits.{written_within, natural_within, written_natural, count_one}
use Rattle.text_refusal.specs.Bytes.{bytes}
use Rattle.text_line.specs.Piece.{part}
use Rattle.text_writer.specs.Row.{padded_right, written_row}
use Rattle.text_writer.specs.Write.{laid_at}
use Rattle.text_writer.proofs.Laid.{laid_then}
use Rattle.text_writer.proofs.Rows.{aligned_length, aligned_full, padded_is, padded_fits, no_cells, first_cell}
use Rattle.integer.proofs.Difference.{view, to_ℕ}
use Rattle.integer.proofs.Order.{le-le_z}
use Rattle.curve_group.specs.Season.{group_season, group_block}
use Rattle.curve_group.proofs.Season.{block_of_group}
use Rattle.curve_set.specs.Curves.{spread_range, pair_in_range}
use Rattle.curve_set.specs.declared.Pair.{Pair}
use Rattle.curve_set.specs.declared.CurveSet.{CurveSet}
use Rattle.curve_set.proofs.CurveValues.{no_pair}
use Rattle.curve_set.proofs.InRange.{pair_range, lies_low, pair_small}
use Rattle.curve_probability.specs.Probability.{offline_probabilities}
use Rattle.curve_probability.proofs.ProbabilityOrder.{offline_above, offline_many}
use Rattle.curve_page.specs.Page.{season_name, season_cell, block_cell, mean_cell, spread_cell, probability_above, probability_cell, row_end, space, page_row, pair_of_group, page_rows, page_of}
use Rattle.curve_page.specs.internal.RowValues.{row_widths, row_values}
pub use Rattle.curve_page.proofs.Above.{probability_is, probability_bound}

-- ---- each cell fits its width

pub season_fits : (season : ℕ) → length (season_name season) ≤ 6
unfolding season_name
season_fits zero = omega arith
season_fits (suc zero) = omega arith
season_fits (suc (suc zero)) = omega arith
season_fits (suc (suc (suc season))) = omega arith

-- the four names one after the other, each padded right to 6
pub season_part : (season : ℕ) → season < 4 → part (bytes "winterspringsummerfall  ") (6 * season) (6 * season + 6) ≡ padded_right 6 (season_name season)
unfolding season_name
season_part zero h = sym (padded_is 6 (bytes "winter"))
season_part (suc zero) h = sym (padded_is 6 (bytes "spring"))
season_part (suc (suc zero)) h = sym (padded_is 6 (bytes "summer"))
season_part (suc (suc (suc zero))) h = sym (padded_is 6 (bytes "fall"))
season_part (suc (suc (suc (suc season)))) h = absurd (omega arith)

pub block_fits : (group : ℕ) → length (block_cell group) ≡ 1
block_fits group = rw (written_natural (group_block group)) (count_one (group_block group) (omega (arith, block_of_group group)))

module _ (pair : Pair) (e : pair_in_range pair ≡ true) where
  pub mean_fits : length (written_number pair.mean) ≤ 9
  mean_fits = written_within 7 pair.mean (omega (arith, (pair_small pair e).0))

  pub spread_fits : length (written_number pair.spread) ≤ 8
  spread_fits =
      let above = from_one pair.spread (lies_low spread_range pair.spread (pair_range pair e).spread) in
      natural_within 7 pair.spread (le-le_z above) (omega (arith, (pair_small pair e).1))
    where
      from_one : (z : ℤ) → pos 1 ≤ℤ z → pos 0 ≤ℤ z
      from_one z = rw (view z) (simp to_ℕ (omega arith))

-- the four of a row, as they are computed
pub four_probabilities : (pair : Pair) →
    offline_probabilities (1000000 ∷ 2000000 ∷ 3000000 ∷ 4000000 ∷ []) pair.mean (nat_abs pair.spread) ≡
    probability_above (pos 0) pair 1000000 ∷ probability_above (pos 0) pair 2000000 ∷ probability_above (pos 0) pair 3000000 ∷ probability_above (pos 0) pair 4000000 ∷ []
unfolding probability_above
four_probabilities pair = offline_many (1000000 ∷ 2000000 ∷ 3000000 ∷ 4000000 ∷ []) (pos 0) pair.mean (nat_abs pair.spread)

pub probability_fits : (floor : ℤ) (pair : Pair) (above : ℕ) → length (written_number (pos (probability_above floor pair above))) ≤ 10
probability_fits floor pair above =
    let p = probability_above floor pair above in
    natural_within 9 (pos p) (le-leb 0 p (omega arith)) (omega (arith, probability_bound floor pair above))

-- ---- a row

-- nine texts with spaces between them: one behind the other, as cells, and how long they are
module _ (between season block mean spread one two three four end : List ℕ) where
  joined : List ℕ
  joined =
      season ++ between ++ block ++ between ++ mean ++ between ++ spread ++ between ++ one ++ between ++ two ++ between ++ three ++ between ++ four ++ end

  in_cells :
      joined ≡
      season
      ++ ((between ++ block)
      ++ ((between ++ mean)
      ++ ((between ++ spread) ++ ((between ++ one) ++ ((between ++ two) ++ ((between ++ three) ++ ((between ++ four) ++ []))))))
      ++ end)
  unfolding joined
  in_cells = simp (append_assoc, append-nil)

  joined_length :
      length joined ≡
      length season + length block + length mean + length spread + length one + length two + length three + length four + 7 * length between + length end
  unfolding joined
  joined_length = simp length-append (omega arith)

-- as the writer of rows writes it
pub row_written : (floor : ℤ) (group : ℕ) (pair : Pair) → page_row floor group pair ≡ written_row (season_cell group) row_widths (row_values floor group pair)
unfolding page_row joined
row_written floor group pair =
    let probability = probability_cell floor pair in
    in_cells space (season_cell group) (block_cell group) (mean_cell pair) (spread_cell pair) (probability 1000000) (probability 2000000) (probability 3000000) (probability 4000000) row_end ∙
    sym (simp (first_cell, no_cells, aligned_full 1 (block_cell group) (block_fits group)))

pub row_length : (floor : ℤ) (group : ℕ) (pair : Pair) → length (page_row floor group pair) ≡ 72
unfolding page_row joined
row_length floor group pair =
    omega (
      arith,
      joined_length space (season_cell group) (block_cell group) (mean_cell pair) (spread_cell pair) (probability_cell floor pair 1000000) (probability_cell floor pair 2000000) (probability_cell floor pair 3000000) (probability_cell floor pair 4000000) row_end,
      padded_fits 6 (season_name (group_season group)) (season_fits (group_season group)),
      block_fits group,
      aligned_length 9 (written_number pair.mean),
      aligned_length 8 (written_number pair.spread),
      aligned_length 10 (written_number (pos (probability_above floor pair 1000000))),
      aligned_length 10 (written_number (pos (probability_above floor pair 2000000))),
      aligned_length 10 (written_number (pos (probability_above floor pair 3000000))),
      aligned_length 10 (written_number (pos (probability_above floor pair 4000000))),
    )

-- ---- rows one after the other

pub no_rows : (floor : ℤ) (group : ℕ) → page_rows floor group [] ≡ []
unfolding page_rows
no_rows floor group = refl

-- one row more
pub rows_next : (floor : ℤ) (group : ℕ) (pairs : List Pair) (i : ℕ) → i < length pairs →
    page_rows floor group (take (suc i) pairs) ≡ page_rows floor group (take i pairs) ++ page_row floor (group + i) (get_or pairs i no_pair)
unfolding page_rows
rows_next floor group [] i h = absurd (omega arith)
rows_next floor group (pair ∷ pairs) zero h = rw (add-zero group) (append-nil (page_row floor group pair))
rows_next floor group (pair ∷ pairs) (suc i) h =
    let place : group + suc i ≡ suc group + i = omega arith in
    rw (place, rows_next floor (suc group) pairs i (omega arith)) (sym (append_assoc (page_row floor group pair) (page_rows floor (suc group) (take i pairs)) (page_row floor (suc group + i) (get_or pairs i no_pair))))

pub rows_length : (floor : ℤ) (group : ℕ) (pairs : List Pair) (i : ℕ) → i ≤ length pairs → length (page_rows floor group (take i pairs)) ≡ 72 * i
unfolding page_rows
rows_length floor group pairs zero h = refl
rows_length floor group [] (suc i) h = absurd (omega arith)
rows_length floor group (pair ∷ pairs) (suc i) h =
    omega (
      arith,
      length-append (page_row floor group pair) (page_rows floor (suc group) (take i pairs)),
      row_length floor group pair,
      rows_length floor (suc group) pairs i (omega arith),
    )

-- the row of a group at 72 times its place
pub row_at : (floor : ℤ) (group : ℕ) (pairs : List Pair) (i : ℕ) → i < length pairs →
    take 72 (drop (72 * i) (page_rows floor group pairs)) ≡ page_row floor (group + i) (get_or pairs i no_pair)
unfolding page_rows
row_at floor group [] i h = absurd (omega arith)
row_at floor group (pair ∷ pairs) zero h = rw (add-zero group) (take_at (page_row floor group pair) (page_rows floor (suc group) pairs) 72 (row_length floor group pair))
row_at floor group (pair ∷ pairs) (suc i) h =
    let row = page_row floor group pair in
    let rest = page_rows floor (suc group) pairs in
    let place : group + suc i ≡ suc group + i = omega arith in
    let from : 72 * suc i ≡ length row + 72 * i = omega (arith, row_length floor group pair) in
    rw (place, from, drop-append-add row rest (72 * i)) (row_at floor (suc group) pairs i (omega arith))

-- one row more is laid behind those that are
pub row_laid : (buffer : List ℕ) (floor : ℤ) (pairs : List Pair) (i : ℕ) → i < length pairs → 72 * i + 72 ≤ length buffer →
    laid_at (laid_at buffer 0 (page_rows floor 0 (take i pairs))) (72 * i) (page_row floor i (get_or pairs i no_pair)) ≡ laid_at buffer 0 (page_rows floor 0 (take (i + 1) pairs))
row_laid buffer floor pairs i h room =
    let done = page_rows floor 0 (take i pairs) in
    let row = page_row floor i (get_or pairs i no_pair) in
    let long : length done ≡ 72 * i = rows_length floor 0 pairs i (omega (arith, h)) in
    let place : 72 * i ≡ 0 + length done = omega (arith, long) in
    let more : done ++ row ≡ page_rows floor 0 (take (i + 1) pairs) = sym (rw (add-one i, rows_next floor 0 pairs i h, zero-add i)) in
    ap (λ (n : ℕ). laid_at (laid_at buffer 0 done) n row) place ∙
    laid_then buffer 0 done (omega (arith, long)) row ∙
    ap (laid_at buffer 0) more

-- ---- where X lies does not show

probability_alike : (floor floor' : ℤ) (pair : Pair) (above : ℕ) → probability_above floor pair above ≡ probability_above floor' pair above
unfolding probability_above
probability_alike floor floor' pair above = offline_above (pos above) floor floor' pair.mean (nat_abs pair.spread)

row_alike : (floor floor' : ℤ) (group : ℕ) (pair : Pair) → page_row floor group pair ≡ page_row floor' group pair
unfolding page_row
row_alike floor floor' group pair =
    let same = probability_alike floor floor' pair in
    rw (same 1000000, same 2000000, same 3000000, same 4000000)

rows_alike : (floor floor' : ℤ) (group : ℕ) (pairs : List Pair) → page_rows floor group pairs ≡ page_rows floor' group pairs
unfolding page_rows
rows_alike floor floor' group [] = refl
rows_alike floor floor' group (pair ∷ pairs) = rw (row_alike floor floor' group pair, rows_alike floor floor' (suc group) pairs)

-- the rows at X = 0
pub rows_of_set : (curves : CurveSet) → page_rows (pos 0) 0 curves.pairs ≡ page_of curves
unfolding page_of
rows_of_set curves = rows_alike (pos 0) curves.floor 0 curves.pairs

pub pages_alike : (curves other : CurveSet) → curves.pairs ≡ other.pairs → page_of curves ≡ page_of other
unfolding page_of
pages_alike curves other e = rows_alike curves.floor other.floor 0 curves.pairs ∙ ap (page_rows other.floor 0) e

-- ---- a page

module _ (curves : CurveSet) (all : length curves.pairs ≡ 24) where
  pub page_length : length (page_of curves) ≡ 1728
  unfolding page_of
  page_length =
      let rows = page_rows curves.floor 0 in
      let whole = take_all 24 curves.pairs (omega (arith, all)) in
      ap (λ (pairs : List Pair). length (rows pairs)) (sym whole) ∙ omega (arith, rows_length curves.floor 0 curves.pairs 24 (omega (arith, all)))

  pub page_row_lem : (g : ℕ) → g < 24 → take 72 (drop (72 * g) (page_of curves)) ≡ page_row curves.floor g (pair_of_group curves g)
  unfolding page_of
  page_row_lem g h = row_at curves.floor 0 curves.pairs g (omega (arith, all, h)) ∙ rw (zero-add g)
