-- Document 02, W-201: the curve page, to pin up and compare seasons on: 24 rows in group order, each exactly 72 bytes.
use Rattle.std.specs.Prelude.{ℕ, zero, suc, ◌≡◌, ◌&&◌, cond, List, [], ◌∷◌, ◌++◌, leb, ℤ, pos, nat_abs, ◌+ℤ◌, length, get_or, Ok}
use Rattle.text_refusal.specs.Answer.{Answer, refusal}
use Rattle.text_refusal.specs.Bytes.{bytes}
use Rattle.text_number.specs.Number.{written_number}
use Rattle.text_writer.specs.Row.{aligned_right, padded_right}
use Rattle.text_writer.specs.Write.{laid_at}
use Rattle.curve_group.specs.Season.{group_season, group_block}
use Rattle.curve_set.specs.Curves.{curves_in_range}
use Rattle.curve_set.specs.declared.Pair.{Pair}
use Rattle.curve_set.specs.declared.CurveSet.{CurveSet}
use Rattle.curve_probability.specs.Probability.{offline_probability}

-- ---- the six kinds of cell

-- season name (winter, spring, summer, fall) …
unfoldable pub season_name : ℕ → List ℕ
season_name zero = bytes "winter"
season_name (suc zero) = bytes "spring"
season_name (suc (suc zero)) = bytes "summer"
season_name (suc (suc (suc season))) = bytes "fall"

-- … padded right to 6
abbrev pub season_cell : ℕ → List ℕ
season_cell group = padded_right 6 (season_name (group_season group))

-- block digit 0..5
abbrev pub block_cell : ℕ → List ℕ
block_cell group = written_number (pos (group_block group))

-- mu right-aligned in 9
abbrev pub mean_cell : Pair → List ℕ
mean_cell pair = aligned_right 9 (written_number pair.mean)

-- sigma right-aligned in 8
abbrev pub spread_cell : Pair → List ℕ
spread_cell pair = aligned_right 8 (written_number pair.spread)

-- piNS at X plus so many kW …
unfoldable pub probability_above : ℤ → Pair → ℕ → ℕ
probability_above floor pair above = offline_probability (floor +ℤ pos above) floor pair.mean (nat_abs pair.spread)

-- … right-aligned in 10
abbrev pub probability_cell : ℤ → Pair → ℕ → List ℕ
probability_cell floor pair above = aligned_right 10 (written_number (pos (probability_above floor pair above)))

-- byte 10
abbrev pub row_end : List ℕ
row_end = 10 ∷ []

-- ---- a row, and the page

abbrev pub space : List ℕ
space = 32 ∷ []

-- the row of a group: X, the group's number, its mean and spread
unfoldable pub page_row : ℤ → ℕ → Pair → List ℕ
page_row floor group pair =
    season_cell group ++ space
    ++ block_cell group ++ space
    ++ mean_cell pair ++ space
    ++ spread_cell pair
    ++ space ++ probability_cell floor pair 1000000
    ++ space ++ probability_cell floor pair 2000000
    ++ space ++ probability_cell floor pair 3000000
    ++ space ++ probability_cell floor pair 4000000
    ++ row_end

-- the mean and the spread of a group
abbrev pub pair_of_group : CurveSet → ℕ → Pair
pair_of_group curves group = get_or curves.pairs group (record { mean = pos 0; spread = pos 0 })

-- the rows of pairs, the first of which is that of a group
unfoldable pub page_rows : ℤ → ℕ → List Pair → List ℕ
page_rows floor group [] = []
page_rows floor group (pair ∷ pairs) = page_row floor group pair ++ page_rows floor (suc group) pairs

-- the page of a curve set
unfoldable pub page_of : CurveSet → List ℕ
page_of curves = page_rows curves.floor 0 curves.pairs

-- the page is 1728 bytes
abbrev pub page_length : ℕ
page_length = 1728

-- ---- writing: 1, then 14 for a shorter buffer; bytes after the page stay, and a refused write leaves the buffer

unfoldable pub writing_page : CurveSet → List ℕ → Answer
writing_page curves buffer = cond (curves_in_range curves) (cond (leb page_length (length buffer)) (Ok tt) (refusal 14 0)) (refusal 1 0)

-- the buffer after writing
unfoldable pub page_buffer : CurveSet → List ℕ → List ℕ
page_buffer curves buffer = cond (curves_in_range curves && leb page_length (length buffer)) (laid_at buffer 0 (page_of curves)) buffer

-- what writing a page into a lent buffer gives
pub record PageWritten (curves : CurveSet) (buffer after : List ℕ) (answer : Answer) : Type 0 where
  pub ends : answer ≡ writing_page curves buffer
  pub bytes : after ≡ page_buffer curves buffer
