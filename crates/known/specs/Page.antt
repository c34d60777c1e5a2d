-- Document 02, W-201: rows of the page, each with what it is to be, worked out by hand.
use Rattle.std.specs.Prelude.{ℕ, List, [], ◌∷◌, map, ℤ, pos, neg_ℤ}
use Prim.Native.String.{String}
use Rattle.text_refusal.specs.Bytes.{bytes}
use Rattle.curve_page.specs.Page.{page_row}

-- X 2000000, and a group with its mean and spread; the bytes of its row
abbrev pub row_claim : ℕ → ℤ → ℤ → String → List ℤ × List ℤ
row_claim group mean spread row =
    (map pos (page_row (pos 2000000) group (record { mean = mean; spread = spread })), map pos (bytes row))

unfoldable pub page_values : List (List ℤ × List ℤ)
page_values =
    -- document 01's listing: p is 100, 200, 300 and 400, and T(100) is 841344746
    row_claim 0 (pos 0) (pos 1000000) "winter 0         0  1000000  158655254   22750132    1349898      31671\n"
    -- p is -100, 0, 100 and 200: N(-100) is 10^9 - T(100), N(0) is T(0)
    ∷ row_claim 14 (pos 2000000) (pos 1000000) "summer 2   2000000  1000000  841344746  500000000  158655254   22750132\n"
    -- the least mean and the least spread: p is beyond 500, nothing is left of one
    ∷ row_claim 23 (neg_ℤ (pos 20000000)) (pos 1) "fall   5 -20000000        1          0          0          0          0\n"
    -- the greatest mean: p is beyond -500, all is left
    ∷ row_claim 10 (pos 20000000) (pos 1) "spring 4  20000000        1 1000000000 1000000000 1000000000 1000000000\n"
    -- the greatest spread: p is 4.995, and T(4) + floor(995 / 1000 × (T(5) - T(4))) is 515953437 + 3965442; then 9.995, 14.995 and 19.995
    ∷ row_claim 7 (pos 1000) (pos 20000000) "spring 1      1000 20000000  480081121  460192021  440402047  420759863\n"
    ∷ []
