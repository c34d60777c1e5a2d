-- The rows of numbers, cut from the slice, are the rows held.
use Prim.Native.Nat.{ℕ, zero, suc, ◌+◌, ◌*◌, ◌/◌, ◌≤◌}
use native.Mathlib.Omega.{arith}
use mathlib.Core.List.{List, [], ◌∷◌}
use mathlib.Core.Path.{◌≡◌, refl, ap, ◌∙◌}
use lib.IntN.{ℤ, pos}
use lib.ListN.{take, drop, length}
use lib.Seq.{get_or-take, get_or-drop, take-take, drop-drop}
use Rattle.std.specs.Simd.{first_chunks}
use Rattle.std.proofs.lemmas.List.{drop-take}
use Rattle.text_id_table.specs.Ids.{id_at}
use Rattle.text_schema.specs.Schema.{value}
use Rattle.pricing_held.specs.Rows.{held_count, row_at, rows_from, held_rows}
use Rattle.pricing_held.specs.internal.Checks.{row_in, rows_in}

-- ---- laws of the definition of rows one after the other

module _ (ids : List ℕ) (i : ℕ) where
  pub rows_in_none : rows_in ids i [] ≡ []
  unfolding rows_in
  rows_in_none = refl

  pub rows_in_more : (values : List ℤ) (rows : List (List ℤ)) → rows_in ids i (values ∷ rows) ≡ row_in (id_at 0 ids (32 * i)) values ∷ rows_in ids (suc i) rows
  unfolding rows_in
  rows_in_more values rows = refl

-- ---- the rows cut from a slice

pub length_chunks : {A : Type 0} (n k : ℕ) (xs : List A) → length (first_chunks n k xs) ≡ k
length_chunks n zero xs = refl
length_chunks n (suc k) xs = ap (λ (j : ℕ). suc j) (length_chunks n k (drop n xs))

-- the first of them
pub front_chunks : {A : Type 0} (n m k : ℕ) (xs : List A) → m ≤ k → take m (first_chunks n k xs) ≡ first_chunks n m xs
front_chunks n zero k xs h = refl
front_chunks n (suc m) zero xs h = absurd (omega arith)
front_chunks n (suc m) (suc k) xs h = ap (λ (l : List (List _)). take n xs ∷ l) (front_chunks n m k (drop n xs) (omega arith))

-- a row by its nine numbers
row_at_chunk : (ids : List ℕ) (numbers : List ℤ) (i : ℕ) → row_in (id_at 0 ids (32 * i)) (take 9 (drop (9 * i) numbers)) ≡ row_at ids numbers i
unfolding row_at
row_at_chunk ids numbers i =
    let value_is : (k : ℕ) → k ≤ 8 → value (take 9 (drop (9 * i) numbers)) k ≡ value numbers (9 * i + k) = λ k h. get_or-take 9 (drop (9 * i) numbers) k (pos 0) (omega arith) ∙ get_or-drop (9 * i) numbers k (pos 0) in
    let first : value (take 9 (drop (9 * i) numbers)) 0 ≡ value numbers (9 * i) = value_is 0 (omega arith) ∙ ap (value numbers) (omega arith) in
    let six : take 6 (drop 2 (take 9 (drop (9 * i) numbers))) ≡ take 6 (drop (9 * i + 2) numbers) =
    ap (take 6) (drop-take 2 7 (drop (9 * i) numbers)) ∙ take-take 6 7 (drop 2 (drop (9 * i) numbers)) (omega arith) ∙ ap (take 6) (drop-drop 2 (9 * i) numbers) in
    rw (first, value_is 1 (omega arith), value_is 8 (omega arith), six)

rows_chunks : (ids : List ℕ) (numbers : List ℤ) (i n : ℕ) → rows_in ids i (first_chunks 9 n (drop (9 * i) numbers)) ≡ rows_from ids numbers i n
unfolding rows_in rows_from
rows_chunks ids numbers i zero = refl
rows_chunks ids numbers i (suc n) =
    let next : drop 9 (drop (9 * i) numbers) ≡ drop (9 * suc i) numbers = drop-drop 9 (9 * i) numbers ∙ ap (λ (k : ℕ). drop k numbers) (omega arith) in
    rw (row_at_chunk ids numbers i, next, rows_chunks ids numbers (suc i) n)

-- as many of them as are held
pub rows_taken :
    (ids : List ℕ) (numbers : List ℤ) {all : List (List ℤ)} {count : ℕ} → all ≡ first_chunks 9 (length numbers / 9) numbers → count ≡ held_count ids numbers →
    take count all ≡ first_chunks 9 (held_count ids numbers) numbers
unfolding held_count
rows_taken ids numbers all counted = rw (all, counted) (front_chunks 9 (held_count ids numbers) (length numbers / 9) numbers (omega arith))

pub rows_held : (ids : List ℕ) (numbers : List ℤ) {rows : List (List ℤ)} → rows ≡ first_chunks 9 (held_count ids numbers) numbers → rows_in ids 0 rows ≡ held_rows ids numbers
rows_held ids numbers e = ap (rows_in ids 0) e ∙ rows_chunks ids numbers 0 (held_count ids numbers)
