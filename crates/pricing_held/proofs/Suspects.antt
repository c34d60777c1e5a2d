-- Laws on the first line of a snapshot held as values that a mark turns back: the resources of the rows don't hang on the ids, and a verdict not on a number.
use Prim.Native.Nat.{ℕ, zero, suc, ◌+◌, ◌*◌, ◌%◌, ◌≤◌, ◌<◌}
use native.Mathlib.Numerals.{add-one}
use native.Mathlib.Omega.{arith}
use mathlib.Core.Bool.{Bool, true, false, cond}
use mathlib.Core.List.{List, [], ◌∷◌, map}
use mathlib.Core.Path.{◌≡◌, refl, sym, ap, ◌∙◌}
use borrow.Author.Tests.{le-ltb}
use lib.IntN.{ℤ, pos, nat_abs}
use lib.ListN.{length, take, drop, get_or, length-drop, drop_of_length-le}
use lib.Seq.{drop-cons, get_or-take, get_or-drop, length-take-le}
use Rattle.text_id_table.specs.Ids.{id_at}
use Rattle.text_number.specs.Marked.{numbers_of, marks_of, marked_by}
use Rattle.text_number.proofs.Marks.{by_take, by_numbers, by_marks}
use Rattle.text_schema.specs.Schema.{value}
use Rattle.pricing_resource.specs.Flag.{is_one}
use Rattle.pricing_resource.specs.Suspect.{marks, resource_line_count, suspect_place, suspect_from, suspect_line}
use Rattle.pricing_resource.specs.declared.Generator.{Generator}
use Rattle.pricing_resource.specs.declared.Controllable.{Controllable}
use Rattle.pricing_resource.specs.declared.Load.{Load}
use Rattle.pricing_resource.specs.declared.Resource.TheVariants as resource
use Rattle.pricing_resource.proofs.Suspects.{place_unmarked, generator_place, controllable_place, load_place, suspect_none, suspect_here, suspect_later}
use Rattle.pricing_resource_text.specs.Resource.{status_of}
use Rattle.pricing_snapshot.specs.Snapshot.{resources_of}
use Rattle.pricing_held.specs.Rows.{Row, place_of, resource_of_kind, entry_of}
use Rattle.pricing_held.specs.internal.Checks.{row_in, row_of, rows_in, kind_of, flag_of, resource_in, line_count}
use Rattle.pricing_held.proofs.RowsChecks.{count_most}

-- ---- the resources of the rows

resource_alike : (k : ℕ) (row row' : Row) → row.status ≡ row'.status → row.numbers ≡ row'.numbers → row.marks ≡ row'.marks → resource_of_kind k row ≡ resource_of_kind k row'
resource_alike zero row row' s n m = rw (s, n, m)
resource_alike (suc zero) row row' s n m = rw (s, n, m)
resource_alike (suc (suc zero)) row row' s n m = rw (s, n, m)
resource_alike (suc (suc (suc zero))) row row' s n m = rw (s, n, m)
resource_alike (suc (suc (suc (suc zero)))) row row' s n m = rw (n, m)
resource_alike (suc (suc (suc (suc (suc k))))) row row' s n m = rw (n, m)

pub rows_resources : (ids : List ℕ) (i : ℕ) (rows : List (List ℤ)) → resources_of (map entry_of (rows_in ids i rows)) ≡ map resource_in rows
unfolding entry_of rows_in
rows_resources ids i [] = refl
rows_resources ids i (values ∷ rows) =
    rw (resource_alike (place_of (value values 0)) (row_in (id_at 0 ids (32 * i)) values) (row_of values) refl refl refl, rows_resources ids (suc i) rows)

-- ---- the place of one row

module _ (values : List ℤ) (long : 9 ≤ length values) where
  six : length (take 6 (drop 2 values)) ≡ 6
  six = length-take-le 6 (drop 2 values) (omega (arith, length-drop 2 values))

  abbrev row_marks : ℕ
  row_marks = nat_abs (value values 8)

  -- the marks of the six numbers, and of the first four
  generator_marks : marks_of (marked_by row_marks (take 6 (drop 2 values))) ≡ row_marks % 64
  generator_marks = rw (by_marks row_marks (take 6 (drop 2 values)), six) refl

  load_marks : marks_of (take 4 (marked_by row_marks (take 6 (drop 2 values)))) ≡ row_marks % 16
  load_marks =
      let four : length (take 4 (take 6 (drop 2 values))) ≡ 4 = length-take-le 4 (take 6 (drop 2 values)) (omega (arith, six)) in
      rw (by_take 4 row_marks (take 6 (drop 2 values)), by_marks row_marks (take 4 (take 6 (drop 2 values))), four) refl

  flag_same : is_one (value (numbers_of (marked_by row_marks (take 6 (drop 2 values)))) 5) ≡ is_one (flag_of (value values 7))
  flag_same = rw (by_numbers row_marks (take 6 (drop 2 values)), get_or-take 6 (drop 2 values) 5 (pos 0) (omega arith), get_or-drop 2 values 5 (pos 0)) (go (is_one (value values 7)) refl)
    where
      go : (b : Bool) → is_one (value values 7) ≡ b → is_one (value values 7) ≡ is_one (cond b (pos 1) (pos 0))
      go true e = e
      go false e = e

  -- no mark, no place
  pub unmarked_place : row_marks ≡ 0 → 0 ≡ suspect_place (resource_in values)
  unmarked_place e = sym (place_unmarked (resource_in values) (go (place_of (value values 0))))
    where
      generator : marks_of (marked_by row_marks (take 6 (drop 2 values))) ≡ 0
      generator = generator_marks ∙ rw e refl

      load : marks_of (take 4 (marked_by row_marks (take 6 (drop 2 values)))) ≡ 0
      load = load_marks ∙ rw e refl

      go : (k : ℕ) → marks (resource_of_kind k (row_of values)) ≡ 0
      go zero = generator
      go (suc zero) = generator
      go (suc (suc zero)) = generator
      go (suc (suc (suc zero))) = generator
      go (suc (suc (suc (suc zero)))) = load
      go (suc (suc (suc (suc (suc k))))) = load

  module _ {place : ℕ} where
    pub generator_row :
        {k : ℕ} → k ≡ place_of (value values 0) → k < 4 → (g : Generator) → g.kind ≡ kind_of k → g.status ≡ status_of (place_of (value values 1)) →
        g.cold30 ≡ flag_of (value values 7) → g.marks ≡ row_marks % 64 → place ≡ suspect_place (resource.Generator g) → place ≡ suspect_place (resource_in values)
    generator_row {k} k_is few g kind status cold30 marked is = is ∙ go k few kind ∙ ap (λ (n : ℕ). suspect_place (resource_of_kind n (row_of values))) k_is
      where
        flag : is_one g.cold30 ≡ is_one (value (numbers_of (marked_by row_marks (take 6 (drop 2 values)))) 5)
        flag = ap is_one cold30 ∙ sym flag_same

        go : (k : ℕ) → k < 4 → g.kind ≡ kind_of k → suspect_place (resource.Generator g) ≡ suspect_place (resource_of_kind k (row_of values))
        go zero h e = generator_place g _ e status flag (marked ∙ sym generator_marks)
        go (suc zero) h e = generator_place g _ e status flag (marked ∙ sym generator_marks)
        go (suc (suc zero)) h e = generator_place g _ e status flag (marked ∙ sym generator_marks)
        go (suc (suc (suc zero))) h e = generator_place g _ e status flag (marked ∙ sym generator_marks)
        go (suc (suc (suc (suc k)))) h e = absurd (omega arith)

    pub controllable_row : {k : ℕ} → k ≡ place_of (value values 0) → k ≡ 4 → (c : Controllable) → c.marks ≡ row_marks % 16 → place ≡ suspect_place (resource.Controllable c) → place ≡ suspect_place (resource_in values)
    controllable_row {k} k_is four c marked is =
        is ∙ controllable_place c _ (marked ∙ sym load_marks) ∙ ap (λ (n : ℕ). suspect_place (resource_of_kind n (row_of values))) (sym four ∙ k_is)

    pub load_row : {k : ℕ} → k ≡ place_of (value values 0) → 5 ≤ k → (l : Load) → l.marks ≡ row_marks % 16 → place ≡ suspect_place (resource.Load l) → place ≡ suspect_place (resource_in values)
    load_row {k} k_is many l marked is = is ∙ go k many ∙ ap (λ (n : ℕ). suspect_place (resource_of_kind n (row_of values))) k_is
      where
        go : (k : ℕ) → 5 ≤ k → suspect_place (resource.Load l) ≡ suspect_place (resource_of_kind k (row_of values))
        go zero h = absurd (omega arith)
        go (suc zero) h = absurd (omega arith)
        go (suc (suc zero)) h = absurd (omega arith)
        go (suc (suc (suc zero))) h = absurd (omega arith)
        go (suc (suc (suc (suc zero)))) h = absurd (omega arith)
        go (suc (suc (suc (suc (suc k))))) h = load_place l _ (marked ∙ sym load_marks)

-- ---- row after row

-- as many lines as the resource of the row has
count_alike : (values : List ℤ) → resource_line_count (resource_in values) ≡ line_count (place_of (value values 0))
count_alike values = go (place_of (value values 0))
  where
    go : (k : ℕ) → resource_line_count (resource_of_kind k (row_of values)) ≡ line_count k
    go zero = refl
    go (suc zero) = refl
    go (suc (suc zero)) = refl
    go (suc (suc (suc zero))) = refl
    go (suc (suc (suc (suc zero)))) = refl
    go (suc (suc (suc (suc (suc k))))) = rw (le-ltb (suc (suc (suc (suc (suc k))))) 4 (omega arith))

-- i rows are looked at, and none of them turns the snapshot back
pub record SuspectsUnderWay (rows : List (List ℤ)) (before i : ℕ) : Type 0 where
  pub small : before ≤ 8 + 9 * i
  pub rest : suspect_line (map resource_in rows) ≡ suspect_from before (map resource_in (drop i rows))

pub suspects_start : {rows : List (List ℤ)} → SuspectsUnderWay rows 8 0
suspects_start = record { small = omega arith; rest = refl }

module _ {rows : List (List ℤ)} {before i : ℕ} (so_far : SuspectsUnderWay rows before i) where
  pub suspects_over : length rows ≤ i → 0 ≡ suspect_line (map resource_in rows)
  suspects_over h = sym (so_far.rest ∙ rw (drop_of_length-le rows {i = i} h) (suspect_none before))

  module _ (more : i < length rows) {values : List ℤ} (this : values ≡ get_or rows i []) {place : ℕ} (is : place ≡ suspect_place (resource_in values)) where
    one_due : suspect_line (map resource_in rows) ≡ suspect_from before (resource_in values ∷ map resource_in (drop (suc i) rows))
    one_due = so_far.rest ∙ rw (drop-cons rows i [] more, ← this) refl

    pub suspects_stop : (place ≡ 0 → ⊥) → before + place ≡ suspect_line (map resource_in rows)
    suspects_stop found =
        sym (one_due ∙ suspect_here before (resource_in values) (map resource_in (drop (suc i) rows)) (rw is at found) ∙ ap (λ (n : ℕ). before + n) (sym is))

    pub suspects_next : place ≡ 0 → {count_of : ℕ} → count_of ≡ line_count (place_of (value values 0)) → SuspectsUnderWay rows (before + count_of) (i + 1)
    suspects_next fine {count_of} counts =
        let lines : count_of ≡ resource_line_count (resource_in values) = counts ∙ sym (count_alike values) in
        record {
          small = omega (arith, so_far.small, counts, count_most (place_of (value values 0)));
          rest = one_due ∙ suspect_later before (resource_in values) (map resource_in (drop (suc i) rows)) (sym is ∙ fine) ∙ rw (lines, add-one i);
        }
