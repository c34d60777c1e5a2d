-- The runs of an hour, read one after the other: their sum so far, and how far it can go.
use Prim.Native.Nat.{ℕ, zero, suc, ◌+◌, ◌-◌, ◌*◌, ◌≤◌, ◌<◌}
use native.Mathlib.Nat.{sub-zero}
use native.Mathlib.Omega.{arith}
use mathlib.Core.List.{List, ◌++◌}
use mathlib.Core.Path.{◌≡◌, refl, sym, ap, ◌∙◌}
use lib.IntN.{ℤ, pos, nat_abs, ◌+ℤ◌, ◌-ℤ◌, +ℤ_assoc, +ℤ_idl, +ℤ_idr}
use lib.ListN.{length, replicate, drop, get_or-append}
use lib.Seq.{drop_at}
use Rattle.std.specs.Prelude.{Result, Ok, Err}
use Rattle.integer.proofs.Bounds.{abs_add, abs_sub}
use Rattle.text_refusal.specs.Bytes.{bytes}
use Rattle.text_schema.specs.Schema.{Reading, read_fields, repeated, number_fields, keys_of, placed_fields, LinesRead, value}
use Rattle.text_refusal.specs.declared.refusal.Fault.{Fault}
use Rattle.curve_hour.specs.Hour.{run_fields, run_of, runs_of, sced_reserve, sced_sum}
use Rattle.curve_hour.specs.internal.Intervals.{intervals_of, intervals_in, Bounded}
use Rattle.curve_hour.specs.internal.Ranges.{RunInRange}
use Rattle.curve_hour.specs.declared.intervals.Intervals.{Intervals}
use Rattle.text_schema.proofs.Moved.{lines_position, reading_within}
use Rattle.text_schema.proofs.Fields.{repeated_none, repeated_more, schema_computed, placed_computed}
use Rattle.text_schema.proofs.Readings.{reading_none, reading_append, reading_length, lines_ends, lines_values, Within, values_within, values_bounded}

pub runs_length : (n : ℕ) (values : List ℤ) → length (runs_of n values) ≡ n
unfolding runs_of
runs_length zero values = refl
runs_length (suc n) values = ap suc (runs_length n (drop 9 values))

-- ---- the values of one run

abbrev pub run_keys : List ℕ
run_keys = bytes "hsl=base=rrs=nclr=reg=ns=offns=cold30=short="

pub run_schema : number_fields (keys_of run_keys) (replicate 9 (pos 0)) (replicate 9 (pos 100000000)) ≡ run_fields
unfolding run_fields
run_schema = schema_computed run_keys (replicate 9 (pos 0)) (replicate 9 (pos 100000000))

pub run_places : placed_fields run_keys (replicate 9 (pos 0)) (replicate 9 (pos 100000000)) (replicate 9 (pos 0)) ≡ run_fields
unfolding run_fields
run_places = placed_computed run_keys (replicate 9 (pos 0)) (replicate 9 (pos 100000000)) (replicate 9 (pos 0))

pub run_count : length run_fields ≡ 9
unfolding run_fields
run_count = refl

module _ (part : List ℕ) (at next : ℕ) (e : (read_fields run_fields part at).end ≡ Ok next) where
  pub run_values : length (read_fields run_fields part at).values ≡ 9
  run_values = reading_length run_fields part at next e ∙ run_count

  run_within : (place : ℕ) → place < 9 → Within (value (replicate 9 (pos 0)) place) (value (replicate 9 (pos 100000000)) place) (value (read_fields run_fields part at).values place)
  run_within place h =
      let below : place < length run_fields = rw run_count h in
      rw (← run_schema) (values_within (keys_of run_keys) (replicate 9 (pos 0)) (replicate 9 (pos 100000000)) part at next (rw run_schema e) place (rw run_schema below))

  pub run_ranges : RunInRange (run_of (read_fields run_fields part at).values)
  run_ranges =
      record {
        hsl = run_within 0 (omega arith);
        base = run_within 1 (omega arith);
        rrs = run_within 2 (omega arith);
        nclr = run_within 3 (omega arith);
        reg = run_within 4 (omega arith);
        ns = run_within 5 (omega arith);
        offns = run_within 6 (omega arith);
        cold30 = run_within 7 (omega arith);
        short = run_within 8 (omega arith);
      }

  pub run_bounded : Bounded 100000000 (read_fields run_fields part at).values
  run_bounded place =
      rw (← run_schema)
      (values_bounded 100000000 (keys_of run_keys) (replicate 9 (pos 0)) (replicate 9 (pos 100000000)) refl refl part at next (rw run_schema e) place)

pub sced_bounded : (values : List ℤ) → Bounded 100000000 values → nat_abs (sced_reserve (run_of values)) ≤ 900000000
unfolding sced_reserve
sced_bounded values b =
    sums
    (value values 0)
    (value values 1)
    (value values 2)
    (value values 3)
    (value values 4)
    (value values 5)
    (value values 6)
    (value values 7)
    (value values 8)
    (b 0)
    (b 1)
    (b 2)
    (b 3)
    (b 4)
    (b 5)
    (b 6)
    (b 7)
    (b 8)
  where
    small : ℤ → Type 0
    small z = nat_abs z ≤ 100000000

    sums :
        (p q r s t u v w x : ℤ) → small p → small q → small r → small s → small t → small u → small v → small w → small x →
        nat_abs (p -ℤ q +ℤ r +ℤ s +ℤ t +ℤ u +ℤ v +ℤ w -ℤ x) ≤ 900000000
    sums p q r s t u v w x h0 h1 h2 h3 h4 h5 h6 h7 h8 =
        omega (
          arith,
          abs_sub p q,
          abs_add (p -ℤ q) r,
          abs_add (p -ℤ q +ℤ r) s,
          abs_add (p -ℤ q +ℤ r +ℤ s) t,
          abs_add (p -ℤ q +ℤ r +ℤ s +ℤ t) u,
          abs_add (p -ℤ q +ℤ r +ℤ s +ℤ t +ℤ u) v,
          abs_add (p -ℤ q +ℤ r +ℤ s +ℤ t +ℤ u +ℤ v) w,
          abs_sub (p -ℤ q +ℤ r +ℤ s +ℤ t +ℤ u +ℤ v +ℤ w) x,
        )

-- a run as the reader of lines gives it
module _
    {part : List ℕ} {at : ℕ} {values : List ℤ} {ended : Result ℕ Fault}
    (read : LinesRead part at run_keys (replicate 9 (pos 0)) (replicate 9 (pos 100000000)) (replicate 9 (pos 0)) values ended) where
  pub run_ends : ended ≡ (read_fields run_fields part at).end
  run_ends = lines_ends run_fields run_places run_count read

  pub run_filled : (next : ℕ) → ended ≡ Ok next → values ≡ (read_fields run_fields part at).values
  run_filled = lines_values run_fields run_places run_count read

  pub run_in_range : (next : ℕ) → ended ≡ Ok next → RunInRange (run_of values)
  run_in_range next e = rw (run_filled next e) (run_ranges part at next (sym run_ends ∙ e))

  -- one run as an interval reader gives it
  pub one_refused : {found : Fault} → ended ≡ Err found → Err found ≡ intervals_of 1 (read_fields run_fields part at)
  one_refused told = rw (← run_ends, told)

  pub one_read : {next : ℕ} {reserve : ℤ} → ended ≡ Ok next → reserve ≡ sced_reserve (run_of values) → Ok (record { sum = reserve; next = next }) ≡ intervals_of 1 (read_fields run_fields part at)
  unfolding runs_of sced_sum
  one_read {next} told is =
      rw (← run_ends, told, is, run_filled next told, +ℤ_idr (sced_reserve (run_of (read_fields run_fields part at).values)))

-- what the answer of one run says of its lines
module _ (reading : Reading ℤ) where
  pub refused_run : {found : Fault} → intervals_of 1 reading ≡ Err found → reading.end ≡ Err found
  refused_run {found} e = go reading.end refl e
    where
      go : (end : Result ℕ Fault) → reading.end ≡ end → intervals_of 1 (record { values = reading.values; end = end }) ≡ Err found → reading.end ≡ Err found
      go (Err other) is e = let same : other ≡ found = cc in rw (is, same)
      go (Ok next) is e = let z : ◌≡◌ {A = ℕ} 0 1 = cc in absurd (omega arith)

  pub read_run :
      {run : Intervals} → intervals_of 1 reading ≡ Ok run →
      (reading.end ≡ Ok run.next) × (run.sum ≡ sced_reserve (run_of reading.values))
  unfolding runs_of sced_sum
  read_run {run} e = go reading.end refl e
    where
      go :
          (end : Result ℕ Fault) → reading.end ≡ end → intervals_of 1 (record { values = reading.values; end = end }) ≡ Ok run →
          (reading.end ≡ Ok run.next) × (run.sum ≡ sced_reserve (run_of reading.values))
      go (Err other) is e = let z : ◌≡◌ {A = ℕ} 0 1 = cc in absurd (omega arith)
      go (Ok next) is e =
          let read : ◌≡◌ {A = Intervals} (record { sum = sced_reserve (run_of reading.values) +ℤ pos 0; next = next }) run = cc in
          let same = ap (λ (r : Intervals). r.next) read in
          let sum = ap (λ (r : Intervals). r.sum) read in
          (rw (is, same), sym sum ∙ +ℤ_idr (sced_reserve (run_of reading.values)))

-- ---- one run more

-- the runs from a position on, and a sum that stands before them
abbrev pub intervals_from : ℕ → List ℕ → ℕ → Result Intervals Fault
intervals_from n part at = intervals_of n (read_fields (repeated n run_fields) part at)

abbrev pub with_sum : ℤ → Result Intervals Fault → Result Intervals Fault
with_sum sum (Ok others) = Ok (record { sum = sum +ℤ others.sum; next = others.next })
with_sum sum (Err found) = Err found

with_sums : (first second : ℤ) (others : Result Intervals Fault) → with_sum first (with_sum second others) ≡ with_sum (first +ℤ second) others
with_sums first second (Ok others) = rw (+ℤ_assoc first second others.sum)
with_sums first second (Err found) = refl

no_sum : (others : Result Intervals Fault) → others ≡ with_sum (pos 0) others
no_sum (Ok others) = rw (+ℤ_idl others.sum)
no_sum (Err found) = refl

run_first : (values others : List ℤ) → length values ≡ 9 → run_of (values ++ others) ≡ run_of values
run_first values others e =
    let first : (place : ℕ) → place < 9 → value (values ++ others) place ≡ value values place = λ place h. get_or-append values others (pos 0) place (omega arith) in
    rw (
      first 0 (omega arith),
      first 1 (omega arith),
      first 2 (omega arith),
      first 3 (omega arith),
      first 4 (omega arith),
      first 5 (omega arith),
      first 6 (omega arith),
      first 7 (omega arith),
      first 8 (omega arith),
    )

module _ (n : ℕ) (part : List ℕ) (at : ℕ) where
  run_read :
      (next : ℕ) → (read_fields run_fields part at).end ≡ Ok next →
      intervals_from (suc n) part at ≡ with_sum (sced_reserve (run_of (read_fields run_fields part at).values)) (intervals_from n part next)
  unfolding runs_of sced_sum
  run_read next e = rw (repeated_more run_fields n, reading_append run_fields (repeated n run_fields) part at, e) (go (read_fields (repeated n run_fields) part next))
    where
      values : List ℤ
      values = (read_fields run_fields part at).values

      go : (others : Reading ℤ) → intervals_of (suc n) (record { values = values ++ others.values; end = others.end }) ≡ with_sum (sced_reserve (run_of values)) (intervals_of n others)
      go others = by_end others.end refl
        where
          by_end : (end : Result ℕ Fault) → others.end ≡ end → intervals_of (suc n) (record { values = values ++ others.values; end = others.end }) ≡ with_sum (sced_reserve (run_of values)) (intervals_of n others)
          by_end (Ok after) h = rw (h, run_first values others.values (run_values part at next e), drop_at values others.values 9 (run_values part at next e))
          by_end (Err found) h = rw h

  run_refused : (found : Fault) → (read_fields run_fields part at).end ≡ Err found → intervals_from (suc n) part at ≡ Err found
  run_refused found e = rw (repeated_more run_fields n, reading_append run_fields (repeated n run_fields) part at, e)

-- ---- bounds

abbrev pub sum_size : Result Intervals Fault → ℕ
sum_size (Ok read) = nat_abs read.sum
sum_size (Err found) = 0

pub runs_bounded : (n : ℕ) (part : List ℕ) (at : ℕ) → sum_size (intervals_from n part at) ≤ n * 900000000
unfolding runs_of sced_sum
runs_bounded zero part at = rw (repeated_none run_fields, reading_none {A = ℤ} part at) (omega arith)
runs_bounded (suc n) part at = go (read_fields run_fields part at).end refl (runs_bounded n part)
  where
    more : (reserve : ℤ) (others : Result Intervals Fault) → nat_abs reserve ≤ 900000000 → sum_size others ≤ n * 900000000 → sum_size (with_sum reserve others) ≤ suc n * 900000000
    more reserve (Ok others) h k = omega (arith, abs_add reserve others.sum)
    more reserve (Err found) h k = omega arith

    go : (end : Result ℕ Fault) → (read_fields run_fields part at).end ≡ end → ((at : ℕ) → sum_size (intervals_from n part at) ≤ n * 900000000) → sum_size (intervals_from (suc n) part at) ≤ suc n * 900000000
    go (Ok next) e again =
        rw (run_read n part at next e)
        (more (sced_reserve (run_of (read_fields run_fields part at).values)) (intervals_from n part next) (sced_bounded (read_fields run_fields part at).values (run_bounded part at next e)) (again next))
    go (Err found) e again = rw (run_refused n part at found e) (omega arith)

-- where reading the runs stopped in their part
abbrev pub intervals_position : Result Intervals Fault → ℕ
intervals_position (Ok read) = read.next
intervals_position (Err found) = found.at

pub runs_within : (n : ℕ) (part : List ℕ) → intervals_position (intervals_in n part) ≤ length part
runs_within n part = go (read_fields (repeated n run_fields) part 0) (reading_within part (repeated n run_fields) 0 (omega arith))
  where
    go : (reading : Reading ℤ) → lines_position reading.end ≤ length part → intervals_position (intervals_of n reading) ≤ length part
    go reading h = by_end reading.end refl h
      where
        by_end : (end : Result ℕ Fault) → reading.end ≡ end → lines_position end ≤ length part → intervals_position (intervals_of n reading) ≤ length part
        by_end (Ok next) e h = rw e h
        by_end (Err found) e h = rw e h

-- ---- the loop: i runs are read, and those that are left start at a position

pub record RunsRead (runs : ℕ) (part : List ℕ) (sum : ℤ) (next i : ℕ) : Type 0 where
  pub some : i ≤ runs
  pub small : nat_abs sum ≤ i * 900000000
  pub rest : intervals_in runs part ≡ with_sum sum (intervals_from (runs - i) part next)

pub runs_start : (runs : ℕ) (part : List ℕ) → RunsRead runs part (pos 0) 0 0
runs_start runs part = record { some = omega arith; small = omega arith; rest = rw sub-zero (no_sum (intervals_in runs part)) }

module _ {runs : ℕ} {part : List ℕ} {sum : ℤ} {next i : ℕ} (so_far : RunsRead runs part sum next i) where
  pub runs_over : runs ≤ i → Ok (record { sum = sum; next = next }) ≡ intervals_in runs part
  unfolding runs_of sced_sum
  runs_over h =
      let none : runs - i ≡ 0 = omega arith in
      rw (so_far.rest, none, repeated_none run_fields, reading_none {A = ℤ} part next, +ℤ_idr sum)

  module _ (h : i < runs) where
    one_less : runs - i ≡ suc (runs - (i + 1))
    one_less = omega arith

    pub runs_refused : {given : Result Intervals Fault} {found : Fault} → given ≡ intervals_of 1 (read_fields run_fields part next) → given ≡ Err found → Err found ≡ intervals_in runs part
    runs_refused {found = found} is told =
        rw (so_far.rest, one_less, run_refused (runs - (i + 1)) part next found (refused_run (read_fields run_fields part next) (sym is ∙ told)))

    module _ {given : Result Intervals Fault} {run : Intervals} (is : given ≡ intervals_of 1 (read_fields run_fields part next)) (told : given ≡ Ok run) where
      one : ((read_fields run_fields part next).end ≡ Ok run.next) × (run.sum ≡ sced_reserve (run_of (read_fields run_fields part next).values))
      one = read_run (read_fields run_fields part next) (sym is ∙ told)

      pub reserve_small : nat_abs run.sum ≤ 900000000
      reserve_small = rw one.1 (sced_bounded (read_fields run_fields part next).values (run_bounded part next run.next one.0))

      pub runs_more : RunsRead runs part (sum +ℤ run.sum) run.next (i + 1)
      runs_more =
          record {
            some = omega arith;
            small = omega (arith, so_far.small, abs_add sum run.sum, reserve_small);
            rest = rw (so_far.rest, one_less, run_read (runs - (i + 1)) part next run.next one.0, one.1) (with_sums sum (sced_reserve (run_of (read_fields run_fields part next).values)) (intervals_from (runs - (i + 1)) part run.next));
          }
