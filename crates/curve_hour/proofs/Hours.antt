-- An hour's text: the ranges of its values, its group, and its answer from what the interval reader gives.
use Prim.Native.Nat.{ℕ, ◌+◌, ◌-◌, ◌*◌, ◌≤◌, ◌<◌}
use native.Mathlib.Nat.{add-zero}
use native.Mathlib.Omega.{arith}
use mathlib.Core.Bool.{Bool, true, false, cond}
use mathlib.Core.List.{List, [], ◌∷◌}
use mathlib.Core.Path.{◌≡◌, refl, sym, ◌∙◌}
use lib.Dec.{ltb}
use lib.IntN.{ℤ, pos, neg_ℤ, nat_abs, ◌+ℤ◌, ◌-ℤ◌}
use lib.Signed.{◌≤ℤ◌}
use lib.ListN.{length, replicate, take, drop, length-drop}
use lib.Seq.{take_all}
use borrow.Author.Tests.{lt-ltb, le-ltb}
use Rattle.std.specs.Prelude.{Result, Ok, Err}
use Rattle.integer.specs.Floor.{floor_div}
use Rattle.integer.proofs.Difference.{view, to_ℕ}
use Rattle.integer.proofs.Floor.{floor_bound}
use Rattle.text_refusal.specs.Bytes.{bytes}
use Rattle.text_line.specs.Lines.{end_at}
use Rattle.text_refusal.specs.Refusal.{refusal_of}
use Rattle.text_line.specs.Field.{Field}
use Rattle.text_schema.specs.Schema.{Reading, read_fields, repeated, number_fields, keys_of, placed_fields, LinesRead, value}
use Rattle.curve_group.proofs.Season.{group_below}
use Rattle.text_refusal.specs.declared.refusal.Fault.{Fault}
use Rattle.curve_hour.specs.Hour.{Hour, hour_fields, hour_of, Run, run_fields, runs_of, read, refused, after_runs, after_run_lines, runs_at, after_own_lines, hour_in, hour_ahead, sced_sum, error_of, hour_group, error_answer}
use Rattle.curve_hour.specs.internal.Intervals.{intervals_of, intervals_in}
use Rattle.curve_hour.specs.internal.Ranges.{HourInRange}
use Rattle.text_refusal.specs.declared.refusal.Refusal.{Refusal}
use Rattle.curve_hour.specs.declared.intervals.Intervals.{Intervals}
use Rattle.curve_hour.specs.declared.read.HourlyError.{HourlyError}
use Rattle.text_line.proofs.FieldTexts.{moved_fault}
use Rattle.text_schema.proofs.Moved.{moved_lines, moved_reading, reading_moved, reading_within}
use Rattle.text_schema.proofs.Fields.{schema_computed, placed_computed}
use Rattle.text_schema.proofs.Readings.{Within, values_within, lines_ends, lines_values}
use Rattle.curve_hour.proofs.Runs.{sum_size, intervals_position, runs_length, runs_bounded, runs_within}

-- ---- the values of the hour's own lines

abbrev pub hour_keys : List ℕ
hour_keys = bytes "month=hour=ongen=load=tie=ns=reg=rrs=nclr=offns=cold30=shed=runs="

abbrev pub hour_lows : List ℤ
hour_lows = pos 1 ∷ pos 0 ∷ pos 0 ∷ pos 0 ∷ neg_ℤ (pos 20000000) ∷ pos 0 ∷ pos 0 ∷ pos 0 ∷ pos 0 ∷ pos 0 ∷ pos 0 ∷ pos 0 ∷ pos 1 ∷ []

abbrev pub hour_highs : List ℤ
hour_highs =
    pos 12 ∷ pos 23 ∷ pos 100000000 ∷ pos 100000000 ∷ pos 20000000 ∷ pos 100000000 ∷ pos 100000000 ∷ pos 100000000 ∷ pos 100000000 ∷ pos 100000000 ∷ pos 100000000 ∷ pos 100000000 ∷ pos 60 ∷ []

hour_schema : number_fields (keys_of hour_keys) hour_lows hour_highs ≡ hour_fields
unfolding hour_fields
hour_schema = schema_computed hour_keys hour_lows hour_highs

pub hour_places : placed_fields hour_keys hour_lows hour_highs (replicate 13 (pos 0)) ≡ hour_fields
unfolding hour_fields
hour_places = placed_computed hour_keys hour_lows hour_highs (replicate 13 (pos 0))

pub hour_count : length hour_fields ≡ 13
unfolding hour_fields
hour_count = refl

module _ (text : List ℕ) (at next : ℕ) (e : (read_fields hour_fields text at).end ≡ Ok next) where
  within : (place : ℕ) → place < 13 → Within (value hour_lows place) (value hour_highs place) (value (read_fields hour_fields text at).values place)
  within place h =
      let below : place < length hour_fields = rw hour_count h in
      rw (← hour_schema) (values_within (keys_of hour_keys) hour_lows hour_highs text at next (rw hour_schema e) place (rw hour_schema below))

  pub hour_ranges : HourInRange (hour_of (read_fields hour_fields text at).values)
  hour_ranges =
      record {
        month = within 0 (omega arith);
        hour = within 1 (omega arith);
        ongen = within 2 (omega arith);
        load = within 3 (omega arith);
        tie = within 4 (omega arith);
        ns = within 5 (omega arith);
        reg = within 6 (omega arith);
        rrs = within 7 (omega arith);
        nclr = within 8 (omega arith);
        offns = within 9 (omega arith);
        cold30 = within 10 (omega arith);
        shed = within 11 (omega arith);
        runs = within 12 (omega arith);
      }

-- ---- the group and the number of runs

nat_range : (z : ℤ) (low high : ℕ) → pos low ≤ℤ z → z ≤ℤ pos high → (low ≤ nat_abs z) × (nat_abs z ≤ high)
nat_range z low high = rw (view z) (simp to_ℕ (omega arith))

ranged_group_below : (h : Hour) → HourInRange h → hour_group h < 24
ranged_group_below h range = group_below (nat_abs h.month) (nat_abs h.hour) (nat_range h.hour 0 23 range.hour.0 range.hour.1).1

pub runs_range : (h : Hour) → HourInRange h → (1 ≤ nat_abs h.runs) × (nat_abs h.runs ≤ 60)
runs_range h range = nat_range h.runs 1 60 range.runs.0 range.runs.1

-- what an hour that was read is known to be
pub record HourRead (h : Hour) (rs : List Run) : Type 0 where
  pub range : HourInRange h
  pub counted : length rs ≡ nat_abs h.runs
  pub some : 1 ≤ length rs

pub hour_read : (text : List ℕ) (h : Hour) (rs : List Run) → hour_in text ≡ read h rs → HourRead h rs
unfolding hour_in
hour_read text h rs e = by_length (ltb 65536 (length text)) e
  where
    values : List ℤ
    values = (read_fields hour_fields text 0).values

    last : (next : ℕ) → (read_fields hour_fields text 0).end ≡ Ok next → (others : List ℤ) (ended : Result ℕ Fault) → after_runs text (hour_of values) (runs_of (nat_abs (hour_of values).runs) others) ended ≡ read h rs → HourRead h rs
    last next told others (Err found) e = let z : ◌≡◌ {A = ℕ} 0 1 = cc in absurd (omega arith)
    last next told others (Ok stop) e =
        let same : hour_of values ≡ h = cc in
        let runs : runs_of (nat_abs (hour_of values).runs) others ≡ rs = cc in
        let counted = runs_length (nat_abs (hour_of values).runs) others in
        let range = hour_ranges text 0 next told in
        rw (← same, ← runs) (record { range = range; counted = counted; some = omega (arith, (runs_range (hour_of values) range).0) })

    by_runs : (next : ℕ) → (read_fields hour_fields text 0).end ≡ Ok next → (others : List ℤ) (ended : Result ℕ Fault) → after_run_lines text (hour_of values) others ended ≡ read h rs → HourRead h rs
    by_runs next told others (Ok after) e = last next told others (end_at text after) e
    by_runs next told others (Err found) e = let z : ◌≡◌ {A = ℕ} 0 1 = cc in absurd (omega arith)

    by_hour : (ended : Result ℕ Fault) → (read_fields hour_fields text 0).end ≡ ended → after_own_lines text values ended ≡ read h rs → HourRead h rs
    by_hour (Ok next) told e =
        let reading = read_fields (repeated (nat_abs (hour_of values).runs) run_fields) text next in by_runs next told reading.values reading.end e
    by_hour (Err found) told e = let z : ◌≡◌ {A = ℕ} 0 1 = cc in absurd (omega arith)

    by_length : (b : Bool) → cond b (refused (record { number = 2; line = 0 })) (after_own_lines text values (read_fields hour_fields text 0).end) ≡ read h rs → HourRead h rs
    by_length true e = let z : ◌≡◌ {A = ℕ} 0 1 = cc in absurd (omega arith)
    by_length false e = by_hour (read_fields hour_fields text 0).end refl e

pub hour_group_below : (text : List ℕ) (h : Hour) (rs : List Run) → hour_in text ≡ read h rs → hour_group h < 24
hour_group_below text h rs e = ranged_group_below h (hour_read text h rs e).range

-- ---- the answer, from what the interval reader gives on the part that starts at a position

abbrev pub answer_at_end : List ℕ → Hour → ℤ → Result ℕ Fault → Result HourlyError Refusal
answer_at_end text h sum (Err found) = Err (refusal_of text found)
answer_at_end text h sum (Ok stop) = Ok (record { group = hour_group h; error = hour_ahead h -ℤ floor_div sum (nat_abs h.runs) +ℤ h.shed })

abbrev pub answer_from : List ℕ → Hour → ℕ → Result Intervals Fault → Result HourlyError Refusal
answer_from text h at (Err found) = Err (refusal_of text (moved_fault at found))
answer_from text h at (Ok sums) = answer_at_end text h sums.sum (end_at text (at + sums.next))

reading_from : {A : Type 0} (fields : List (Field A)) (text : List ℕ) (at : ℕ) → read_fields fields text at ≡ moved_reading at (read_fields fields (drop at text) 0)
reading_from fields text at = rw add-zero at (reading_moved fields text at 0)

runs_answer : (text : List ℕ) (h : Hour) (at : ℕ) → answer_from text h at (intervals_in (nat_abs h.runs) (drop at text)) ≡ error_answer (runs_at text h at)
unfolding error_of
runs_answer text h at = rw (reading_from (repeated n run_fields) text at) (by_end (read_fields (repeated n run_fields) (drop at text) 0))
  where
    n : ℕ
    n = nat_abs h.runs

    ended : (values : List ℤ) (found : Result ℕ Fault) → answer_at_end text h (sced_sum (runs_of n values)) found ≡ error_answer (after_runs text h (runs_of n values) found)
    ended values (Err found) = refl
    ended values (Ok stop) = rw (runs_length n values)

    by_end : (reading : Reading ℤ) → answer_from text h at (intervals_of n reading) ≡ error_answer (after_run_lines text h reading.values (moved_lines at reading.end))
    by_end reading = go reading.end refl
      where
        go : (end : Result ℕ Fault) → reading.end ≡ end → answer_from text h at (intervals_of n reading) ≡ error_answer (after_run_lines text h reading.values (moved_lines at reading.end))
        go (Ok next) e = rw e (ended reading.values (end_at text (at + next)))
        go (Err found) e = rw e

pub hour_long : (text : List ℕ) → 65536 < length text → Err (record { number = 2; line = 0 }) ≡ error_answer (hour_in text)
unfolding hour_in
hour_long text h = rw (lt-ltb 65536 (length text) h)

-- ---- the answer, from what the functions give

-- the interval reader read the part from a position on
module _
    (text : List ℕ) (h : Hour) (next : ℕ) {runs : ℕ} (inside : next ≤ length text) (counted : runs ≡ nat_abs h.runs)
    {given : Result Intervals Fault} (reads : given ≡ intervals_in runs (take (length text - next) (drop next text))) where
  rest_read : given ≡ intervals_in runs (drop next text)
  rest_read = rw (take_all (length text - next) (drop next text) (omega (arith, length-drop next text))) at reads

  pub given_within : next + intervals_position given ≤ length text
  given_within = rw rest_read (omega (arith, inside, length-drop next text, runs_within runs (drop next text)))

  pub runs_answers : (found : Result Intervals Fault) → given ≡ found → answer_from text h next found ≡ error_answer (runs_at text h next)
  runs_answers found is = rw (← is, rest_read, counted) (runs_answer text h next)

  module _ (sums : Intervals) (is : given ≡ Ok sums) where
    pub runs_ended : (found : Result ℕ Fault) → found ≡ end_at text (next + sums.next) → answer_at_end text h sums.sum found ≡ error_answer (runs_at text h next)
    runs_ended found e = rw e (runs_answers (Ok sums) is)

    pub mean_small : nat_abs (floor_div sums.sum runs) ≤ 900000000
    mean_small =
        let size : sum_size given ≤ runs * 900000000 = rw rest_read (runs_bounded runs (drop next text) 0) in
        floor_bound sums.sum runs 900000000 (rw is at size)

-- the hour's own lines were read by their schema
module _
    {text : List ℕ} {values : List ℤ} {ended : Result ℕ Fault} (short : length text ≤ 65536)
    (read : LinesRead text 0 hour_keys hour_lows hour_highs (replicate 13 (pos 0)) values ended) where
  own_ends : ended ≡ (read_fields hour_fields text 0).end
  own_ends = lines_ends hour_fields hour_places hour_count read

  pub hour_refused : (found : Fault) → ended ≡ Err found → Err (refusal_of text found) ≡ error_answer (hour_in text)
  unfolding hour_in
  hour_refused found told = rw (le-ltb 65536 (length text) short, ← own_ends, told)

  module _ (next : ℕ) (told : ended ≡ Ok next) where
    own_values : values ≡ (read_fields hour_fields text 0).values
    own_values = lines_values hour_fields hour_places hour_count read next told

    own_read : (read_fields hour_fields text 0).end ≡ Ok next
    own_read = sym own_ends ∙ told

    pub next_within : next ≤ length text
    next_within = rw own_read at (reading_within text hour_fields 0 (omega arith))

    pub own_ranges : HourInRange (hour_of values)
    own_ranges = rw own_values (hour_ranges text 0 next own_read)

    pub runs_left : error_answer (runs_at text (hour_of values) next) ≡ error_answer (hour_in text)
    unfolding hour_in
    runs_left = rw (le-ltb 65536 (length text) short, own_read, ← own_values)
