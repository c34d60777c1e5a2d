-- Internal to functions: the interval reader, which gets the runs as a part of the hour's text, and the bound by which sums fit a machine number. No public
-- result is stated by it.
use Rattle.text_refusal.specs.declared.refusal.Fault.{Fault}
use Rattle.std.specs.Prelude.{ℕ, ◌≤◌, List, ℤ, nat_abs, Result, Ok, Err}
use Rattle.text_schema.specs.Schema.{Reading, read_fields, repeated, value}
use Rattle.curve_hour.specs.Hour.{run_fields, runs_of, sced_sum}
use Rattle.curve_hour.specs.declared.intervals.Intervals.{Intervals}

-- the sum of SCED and where the last run ends in the part, or the fault of the first refused line
abbrev pub intervals_of : ℕ → Reading ℤ → Result Intervals Fault
intervals_of runs reading = go reading.end
  where
    go : Result ℕ Fault → Result Intervals Fault
    go (Err found) = Err found
    go (Ok next) = Ok (record { sum = sced_sum (runs_of runs reading.values); next = next })

abbrev pub intervals_in : ℕ → List ℕ → Result Intervals Fault
intervals_in runs part = intervals_of runs (read_fields (repeated runs run_fields) part 0)

-- values none of which is beyond a bound
abbrev pub Bounded : ℕ → List ℤ → Type 0
Bounded bound values = (place : ℕ) → nat_abs (value values place) ≤ bound
