-- Document 01, "History to curves": one hour's text, its reserves, and the reserve error.
use Rattle.text_refusal.specs.declared.refusal.Fault.{Fault}
use Rattle.std.specs.Prelude.{ℕ, zero, suc, List, [], ◌∷◌, ltb, ℤ, pos, neg_ℤ, nat_abs, ◌+ℤ◌, ◌-ℤ◌, length, drop, cond, Result, Ok, Err}
use Rattle.integer.specs.Floor.{floor_div}
use Rattle.text_refusal.specs.Bytes.{bytes}
use Rattle.text_refusal.specs.Refusal.{refusal_of}
use Rattle.text_line.specs.Lines.{end_at}
use Rattle.text_line.specs.Field.{Field}
use Rattle.text_number.specs.Field.{number_field}
use Rattle.text_schema.specs.Schema.{Reading, read_fields, repeated, value}
use Rattle.text_refusal.specs.declared.refusal.Refusal.{Refusal}
use Rattle.curve_group.specs.Season.{group_of}
use Rattle.curve_hour.specs.declared.read.HourlyError.{HourlyError}

-- ---- the text

-- a power field of the whole system, in kW
abbrev pub system_power : List ℕ → Field ℤ
system_power key = number_field key (pos 0) (pos 100000000)

-- month and hour, the hour-ahead fields, shed load, and the number of SCED runs
unfoldable pub hour_fields : List (Field ℤ)
hour_fields =
    number_field (bytes "month=") (pos 1) (pos 12)
    ∷ number_field (bytes "hour=") (pos 0) (pos 23)
    ∷ system_power (bytes "ongen=")
    ∷ system_power (bytes "load=")
    ∷ number_field (bytes "tie=") (neg_ℤ (pos 20000000)) (pos 20000000)
    ∷ system_power (bytes "ns=")
    ∷ system_power (bytes "reg=")
    ∷ system_power (bytes "rrs=")
    ∷ system_power (bytes "nclr=")
    ∷ system_power (bytes "offns=")
    ∷ system_power (bytes "cold30=")
    ∷ system_power (bytes "shed=")
    ∷ number_field (bytes "runs=") (pos 1) (pos 60)
    ∷ []

-- the fields of one run, in the order printed in 000, 2.2, step 2
unfoldable pub run_fields : List (Field ℤ)
run_fields =
    system_power (bytes "hsl=")
    ∷ system_power (bytes "base=")
    ∷ system_power (bytes "rrs=")
    ∷ system_power (bytes "nclr=")
    ∷ system_power (bytes "reg=")
    ∷ system_power (bytes "ns=")
    ∷ system_power (bytes "offns=")
    ∷ system_power (bytes "cold30=")
    ∷ system_power (bytes "short=")
    ∷ []

-- ---- the values

-- month, hour, the terms of 000, 2.2, step 1 (hour-ahead), shed load and the number of runs, in the order of the lines
pub record Hour : Type 0 where
  pub month : ℤ
  pub hour : ℤ
  pub ongen : ℤ
  pub load : ℤ
  pub tie : ℤ
  pub ns : ℤ
  pub reg : ℤ
  pub rrs : ℤ
  pub nclr : ℤ
  pub offns : ℤ
  pub cold30 : ℤ
  pub shed : ℤ
  pub runs : ℤ

abbrev pub hour_of : List ℤ → Hour
hour_of v =
    record {
      month = value v 0;
      hour = value v 1;
      ongen = value v 2;
      load = value v 3;
      tie = value v 4;
      ns = value v 5;
      reg = value v 6;
      rrs = value v 7;
      nclr = value v 8;
      offns = value v 9;
      cold30 = value v 10;
      shed = value v 11;
      runs = value v 12;
    }

-- the terms of 000, 2.2, step 2, of one SCED run, in the order of the lines
pub record Run : Type 0 where
  pub hsl : ℤ
  pub base : ℤ
  pub rrs : ℤ
  pub nclr : ℤ
  pub reg : ℤ
  pub ns : ℤ
  pub offns : ℤ
  pub cold30 : ℤ
  pub short : ℤ

abbrev pub run_of : List ℤ → Run
run_of v =
    record {
      hsl = value v 0;
      base = value v 1;
      rrs = value v 2;
      nclr = value v 3;
      reg = value v 4;
      ns = value v 5;
      offns = value v 6;
      cold30 = value v 7;
      short = value v 8;
    }

-- the runs whose values stand one after the other, nine a run
unfoldable pub runs_of : ℕ → List ℤ → List Run
runs_of zero values = []
runs_of (suc n) values = run_of values ∷ runs_of n (drop 9 values)

-- the lines of the hour itself, and the hour that they hold
abbrev pub own_lines : List ℕ → Reading ℤ
own_lines text = read_fields hour_fields text 0

abbrev pub own_hour : List ℕ → Hour
own_hour text = hour_of (own_lines text).values

-- the lines of its runs from a position on, and the runs that they hold
abbrev pub run_lines : List ℕ → ℕ → Reading ℤ
run_lines text at = read_fields (repeated (nat_abs (own_hour text).runs) run_fields) text at

abbrev pub own_runs : List ℕ → ℕ → List Run
own_runs text at = runs_of (nat_abs (own_hour text).runs) (run_lines text at).values

-- ---- reading: 2 above 65536 bytes, then the lines in order with 3 to 7, then 9

-- what an hour's text gives: the hour and its runs, or a refusal
pub data HourAnswer : Type 0 where
  read : Hour → List Run → HourAnswer
  refused : Refusal → HourAnswer

-- after the last run's lines: 9 where bytes follow
abbrev pub after_runs : List ℕ → Hour → List Run → Result ℕ Fault → HourAnswer
after_runs text hour runs (Err found) = refused (refusal_of text found)
after_runs text hour runs (Ok stop) = read hour runs

-- the runs' lines read, or the first refused one
abbrev pub after_run_lines : List ℕ → Hour → List ℤ → Result ℕ Fault → HourAnswer
after_run_lines text hour values (Err found) = refused (refusal_of text found)
after_run_lines text hour values (Ok next) = after_runs text hour (runs_of (nat_abs hour.runs) values) (end_at text next)

-- the runs' lines from a position on
abbrev pub runs_at : List ℕ → Hour → ℕ → HourAnswer
runs_at text hour at =
    let reading = read_fields (repeated (nat_abs hour.runs) run_fields) text at in
    after_run_lines text hour reading.values reading.end

-- the hour's own lines read, or the first refused one
abbrev pub after_own_lines : List ℕ → List ℤ → Result ℕ Fault → HourAnswer
after_own_lines text values (Err found) = refused (refusal_of text found)
after_own_lines text values (Ok next) = runs_at text (hour_of values) next

unfoldable pub hour_in : List ℕ → HourAnswer
hour_in text =
    cond (ltb 65536 (length text))
    (refused (record { number = 2; line = 0 }))
    (after_own_lines text (own_lines text).values (own_lines text).end)

-- ---- the reserves and their error

-- HA, the hour-ahead reserve (000, 2.2, step 1)
unfoldable pub hour_ahead : Hour → ℤ
hour_ahead h = h.ongen -ℤ h.load -ℤ h.tie +ℤ h.ns +ℤ h.reg +ℤ h.rrs +ℤ h.nclr +ℤ h.offns +ℤ h.cold30

-- SCED, the reserve of one run (000, 2.2, step 2)
unfoldable pub sced_reserve : Run → ℤ
sced_reserve r = r.hsl -ℤ r.base +ℤ r.rrs +ℤ r.nclr +ℤ r.reg +ℤ r.ns +ℤ r.offns +ℤ r.cold30 -ℤ r.short

-- the sum of SCED over the runs
unfoldable pub sced_sum : List Run → ℤ
sced_sum [] = pos 0
sced_sum (r ∷ rs) = sced_reserve r +ℤ sced_sum rs

-- e = HA - floor(sum of SCED / runs) + shed: each run counts once
unfoldable pub error_of : Hour → List Run → ℤ
error_of h rs = hour_ahead h -ℤ floor_div (sced_sum rs) (length rs) +ℤ h.shed

-- Group = 6 × season + block, of the hour's month and hour
abbrev pub hour_group : Hour → ℕ
hour_group h = group_of (nat_abs h.month) (nat_abs h.hour)

-- the group and the error of an hour that was read
abbrev pub error_answer : HourAnswer → Result HourlyError Refusal
error_answer (refused found) = Err found
error_answer (read h rs) = Ok (record { group = hour_group h; error = error_of h rs })
