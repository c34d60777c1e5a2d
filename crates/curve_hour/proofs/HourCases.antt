-- What an hour's text gives, case by case, and how its error follows HA.
use Prim.Native.Nat.{ℕ, ◌≤◌, ◌<◌}
use native.Mathlib.Omega.{arith}
use mathlib.Core.List.{List}
use mathlib.Core.Path.{◌≡◌, sym}
use lib.IntN.{ℤ, pos, ◌+ℤ◌, ◌-ℤ◌}
use lib.ListN.{length}
use borrow.Author.Tests.{lt-ltb, le-ltb}
use Rattle.std.specs.Prelude.{Ok, Err}
use Rattle.integer.specs.Floor.{floor_div}
use Rattle.integer.proofs.Difference.{view, to_ℕ}
use Rattle.text_refusal.specs.Refusal.{line_of, refusal_of}
use Rattle.text_refusal.specs.declared.refusal.Fault.{Fault}
use Rattle.curve_hour.specs.Hour.{Hour, Run, read, refused, own_lines, own_hour, run_lines, own_runs, hour_in, hour_ahead, sced_sum, error_of}

-- ---- reading

module _ (text : List ℕ) where
  pub hour_too_long_lem : 65536 < length text → hour_in text ≡ refused (record { number = 2; line = 0 })
  unfolding hour_in
  hour_too_long_lem long = rw (lt-ltb 65536 (length text) long)

  module _ (short : length text ≤ 65536) where
    pub hour_line_refused : (found : Fault) → (own_lines text).end ≡ Err found → hour_in text ≡ refused (refusal_of text found)
    unfolding hour_in
    hour_line_refused found e = rw (le-ltb 65536 (length text) short, e)

    module _ (next : ℕ) (own : (own_lines text).end ≡ Ok next) where
      pub run_line_refused : (found : Fault) → (run_lines text next).end ≡ Err found → hour_in text ≡ refused (refusal_of text found)
      unfolding hour_in
      run_line_refused found e = rw (le-ltb 65536 (length text) short, own, e)

      module _ (stop : ℕ) (runs : (run_lines text next).end ≡ Ok stop) where
        pub hour_bytes_follow : stop < length text → hour_in text ≡ refused (record { number = 9; line = line_of text stop })
        unfolding hour_in
        hour_bytes_follow more = rw (le-ltb 65536 (length text) short, own, runs, lt-ltb stop (length text) more)

        pub hour_whole : length text ≤ stop → hour_in text ≡ read (own_hour text) (own_runs text next)
        unfolding hour_in
        hour_whole over = rw (le-ltb 65536 (length text) short, own, runs, le-ltb stop (length text) over)

-- ---- the error falls as HA does

pub error_lowered : (d : ℕ) (first second : Hour) (runs : List Run) → first.shed ≡ second.shed → hour_ahead second ≡ hour_ahead first -ℤ pos d
    → error_of second runs ≡ error_of first runs -ℤ pos d
unfolding error_of
error_lowered d first second runs s h = rw (h, sym s) (go (hour_ahead first) (floor_div (sced_sum runs) (length runs)) first.shed)
  where
    go : (a f s : ℤ) → a -ℤ pos d -ℤ f +ℤ s ≡ a -ℤ f +ℤ s -ℤ pos d
    go a f s = rw (view a, view f, view s) (simp to_ℕ (omega arith))
