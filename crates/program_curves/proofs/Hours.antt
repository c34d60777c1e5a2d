-- Hours taken byte by byte are booked as the hours of the whole input are.
use Prim.Native.Nat.{ℕ, ◌≤◌, ◌<◌}
use mathlib.Core.Path.{◌≡◌, refl, sym}
use mathlib.Core.Bool.{Bool, true, false, cond}
use mathlib.Core.List.{List, [], ◌∷◌, ◌++◌}
use native.Mathlib.Omega.{arith}
use borrow.Author.Tests.{leb-false, leb-true}
use lib.Dec.{leb}
use lib.IntN.{ℤ}
use lib.ListN.{length, length-append}
use Rattle.text_refusal.specs.Bytes.{bytes}
use Rattle.text_refusal.specs.declared.refusal.Refusal.{Refusal}
use Rattle.curve_hour.proofs.HourCases.{hour_too_long_lem}
use Rattle.curve_record.specs.Possible.{record_possible}
use Rattle.curve_booking.specs.Booking.{booked}
use Rattle.curve_booking.proofs.Booked.{booked_impossible, booked_refused}
use Rattle.std.specs.Prelude.{Result, Ok, Err}
use Rattle.curve_record.specs.declared.Record.{Record}
use Rattle.text_writer.specs.Output.{refusal_lines}
use Rattle.program_curves.specs.Program.{ends_hour, hours_from, hours_booked}
use Rattle.program_curves.specs.Stream.{State, hour_taken, hour_too_long, fed, fed_all, finished}
use Rattle.program_curves.specs.declared.Stage.TheVariants as stage
use Rattle.program_curves.proofs.Taking.{hour_refused}

-- an hour of more than 65536 bytes: 1, then 2
abbrev too_long : Record → Refusal
too_long history = record { number = cond (record_possible history) 2 1; line = 0 }

booked_too_long : (history : Record) (text : List ℕ) → 65536 < length text → booked history text ≡ Err (too_long history)
booked_too_long history text long = go (record_possible history) refl
  where
    go : (b : Bool) → record_possible history ≡ b → booked history text ≡ Err (record { number = cond (record_possible history) 2 1; line = 0 })
    go true e = rw e (booked_refused history text e (record { number = 2; line = 0 }) (hour_too_long_lem text long))
    go false e = rw e (booked_impossible history text e)

module _ (voll floor : ℤ) where
  abbrev hours : Record → List ℕ → State
  hours history held = record { stage = stage.Hours; voll = voll; floor = floor; history = history; held = held }

  -- no byte after the 65537th changes what is printed
  first_too_long : (history : Record) (hour : List ℕ) (others : List (List ℕ)) → 65536 < length hour →
      hours_booked voll floor history (hour ∷ others) ≡ refusal_lines (too_long history) (bytes "hour")
  unfolding hours_booked
  first_too_long history hour others long = rw (booked_too_long history hour long)

  hours_too_long : (history : Record) (hour rest : List ℕ) → 65536 < length hour →
      hours_booked voll floor history (hours_from hour rest) ≡ refusal_lines (too_long history) (bytes "hour")
  unfolding hours_from
  hours_too_long history [] [] long = absurd (omega arith)
  hours_too_long history (first ∷ hour) [] long = first_too_long history (first ∷ hour) [] long
  hours_too_long history hour (byte ∷ rest) long = go (ends_hour hour byte) (hours_too_long history (hour ++ (byte ∷ [])) rest (rw length-append (omega arith)))
    where
      go :
          (b : Bool) → hours_booked voll floor history (hours_from (hour ++ (byte ∷ [])) rest) ≡ refusal_lines (too_long history) (bytes "hour") →
          hours_booked voll floor history (cond b (hour ∷ hours_from [] rest) (hours_from (hour ++ (byte ∷ [])) rest))
          ≡ refusal_lines (too_long history) (bytes "hour")
      go true others = first_too_long history hour (hours_from [] rest) long
      go false others = others

  pub hours_taken : (history : Record) (held rest : List ℕ) → length held ≤ 65536 →
      finished (fed_all (hours history held) rest) ≡ hours_booked voll floor history (hours_from held rest)
  unfolding fed fed_all finished hours_booked hours_from
  hours_taken history held [] small = refl
  hours_taken history held (byte ∷ rest) small =
      go (ends_hour held byte) (booked history held) refl (leb 65536 (length held)) refl
      (λ changed. hours_taken changed [] rest (omega arith)) (hours_taken history (held ++ (byte ∷ [])) rest)
    where
      go :
          (end : Bool) (booking : Result Record Refusal) → booked history held ≡ booking → (full : Bool) → leb 65536 (length held) ≡ full →
          ((changed : Record) → finished (fed_all (hours changed []) rest) ≡ hours_booked voll floor changed (hours_from [] rest)) →
          (length (held ++ (byte ∷ [])) ≤ 65536 →
          finished (fed_all (hours history (held ++ (byte ∷ []))) rest) ≡ hours_booked voll floor history (hours_from (held ++ (byte ∷ [])) rest)) →
          finished
          (fed_all
          (cond end
          (hour_taken (hours history held) (booked history held))
          (cond full (hour_too_long (hours history held)) (hours history (held ++ (byte ∷ [])))))
          rest)
          ≡ hours_booked voll floor history (cond end (held ∷ hours_from [] rest) (hours_from (held ++ (byte ∷ [])) rest))
      go true (Ok changed) a full f booked_on one_more = rw a (booked_on changed)
      go true (Err found) a full f booked_on one_more = rw (a, hour_refused)
      go false booking a true f booked_on one_more = rw hour_refused (sym (hours_too_long history (held ++ (byte ∷ [])) rest (rw length-append (omega (arith, leb-true 65536 (length held) f)))))
      go false booking a false f booked_on one_more = one_more (rw length-append (omega (arith, leb-false 65536 (length held) f)))
