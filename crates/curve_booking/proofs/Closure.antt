-- A booking on a possible record leaves a possible one.
use mathlib.Core.Path.{◌≡◌, refl}
use mathlib.Core.Bool.{Bool, true, false, cond}
use mathlib.Core.List.{List}
use Prim.Native.Nat.{ℕ, ◌+◌, ◌*◌, ◌≤◌, ◌<◌}
use native.Mathlib.Nat.{mul-le-mul}
use native.Mathlib.Omega.{arith}
use borrow.Author.Tests.{leb-true, leb-false}
use lib.Dec.{leb}
use lib.IntN.{ℤ, pos, nat_abs, ◌+ℤ◌, ◌-ℤ◌, ◌*ℤ◌}
use lib.Signed.{◌≤ℤ◌}
use Rattle.std.specs.Prelude.{Ok}
use Rattle.integer.proofs.Difference.{view, to_ℕ}
use Rattle.integer.proofs.Order.{sum_nonneg, square_nonneg}
use Rattle.integer.proofs.Bounds.{abs_add, abs_mul}
use Rattle.curve_record.specs.declared.Group.{Group}
use Rattle.curve_record.specs.declared.Record.{Record}
use Rattle.curve_hour.specs.Hour.{HourAnswer, read, refused, hour_in, hour_group, error_of}
use Rattle.curve_record.specs.Record.{group_at, with_group}
use Rattle.curve_record.specs.Possible.{record_possible}
use Rattle.curve_booking.specs.Booking.{with_error, kept, record_after, book_error, book_hour, booked}
use Rattle.curve_record.proofs.PossibleGroups.{Possible, possible_is, is_possible, possible_at, possible-with_group, squares_more}

-- one more error within the bounds
possible_more : (g : Group) (e : ℤ) → Possible g → g.count < 1000 → nat_abs e ≤ 20000000 → Possible (with_error g e)
unfolding with_error
possible_more g e p room near =
    record {
      small = record {
        count = omega arith;
        sum = omega (arith, abs_add g.sum e, p.small.sum);
        low = sum_nonneg p.small.low (square_nonneg e);
        high = high g.squares (e *ℤ e) g.count p.small.high (omega (arith, abs_mul e e, mul-le-mul near near));
      };
      around = λ x. rw (squares_more g e x) (sum_nonneg (p.around x) (square_nonneg (e -ℤ x)));
    }
  where
    high : (q s : ℤ) (n : ℕ) → q ≤ℤ pos (n * 400000000000000) → nat_abs s ≤ 400000000000000 → (q +ℤ s) ≤ℤ pos ((n + 1) * 400000000000000)
    high q s n = rw (view q, view s) (simp to_ℕ (omega arith))

pub error_possible : (history : Record) (g : ℕ) (e : ℤ) → record_possible history ≡ true → record_possible (record_after history (book_error history g e)) ≡ true
unfolding book_error
error_possible history g e h = go (leb 1000 (group_at history g).count) refl (leb (nat_abs e) 20000000) refl
  where
    changed : Record
    changed = with_group history g (with_error (group_at history g) e)

    go : (full : Bool) → leb 1000 (group_at history g).count ≡ full → (near : Bool) → leb (nat_abs e) 20000000 ≡ near
        → record_possible (record_after history (cond full (kept 10 0) (cond near (Ok changed) (kept 11 0)))) ≡ true
    go true f near n = h
    go false f false n = h
    go false f true n =
        possible-with_group history g (with_error (group_at history g) e) h
        (λ below. is_possible (with_error (group_at history g) e)
        (possible_more (group_at history g) e (possible_is (group_at history g) (possible_at history h g below)) (leb-false 1000 (group_at history g).count f)
        (leb-true (nat_abs e) 20000000 n)))

pub booked-possible : (history : Record) (text : List ℕ) → record_possible history ≡ true → record_possible (record_after history (booked history text)) ≡ true
unfolding booked
booked-possible history text h = rw h (go (hour_in text))
  where
    go : (hour : HourAnswer) → record_possible (record_after history (book_hour history hour)) ≡ true
    go (refused found) = h
    go (read hour runs) = error_possible history (hour_group hour) (error_of hour runs) h
