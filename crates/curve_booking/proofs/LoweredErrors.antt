-- One more error in each of two groups, the second error lower by the same d.
use mathlib.Core.Path.{◌≡◌, ap}
use Prim.Native.Nat.{ℕ, ◌+◌}
use native.Mathlib.Omega.{arith}
use lib.IntN.{ℤ, pos, ◌+ℤ◌, ◌-ℤ◌, ◌*ℤ◌}
use Rattle.integer.proofs.Difference.{view, to_ℕ, to_ℕ_products}
use Rattle.curve_record.specs.declared.Group.{Group}
use Rattle.curve_record.proofs.Lowered.{Lowered}
use Rattle.curve_booking.specs.Booking.{with_error}

pub lowered_more : (d : ℕ) (first second : Group) (e e' : ℤ) → Lowered d first second → e' ≡ e -ℤ pos d → Lowered d (with_error first e) (with_error second e')
unfolding with_error
lowered_more d first second e e' l h =
    record {
      count = ap (λ (n : ℕ). n + 1) l.count;
      sum = sum first.sum second.sum e e' first.count l.sum h;
      squares = squares first.sum first.squares second.squares e e' first.count l.squares h;
    }
  where
    sum : (s s' e e' : ℤ) (n : ℕ) → s' ≡ s -ℤ pos n *ℤ pos d → e' ≡ e -ℤ pos d → s' +ℤ e' ≡ s +ℤ e -ℤ pos (n + 1) *ℤ pos d
    sum s s' e e' n h k = rw (h, k, view s, view e) (simp to_ℕ (omega arith))

    squares : (s q q' e e' : ℤ) (n : ℕ) → q' ≡ q -ℤ pos 2 *ℤ (pos d *ℤ s) +ℤ pos n *ℤ (pos d *ℤ pos d) → e' ≡ e -ℤ pos d
        → q' +ℤ e' *ℤ e' ≡ q +ℤ e *ℤ e -ℤ pos 2 *ℤ (pos d *ℤ (s +ℤ e)) +ℤ pos (n + 1) *ℤ (pos d *ℤ pos d)
    squares s q q' e e' n h k = rw (h, k, view s, view q, view e) (simp to_ℕ_products (omega arith))
