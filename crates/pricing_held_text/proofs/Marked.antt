-- How many of the first numbers are marked: as many as there are ones among the first binary digits of the marks.
use Prim.Native.Nat.{ℕ, suc, ◌/◌, ◌%◌, ◌≤◌}
use native.Mathlib.Omega.{arith}
use mathlib.Core.Path.{◌≡◌, sym, ◌∙◌}
use lib.Count.{ones, ones_step}
use Rattle.std.proofs.lemmas.Nat.{ones-le}
use Rattle.text_writer.specs.internal.Counted.{mark_bytes}
use Rattle.text_writer.proofs.Counted.{marks_over, marks_next}

-- one digit more
more : (count half whole : ℕ) → ((m : ℕ) → m % whole % 2 ≡ m % 2) → ((m : ℕ) → m % whole / 2 ≡ m / 2 % half) → ((m : ℕ) → ones (m % half) ≡ mark_bytes count m) →
    (m : ℕ) → ones (m % whole) ≡ mark_bytes (suc count) m
more count half whole last others fewer m = ones_step (m % whole) ∙ rw (last m, others m, fewer (m / 2)) (sym (marks_next count m))

none : (m : ℕ) → ones (m % 1) ≡ mark_bytes 0 m
none m = let zero : ones (m % 1) ≤ 0 = ones-le 0 (m % 1) (omega arith) in omega (arith, marks_over m)

one : (m : ℕ) → ones (m % 2) ≡ mark_bytes 1 m
one = more 0 1 2 (λ m. omega arith) (λ m. omega arith) none

two : (m : ℕ) → ones (m % 4) ≡ mark_bytes 2 m
two = more 1 2 4 (λ m. omega arith) (λ m. omega arith) one

three : (m : ℕ) → ones (m % 8) ≡ mark_bytes 3 m
three = more 2 4 8 (λ m. omega arith) (λ m. omega arith) two

pub four : (m : ℕ) → ones (m % 16) ≡ mark_bytes 4 m
four = more 3 8 16 (λ m. omega arith) (λ m. omega arith) three

five : (m : ℕ) → ones (m % 32) ≡ mark_bytes 5 m
five = more 4 16 32 (λ m. omega arith) (λ m. omega arith) four

pub six : (m : ℕ) → ones (m % 64) ≡ mark_bytes 6 m
six = more 5 32 64 (λ m. omega arith) (λ m. omega arith) five

pub most_four : (m : ℕ) → ones (m % 16) ≤ 4
most_four m = ones-le 4 (m % 16) (omega arith)

pub most_six : (m : ℕ) → ones (m % 64) ≤ 6
most_six m = ones-le 6 (m % 64) (omega arith)
