use mathlib.Core.Path.{◌≡◌, sym, ◌∙◌, subst}
use Prim.Native.Nat.{ℕ, zero, suc, ◌+◌, ◌-◌, ◌*◌, ◌/◌, ◌%◌, ◌^◌, ◌≤◌, ◌<◌}
use native.Mathlib.Nat.{le-div_iff_mul-le, mod-eq_of_lt, one-mul, one-le-pow, div-mul-le_self, lt_of_le_of_lt}
use native.Mathlib.Omega.{arith}
use lib.Dec.{lit<}
use lib.Count.{count_leading_zeros, leading_le, leading_length}
use lib.Pow.{pow_mono}
use Rattle.root.proofs.SquareRoot.{root_unique, newton_above, newton_below, first_guess}
use Rattle.root.proofs.root.Statement.{statement}
use Rattle.root.proofs.root.Tie as tie

-- the guess is not below the root, not 0, and so small that a step fits
abbrev Near : (x r : ℕ) → Type 0
Near x r = (x < (r + 1) * (r + 1)) × (0 < r) × (r ≤ 2 ^ 32)

abbrev invariant-loop : tie.invariant-loop-r
invariant-loop x r₀ r = Near x r

abbrev decreases-loop : tie.decreases-loop-r
decreases-loop x r₀ r = r

-- z leading zeros and the length m make 64
half-small : (z : ℕ) → (65 - z) / 2 ≤ 32
half-small z = omega (arith, div-mul-le_self (65 - z) 2)

first : (x : ℕ) → x < 2 ^ 64 → Near x (2 ^ ((65 - count_leading_zeros 64 x) / 2))
first x h =
    let z = count_leading_zeros 64 x in
    let l = leading_length 64 x h in
    let e : 65 - z ≡ suc l.0 = omega (arith, l.1) in
    (rw e (first_guess x l.0 l.2), one-le-pow ((65 - z) / 2) 2 (lit< tt), pow_mono (half-small z))

shifted : (k : ℕ) → k ≤ 32 → (1 * 2 ^ k) % 18446744073709551616 ≡ 2 ^ k
shifted k h = mod-eq_of_lt (rw one-mul (lt_of_le_of_lt (pow_mono h) (lit< tt))) ∙ one-mul (2 ^ k)

step : (x r : ℕ) → 0 < x → Near x r → x / r < r → Near x ((r + x / r) / 2)
step x r p inv h =
    let a = newton_above x r inv.1 in
    (a, positive ((r + x / r) / 2) a, omega (arith, newton_below x r h))
  where
    positive : (s : ℕ) → x < (s + 1) * (s + 1) → 0 < s
    positive zero a = omega arith
    positive (suc s) a = omega arith

returns : tie.Need-returns-then-x-eq0 invariant-loop decreases-loop
returns c = rw c.if-x-eq0.true (root_unique 0 0 (omega arith))

sub-r : tie.Need-overflow_sub-r invariant-loop decreases-loop
sub-r c = omega (arith, leading_le 64 c.args.x)

cast-r : tie.Need-overflow_cast-r invariant-loop decreases-loop
cast-r c = omega (arith, half-small (count_leading_zeros 64 c.args.x))

shl-r : tie.Need-overflow_shl-r invariant-loop decreases-loop
shl-r c = omega (arith, half-small (count_leading_zeros 64 c.args.x))

loop-holds : tie.Need-loop-r-init invariant-loop decreases-loop
loop-holds c =
    let x = c.args.x in
    subst (λ (r : ℕ). Near x r) (sym (shifted ((65 - count_leading_zeros 64 x) / 2) (half-small (count_leading_zeros 64 x)))) (first x c.ranges.x.fits)

div-loop : tie.Need-nonzero_div-x invariant-loop decreases-loop
div-loop c = c.loop-r.invariant.1

div-r : tie.Need-nonzero_div-r-in-loop-r invariant-loop decreases-loop
div-r c = c.loop-r.invariant.1

add_r : tie.Need-overflow_add-r invariant-loop decreases-loop
add_r c = omega arith

loop-less : tie.Need-loop-r-smaller invariant-loop decreases-loop
loop-less c = newton_below c.args.x c.loop-r.r c.loop-r-test.true

loop-again : tie.Need-loop-r-preserved invariant-loop decreases-loop
loop-again c = step c.args.x c.loop-r.r (omega arith) c.loop-r.invariant c.loop-r-test.true

returns-2 : tie.Need-returns invariant-loop decreases-loop
returns-2 c =
    let i = c.loop-r.invariant in
    root_unique c.args.x c.loop-r.r ((le-div_iff_mul-le i.1).0 c.loop-r-test.false, i.0)

pub root_spec : {M : Type 1} → statement M
root_spec = tie.close (tie.spec invariant-loop decreases-loop returns sub-r cast-r shl-r loop-holds div-loop div-r add_r loop-less loop-again returns-2)
