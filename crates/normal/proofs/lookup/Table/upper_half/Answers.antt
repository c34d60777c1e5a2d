-- 10^9 from 500 on, and below that what lies between two knots.
use Rattle.std.proofs.Common.{◌≡◌, ℕ, suc, ◌+◌, ◌-◌, ◌*◌, ◌/◌, ◌%◌, ◌<◌, sym, arith}
use native.Mathlib.Nat.{le-div_iff_mul-le, div-lt_iff_lt-mul, mod-lt}
use Rattle.normal.specs.Knot.{knot}
use Rattle.normal.specs.Normal.{interpolated, upper}
use Rattle.normal.proofs.Table.{knot_rises}
use Rattle.normal.proofs.Order.{upper_above, upper_inside, upper_range}
use Rattle.normal.proofs.lookup.Table.upper_half.Goals as goal

between : (n d : ℕ) {low step part : ℕ} → 0 < d → n / d < 500 → low ≡ knot (n / d) → step ≡ knot (suc (n / d)) - knot (n / d) → part ≡ step * (n % d) / d →
    low + part ≡ upper n d
unfolding interpolated
between n d p k l s q = rw (q, s, l, upper_inside n d ((div-lt_iff_lt-mul p).0 k))

pub returns-then-denominator-eq0 : goal.returns-then-denominator-eq0
returns-then-denominator-eq0 c = sym (upper_above c.args.numerator c.args.denominator (omega arith))

pub returns-then-k-ge500 : goal.returns-then-k-ge500
returns-then-k-ge500 c =
    let positive : 0 < c.args.denominator = omega arith in
    sym (upper_above c.args.numerator c.args.denominator ((le-div_iff_mul-le positive).0 c.if-k-ge500.true))

pub share-requires : goal.share-requires
share-requires c =
    let k = c.args.numerator / c.args.denominator in
    let rises = knot_rises k c.if-k-ge500.false in
    (mod-lt c.args.numerator (omega arith), omega (arith, c.interval_at-interval.ensures))

pub overflow_add-result : goal.overflow_add-result
overflow_add-result c =
    let i = c.interval_at-interval.ensures in
    let e = between c.args.numerator c.args.denominator (omega arith) c.if-k-ge500.false i.0 i.1 c.share.ensures in
    omega (arith, upper_range c.args.numerator c.args.denominator)

pub returns : goal.returns
returns c =
    let i = c.interval_at-interval.ensures in
    between c.args.numerator c.args.denominator (omega arith) c.if-k-ge500.false i.0 i.1 c.share.ensures
