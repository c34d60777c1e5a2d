-- The last byte tells whether there is a mark.
use Rattle.std.proofs.Common.{◌≡◌, ℕ, Bool, ◌<◌, ◌^◌, pos, sym, arith}
use mir.Facts.{to_z_pos}
use mir.Syntax.{w64}
use mir.Val.{to_z}
use Rattle.text_number.specs.declared.marked.Marked.{Marked}
use Rattle.pricing_held_reading.specs.declared.values.Taken.{Taken}
use Rattle.pricing_held_reading.proofs.Standing.{first_within, first_is, first_taken, digit_within, digit_is, digit_small, digit_taken, digits_some_taken, digits_end, digits_suspect, digits_unmarked}
use Rattle.pricing_held_reading.proofs.values.digits_at.Goals as goal

pub bounds-text-at : goal.bounds-text-at
bounds-text-at c = first_within c.requires.1.1.1

pub overflow_sub-n : goal.overflow_sub-n
overflow_sub-n c = (first_is c.requires.1.1.1).0

pub loop-i-init : goal.loop-i-init
loop-i-init c = λ m suspect next stand. first_taken stand

pub overflow_add-at : goal.overflow_add-at
overflow_add-at c =
    let stand = c.requires.1.1.1 in
    let taken = c.loop-i.invariant _ _ _ stand in
    omega (arith, digit_within stand taken)

pub bounds-text-at-in-loop-i : goal.bounds-text-at-in-loop-i
bounds-text-at-in-loop-i c =
    let stand = c.requires.1.1.1 in
    let taken = c.loop-i.invariant _ _ _ stand in
    digit_within stand taken

pub overflow_mul-n : goal.overflow_mul-n
overflow_mul-n c =
    let stand = c.requires.1.1.1 in
    let taken = c.loop-i.invariant _ _ _ stand in
    omega (arith, digit_small stand taken c.loop-i-test.true)

pub overflow_add-n : goal.overflow_add-n
overflow_add-n c =
    let stand = c.requires.1.1.1 in
    let taken = c.loop-i.invariant _ _ _ stand in
    omega (arith, digit_within stand taken)

pub bounds-text-at-in-loop-i-2 : goal.bounds-text-at-in-loop-i-2
bounds-text-at-in-loop-i-2 c =
    let stand = c.requires.1.1.1 in
    let taken = c.loop-i.invariant _ _ _ stand in
    digit_within stand taken

pub overflow_sub-n-in-loop-i : goal.overflow_sub-n-in-loop-i
overflow_sub-n-in-loop-i c =
    let stand = c.requires.1.1.1 in
    let taken = c.loop-i.invariant _ _ _ stand in
    (digit_is stand taken c.loop-i-test.true).0

pub overflow_add-n-in-loop-i : goal.overflow_add-n-in-loop-i
overflow_add-n-in-loop-i c =
    let stand = c.requires.1.1.1 in
    let taken = c.loop-i.invariant _ _ _ stand in
    omega (arith, digit_is stand taken c.loop-i-test.true, digit_small stand taken c.loop-i-test.true)

pub overflow_add-i : goal.overflow_add-i
overflow_add-i c =
    let stand = c.requires.1.1.1 in
    let taken = c.loop-i.invariant _ _ _ stand in
    omega (arith, digit_within stand taken)

pub loop-i-smaller : goal.loop-i-smaller
loop-i-smaller c =
    let stand = c.requires.1.1.1 in
    let taken = c.loop-i.invariant _ _ _ stand in
    omega (arith, digit_within stand taken)

pub loop-i-preserved : goal.loop-i-preserved
loop-i-preserved c = λ m suspect next stand. digit_taken stand (c.loop-i.invariant m suspect next stand) c.loop-i-test.true

pub overflow_sub-at : goal.overflow_sub-at
overflow_sub-at c =
    let stand = c.requires.1.1.1 in
    let taken = c.loop-i.invariant _ _ _ stand in
    omega (arith, digits_some_taken stand taken c.loop-i-test.false)

pub overflow_sub-result : goal.overflow_sub-result
overflow_sub-result c =
    let stand = c.requires.1.1.1 in
    let taken = c.loop-i.invariant _ _ _ stand in
    omega (arith, (digits_suspect stand taken c.loop-i-test.false c.if-text-at-eq63.true).1)

pub overflow_cast-result-2 : goal.overflow_cast-result-2
overflow_cast-result-2 c =
    let stand = c.requires.1.1.1 in
    let taken = c.loop-i.invariant _ _ _ stand in
    let n = (digits_unmarked stand taken c.loop-i-test.false c.if-text-at-eq63.false).1 in record { sfits = omega (arith, n, stand.small) }

same : {value n : ℕ} {marked suspect : Bool} {after next : ℕ} → value < 2 ^ 63 → value ≡ n → marked ≡ suspect → after ≡ next →
    ◌≡◌ {A = Taken Marked} (record { value = record { number = to_z w64 value; suspect = marked }; next = after }) (record { value = record { number = pos n; suspect = suspect }; next = next })
same {value} fits v s n = rw (to_z_pos w64 {n = value} fits, v, s, n)

pub returns-then-text-at-eq63 : goal.returns-then-text-at-eq63
returns-then-text-at-eq63 c =
    λ m suspect next stand.
    let taken = c.loop-i.invariant m suspect next stand in
    let told = digits_suspect stand taken c.loop-i-test.false c.if-text-at-eq63.true in
    same (omega (arith, told.1, stand.small)) (omega (arith, told.1)) (sym told.0) (digits_end stand taken c.loop-i-test.false)

pub returns : goal.returns
returns c =
    λ m suspect next stand.
    let taken = c.loop-i.invariant m suspect next stand in
    let told = digits_unmarked stand taken c.loop-i-test.false c.if-text-at-eq63.false in
    same (omega (arith, told.1, stand.small)) told.1 (sym told.0) (digits_end stand taken c.loop-i-test.false)
