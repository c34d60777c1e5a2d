-- 10, then 11, else the group with one error more in its place.
use Rattle.std.specs.Prelude.{Ok}
use Rattle.std.proofs.Common.{◌≡◌, ◌≤◌, ◌<◌, sym, ap, ◌∙◌, nat_abs, to_z-of_z}
use Rattle.curve_record.specs.declared.Record.{Record}
use Rattle.curve_record.specs.Record.{group_at, with_group}
use Rattle.curve_record.proofs.RecordGroups.{group_held, replaced_held}
use Rattle.curve_record.proofs.PossibleGroups.{possible_is, possible_at, bounds_small}
use Rattle.curve_booking.specs.Booking.{with_error}
use Rattle.curve_booking.proofs.Booked.{error_full, error_far, error_accepted}
use Rattle.curve_booking.proofs.book_error.Goals as goal

pub returns-then-g-ge1000 : goal.returns-then-g-ge1000
returns-then-g-ge1000 c =
    let a = c.args in
    let full : 1000 ≤ (group_at a.history a.group).count = rw group_held c.if-g-ge1000.true in
    sym (error_full a.history a.group a.e full)

pub returns-then-unsigned_abs-gt20000000 : goal.returns-then-unsigned_abs-gt20000000
returns-then-unsigned_abs-gt20000000 c =
    let a = c.args in
    let room : (group_at a.history a.group).count < 1000 = rw group_held c.if-g-ge1000.false in
    let far : 20000000 < nat_abs a.e = rw (c.unsigned_abs.ensures.value, to_z-of_z c.ranges.e) at c.if-unsigned_abs-gt20000000.true in
    sym (error_far a.history a.group a.e room far)

pub with_error-requires-clause-small_group : goal.with_error-requires-clause-small_group
with_error-requires-clause-small_group c =
    let a = c.args in
    let g = group_at a.history a.group in
    rw (← group_held a.history a.group) (bounds_small g (possible_is g (possible_at a.history c.requires.history_value a.group c.requires.group_bound)).small)

pub returns : goal.returns
returns c =
    let a = c.args in
    let room : (group_at a.history a.group).count < 1000 = rw group_held c.if-g-ge1000.false in
    let near : nat_abs a.e ≤ 20000000 = rw (c.unsigned_abs.ensures.value, to_z-of_z c.ranges.e) at c.if-unsigned_abs-gt20000000.false in
    let grown : c.with_error.result ≡ with_error (group_at a.history a.group) a.e = rw (group_held, ← to_z-of_z c.ranges.e) c.with_error.ensures in
    ap (λ (history : Record). Ok history) (sym (replaced_held a.history a.group c.with_error.result) ∙ ap (with_group a.history a.group) grown)
    ∙ sym (error_accepted a.history a.group a.e room near)
