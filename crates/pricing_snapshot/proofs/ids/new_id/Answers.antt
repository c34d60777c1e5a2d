-- The id's line by the laws of a line that holds an id; its slot tells whether it stands above, and is filled where it does not.
use Prim.Native.Nat.{◌≤◌, ◌<◌}
use native.Mathlib.Omega.{arith}
use mathlib.Core.Path.{refl}
use lib.ListN.{length}
use Rattle.text_refusal.specs.Bytes.{bytes}
use Rattle.text_line.specs.Field.{next_at}
use Rattle.text_id.proofs.Ids.{id_within}
use Rattle.text_id_table.proofs.Table.{slot_within}
use Rattle.pricing_snapshot.proofs.Taken.{taken_refused, taken_repeated, taken_new}
use Rattle.pricing_snapshot.proofs.ids.new_id.Goals as goal

pub returns-then-not-is_id : goal.returns-then-not-is_id
returns-then-not-is_id c = taken_refused c.args.text.now c.args.at c.line_value-value.ensures c.is_id.ensures c.if-not-is_id.true c.value_fault.ensures

pub offset_bounds-starts-slot : goal.offset_bounds-starts-slot
offset_bounds-starts-slot c =
    let within : c.slot_of-slot.result < length c.args.starts.now = slot_within c.requires.table c.requires.one c.line_value-value.result.now c.slot_of-slot.ensures in
    omega arith

pub bounds-starts-slot : goal.bounds-starts-slot
bounds-starts-slot c = slot_within c.requires.table c.requires.one c.line_value-value.result.now c.slot_of-slot.ensures

pub returns-then-starts-slot-gt0 : goal.returns-then-starts-slot-gt0
returns-then-starts-slot-gt0 c =
    taken_repeated c.args.text.now c.args.at c.line_value-value.ensures c.is_id.ensures c.if-not-is_id.false c.slot_of-slot.ensures c.if-starts-slot-gt0.true

pub overflow_add-starts : goal.overflow_add-starts
overflow_add-starts c =
    let within : next_at c.args.at (bytes "id=") c.line_value-value.result.now ≤ length c.args.text.now = id_within (bytes "id=") c.args.text.now c.args.at c.line_value-value.ensures c.is_id.ensures c.if-not-is_id.false in
    omega arith

pub offset_bounds-starts-slot-2 : goal.offset_bounds-starts-slot-2
offset_bounds-starts-slot-2 c =
    let within : c.slot_of-slot.result < length c.args.starts.now = slot_within c.requires.table c.requires.one c.line_value-value.result.now c.slot_of-slot.ensures in
    omega arith

pub bounds-starts-slot-2 : goal.bounds-starts-slot-2
bounds-starts-slot-2 c = slot_within c.requires.table c.requires.one c.line_value-value.result.now c.slot_of-slot.ensures

pub overflow_add-result : goal.overflow_add-result
overflow_add-result c =
    let within : next_at c.args.at (bytes "id=") c.line_value-value.result.now ≤ length c.args.text.now = id_within (bytes "id=") c.args.text.now c.args.at c.line_value-value.ensures c.is_id.ensures c.if-not-is_id.false in
    omega arith

pub overflow_add-result-2 : goal.overflow_add-result-2
overflow_add-result-2 c =
    let within : next_at c.args.at (bytes "id=") c.line_value-value.result.now ≤ length c.args.text.now = id_within (bytes "id=") c.args.text.now c.args.at c.line_value-value.ensures c.is_id.ensures c.if-not-is_id.false in
    omega arith

pub overflow_add-result-3 : goal.overflow_add-result-3
overflow_add-result-3 c =
    let within : next_at c.args.at (bytes "id=") c.line_value-value.result.now ≤ length c.args.text.now = id_within (bytes "id=") c.args.text.now c.args.at c.line_value-value.ensures c.is_id.ensures c.if-not-is_id.false in
    omega arith

pub returns : goal.returns
returns c =
    taken_new c.args.text.now c.args.at c.line_value-value.ensures c.is_id.ensures c.if-not-is_id.false c.slot_of-slot.ensures c.if-starts-slot-gt0.false refl
