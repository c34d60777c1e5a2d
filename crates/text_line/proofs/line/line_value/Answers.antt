-- The bytes of the value are those between the key and the line's end, which is found from after the key.
use Rattle.std.proofs.Common.{◌+◌, drop, refl, arith}
use Rattle.text_line.specs.Line.{line_length}
use Rattle.text_line.proofs.DueLines.{value_none, value-bytes, value_other, key_in_rest, ends_after, key_within}
use Rattle.text_line.proofs.line.line_value.Goals as goal

pub returns-then-text-at : goal.returns-then-text-at
returns-then-text-at c =
    let a = c.args in
    value_none a.key.now a.text.now a.at (a.at + line_length (drop a.at a.text.now)) refl (omega arith)

pub line_end-end-requires : goal.line_end-end-requires
line_end-end-requires c =
    let a = c.args in
    key_within a.key.now a.text.now a.at (key_in_rest a.key.now a.text.now a.at c.begins_with.ensures c.if-begins_with.true) (omega arith)

pub returns-then-end-text : goal.returns-then-end-text
returns-then-end-text c =
    let a = c.args in
    let b = key_in_rest a.key.now a.text.now a.at c.begins_with.ensures c.if-begins_with.true in
    let l = c.line_end-end in
    value-bytes a.key.now a.text.now a.at l.result (ends_after a.key.now a.text.now a.at b l.result l.ensures) (omega arith) b

pub returns-then-begins_with : goal.returns-then-begins_with
returns-then-begins_with c =
    let a = c.args in
    let b = key_in_rest a.key.now a.text.now a.at c.begins_with.ensures c.if-begins_with.true in
    let l = c.line_end-end in
    value_none a.key.now a.text.now a.at l.result (ends_after a.key.now a.text.now a.at b l.result l.ensures) (omega arith)

pub returns : goal.returns
returns c =
    let a = c.args in
    value_other a.key.now a.text.now a.at (key_in_rest a.key.now a.text.now a.at c.begins_with.ensures c.if-begins_with.false)
