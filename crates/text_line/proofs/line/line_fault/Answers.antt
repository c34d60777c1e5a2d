-- Each refusal is a law of lines, and so is the value; the line's end is found from after the key where the line begins with it.
use Rattle.std.proofs.Common.{◌+◌, drop, refl, sym, ap, arith}
use Rattle.text_line.specs.Line.{line_length, number_or_zero}
use Rattle.text_line.proofs.DueLines.{unended_line, other_line, empty_line, value_line, key_in_rest, ends_after, key_within}
use Rattle.text_line.proofs.line.line_fault.Goals as goal

pub returns-then-text-at : goal.returns-then-text-at
returns-then-text-at c =
    let a = c.args in
    sym (ap number_or_zero (unended_line a.key.now a.text.now a.at (a.at + line_length (drop a.at a.text.now)) refl (omega arith)))

pub line_end-end-requires : goal.line_end-end-requires
line_end-end-requires c =
    let a = c.args in
    key_within a.key.now a.text.now a.at (key_in_rest a.key.now a.text.now a.at c.begins_with.ensures c.if-begins_with.true) (omega arith)

pub returns-then-text-end : goal.returns-then-text-end
returns-then-text-end c =
    let a = c.args in
    let b = key_in_rest a.key.now a.text.now a.at c.begins_with.ensures c.if-begins_with.true in
    let l = c.line_end-end in
    sym (ap number_or_zero (unended_line a.key.now a.text.now a.at l.result (ends_after a.key.now a.text.now a.at b l.result l.ensures) c.if-text-end.true))

pub returns-then-start-end : goal.returns-then-start-end
returns-then-start-end c =
    let a = c.args in
    let b = key_in_rest a.key.now a.text.now a.at c.begins_with.ensures c.if-begins_with.true in
    let l = c.line_end-end in
    sym (ap number_or_zero (empty_line a.key.now a.text.now a.at l.result (ends_after a.key.now a.text.now a.at b l.result l.ensures) c.if-text-end.false b c.if-start-end.true))

pub returns-then-begins_with : goal.returns-then-begins_with
returns-then-begins_with c =
    let a = c.args in
    let b = key_in_rest a.key.now a.text.now a.at c.begins_with.ensures c.if-begins_with.true in
    let l = c.line_end-end in
    sym (ap number_or_zero (value_line a.key.now a.text.now a.at l.result (ends_after a.key.now a.text.now a.at b l.result l.ensures) c.if-text-end.false b c.if-start-end.false))

pub returns-then-text-line_end : goal.returns-then-text-line_end
returns-then-text-line_end c =
    let a = c.args in
    sym (ap number_or_zero (unended_line a.key.now a.text.now a.at c.line_end.result c.line_end.ensures (omega arith)))

pub returns : goal.returns
returns c =
    let a = c.args in
    let b = key_in_rest a.key.now a.text.now a.at c.begins_with.ensures c.if-begins_with.false in
    sym (ap number_or_zero (other_line a.key.now a.text.now a.at c.line_end.result c.line_end.ensures (omega arith) b))
