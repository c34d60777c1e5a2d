use Rattle.std.proofs.Common.{arith, rules, ◌≡◌, ◌+◌, ◌-◌, ℤ, pos, length, take, drop, get_or, w64}
use mir.Facts.{to_z-of_z}
use mir.Val.{SFits}
use Rattle.text_line.specs.Piece.{piece_length}
use Rattle.text_line.proofs.Parts.{part_whole}
use Rattle.text_number.specs.Marked.{first_marked}
use Rattle.text_writer.specs.internal.Keys.{first_key}
use Rattle.text_writer.specs.Write.{TextLaid}
use Rattle.text_writer.proofs.Laid.{laid_start, laid_both}
use Rattle.text_writer.proofs.MarkedLines.{marked_start, marked_values, marked_value, line_laid}
use Rattle.text_writer.proofs.Keys.{key_length, keys_over, key_passed, key_room}
use Rattle.text_writer.proofs.marked.put_lines.Goals as goal
use Rattle.text_writer.proofs.marked.put_lines.Goals.{After-put_key-start}

pub loop-z-init : goal.loop-z-init
loop-z-init c = (marked_start _ _ _, laid_start _ _)

pub returns-then-keys-from : goal.returns-then-keys-from
returns-then-keys-from c = rw (keys_over c.loop-z.invariant.0 c.if-keys-from.true) c.loop-z.invariant.1

pub put_key-start-requires : goal.put_key-start-requires
put_key-start-requires c =
    let l = c.loop-z in
    let keys = c.args.keys.now in
    let rest : take (length keys - l.from) (drop l.from keys) ≡ drop l.from keys = part_whole keys l.from in
    rw rest (
      c.requires.0 l.from c.if-keys-from.false,
      omega (arith, key_room l.invariant.0 c.requires.0 c.if-keys-from.false c.loop-z-test.true, key_length (drop l.from keys), l.invariant.1.ends, c.requires.1),
    )

-- the number that a turn writes, and the key that is laid before it
abbrev z : After-put_key-start → ℤ
z c = get_or c.args.values.now c.loop-z.z-index (pos 0)

laid : (c : After-put_key-start) → TextLaid (first_key (drop c.loop-z.from c.args.keys.now)) c.loop-z.buffer c.loop-z.at c.put_key-start.new.buffer c.put_key-start.result
laid c =
    let keys = c.args.keys.now in
    let rest : take (length keys - c.loop-z.from) (drop c.loop-z.from keys) ≡ drop c.loop-z.from keys = part_whole keys c.loop-z.from in
    rw rest at c.put_key-start.ensures

pub put_marked_value-at-requires : goal.put_marked_value-at-requires
put_marked_value-at-requires c =
    let l = c.loop-z in
    let k = (goal.at.put_marked_value-at-requires c).After-put_key-start in
    let fits : SFits w64 (z k) = search rules in
    rw (to_z-of_z fits) (omega (arith, key_room l.invariant.0 c.requires.0 c.if-keys-from.false c.loop-z-test.true, (laid k).ends, l.invariant.1.ends, c.requires.1))

pub loop-z-preserved : goal.loop-z-preserved
loop-z-preserved c =
    let l = c.loop-z in
    let k = (goal.at.loop-z-preserved c).After-put_key-start in
    let first = drop l.from c.args.keys.now in
    let room = key_room l.invariant.0 c.requires.0 c.if-keys-from.false c.loop-z-test.true in
    let next = key_passed l.invariant.0 c.requires.0 c.if-keys-from.false c.loop-z-test.true in
    let moved : l.from + (c.put_key-start.result - l.at) ≡ l.from + piece_length 61 first = omega (arith, (laid k).ends, key_length first) in
    let fits : SFits w64 (z k) = search rules in
    let value : TextLaid (marked_value (z k) (first_marked l.marks)) c.put_key-start.new.buffer c.put_key-start.result c.put_marked_value-at.new.buffer c.put_marked_value-at.result = rw (to_z-of_z fits) at c.put_marked_value-at.ensures in
    rw moved (
      next.0,
      rw next.1 (laid_both l.invariant.1 (line_laid (first_key first) (z k) (first_marked l.marks) (laid k) value (omega (arith, room, l.invariant.1.ends, c.requires.1))) (omega (arith, room, c.requires.1))),
    )

pub returns : goal.returns
returns c = rw (marked_values c.loop-z.invariant.0 c.loop-z-test.false) c.loop-z.invariant.1
