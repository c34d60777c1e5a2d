use Rattle.std.proofs.Common.{arith, ◌<◌, length}
use Rattle.text_line.specs.Piece.{piece_length}
use Rattle.text_line.proofs.Pieces.{piece_within, unmarked_within}
use Rattle.text_writer.proofs.Keys.{key_more, key_laid}
use Rattle.text_writer.proofs.marked.put_key.Goals as goal
use Rattle.text_writer.proofs.marked.put_key.Goals.{At-loop-i}

-- the byte at `i` is one of the first key's
inside : (c : At-loop-i) → (c.loop-i.i < piece_length 61 c.args.keys.now) × (c.loop-i.i < length c.args.keys.now)
inside c = let here : c.loop-i.i < piece_length 61 c.args.keys.now = omega (arith, unmarked_within c.loop-i.invariant.0 c.requires.0) in (here, omega (arith, piece_within 61 c.args.keys.now))

pub bounds-keys-i : goal.bounds-keys-i
bounds-keys-i c = (inside (goal.at.bounds-keys-i c).At-loop-i).1

pub bounds-keys-i-in-loop-i : goal.bounds-keys-i-in-loop-i
bounds-keys-i-in-loop-i c = (inside (goal.at.bounds-keys-i-in-loop-i c).At-loop-i).1

pub loop-i-smaller : goal.loop-i-smaller
loop-i-smaller c = omega (arith, (inside (goal.at.loop-i-smaller c).At-loop-i).1)

pub loop-i-preserved : goal.loop-i-preserved
loop-i-preserved c =
    let here = inside (goal.at.loop-i-preserved c).At-loop-i in
    key_more c.args.buffer.now c.args.at c.loop-i.invariant.0 c.loop-i.invariant.1 here.1 (omega (arith, here.0, c.requires.1)) c.loop-i-test.true

pub returns : goal.returns
returns c =
    let here = inside (goal.at.returns c).At-loop-i in
    rw c.loop-i-test.false at (key_laid c.args.buffer.now c.args.at c.loop-i.invariant.0 c.loop-i.invariant.1 here.1 (omega (arith, here.0, c.requires.1)) c.loop-i-test.false)
