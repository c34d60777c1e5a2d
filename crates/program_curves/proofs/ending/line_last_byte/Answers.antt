use Rattle.std.proofs.Common.{arith, refl}
use Rattle.program_curves.proofs.OneByte.{line_full, line_last_byte}
use Rattle.program_curves.proofs.SettleLines.{waits}
use Rattle.program_curves.proofs.ending.line_last_byte.Goals as goal

pub returns-then-held-eq-MOST_BYTES : goal.returns-then-held-eq-MOST_BYTES
returns-then-held-eq-MOST_BYTES c =
    line_full c.args.stream c.args.buffer.now c.args.byte c.requires.ready.0 (waits c.args.stream.stage c.requires.line) refl
    c.line_too_long.result c.if-held-eq-MOST_BYTES.true c.line_too_long.ensures

pub returns : goal.returns
returns c =
    line_last_byte c.args.stream c.args.buffer.now c.args.byte c.requires.ready.0 (waits c.args.stream.stage c.requires.line) refl
    c.line_taken.result (omega (arith, c.requires.ready.0.within)) (c.requires.ready.1 c.if-held-eq-MOST_BYTES.false) c.line_taken.ensures
