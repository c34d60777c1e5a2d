-- The bytes 10 among the first `at` bytes are the lines that end there.
use Rattle.std.proofs.Common.{take, ◌∙◌, refl}
use Rattle.std.proofs.lemmas.List.{take_min}
use lib.Seq.{take_all}
use Rattle.text_refusal.proofs.Refusals.{ended_counted}
use Rattle.text_refusal.proofs.refusal.ended_lines.Goals as goal

pub returns : goal.returns
returns c =
    let all = take_all c.loop-byte.byte-index (take c.min.result c.args.text.now) c.loop-byte-test.false in
    c.loop-byte.invariant ∙ rw (all, ended_counted c.args.at c.args.text.now, ← take_min c.args.at c.args.text.now, c.min.ensures) refl
