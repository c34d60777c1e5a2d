use Rattle.std.proofs.Common.{rules, ◌≡◌, true}
use Rattle.text_writer.proofs.Writing.{sign_laid}
use Rattle.text_writer.proofs.put_number.Goals as goal

pub returns : goal.returns
returns c =
    let below : c.args.negative ≡ true = search rules in
    rw below (sign_laid c.args.n c.put_digits-first.ensures c.requires.0 c.if-first-start.false c.requires.1)
