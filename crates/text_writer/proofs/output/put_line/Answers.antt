use Rattle.std.proofs.Common.{arith, false}
use Rattle.std.proofs.lemmas.List.{length-append}
use Rattle.text_writer.specs.internal.Signed.{signed_value}
use Rattle.text_writer.proofs.Laid.{laid_both}
use Rattle.text_writer.proofs.output.put_line.Goals as goal

pub returns : goal.returns
returns c = laid_both c.put_bytes-start.ensures c.put_value.ensures (omega (arith, c.requires, length-append c.args.key.now (signed_value false c.args.n)))
