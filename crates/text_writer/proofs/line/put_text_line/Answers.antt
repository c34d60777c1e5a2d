use Rattle.std.proofs.Common.{arith}
use Rattle.text_writer.proofs.Laid.{laid_both, laid_end}
use Rattle.text_writer.proofs.Writing.{text_line_length}
use Rattle.text_writer.proofs.line.put_text_line.Goals as goal

pub returns : goal.returns
returns c =
    let long = text_line_length c.args.key.now c.args.text.now in
    laid_both c.put_bytes-start.ensures (laid_end 10 c.put_bytes-end.ensures (omega (arith, c.requires, long, c.put_bytes-start.ensures.ends))) (omega (arith, c.requires, long))
