use Rattle.std.proofs.Common.{rules, ◌≡◌, length, ap, arith}
use Rattle.text_writer.specs.internal.Counted.{number_bytes}
use Rattle.curve_text.proofs.Lengths.{text_counted}
use Rattle.curve_text.proofs.length.text_length.Goals as goal

pub returns : goal.returns
returns c =
    let long : length c.args.curves.pairs ≡ 24 = search rules in
    omega (arith, c.numbers_length.ensures.counted, text_counted c.args.curves long, ap number_bytes c.values_of-values.ensures)
