use mir.Facts.{to_z-of_z}
use Rattle.std.proofs.Common.{◌≡◌, sym, ◌∙◌}
use Rattle.curve_settling.specs.Settle.{settled}
use Rattle.program_curves.proofs.Printing.{curves_printed_or}
use Rattle.program_curves.proofs.output.print_curves.Goals as goal

pub returns-in-Ok : goal.returns-in-Ok
returns-in-Ok c =
    let is : c.settle.result ≡ settled c.args.history c.args.voll c.args.floor = rw (to_z-of_z c.ranges.voll, to_z-of_z c.ranges.floor) at c.settle.ensures in
    curves_printed_or c.args.history c.args.voll c.args.floor _ (sym is ∙ c.in-Ok.is)
    c.args.out.now c.write_curves.new.buffer c.requires c.write_curves.result c.write_curves.ensures c.unwrap_or.ensures
