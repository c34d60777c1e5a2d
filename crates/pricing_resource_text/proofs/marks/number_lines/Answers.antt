use Rattle.pricing_resource_text.proofs.Marking.{marked_unmarked}
use Rattle.pricing_resource_text.proofs.marks.number_lines.Goals as goal

pub returns-in-Ok : goal.returns-in-Ok
returns-in-Ok c = marked_unmarked c.args.flag c.requires c.read_lines.ensures c.in-Ok.is
