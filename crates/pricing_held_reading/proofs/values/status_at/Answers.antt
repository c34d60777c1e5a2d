-- The sums are those of the law.
use Rattle.pricing_held_reading.proofs.Words.{status_told}
use Rattle.pricing_held_reading.proofs.values.status_at.Goals as goal

pub returns : goal.returns
returns c = (status_told c.args.text.now c.args.at c.requires.0).is
