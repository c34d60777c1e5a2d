-- The rows looked at so far.
use Rattle.pricing_held.proofs.Suspects.{SuspectsUnderWay}
use Rattle.pricing_held.proofs.suspect.suspect_line.Given as goal

abbrev pub invariant-loop-values : goal.invariant-loop-values
invariant-loop-values l = SuspectsUnderWay l.rows l.before l.values-index
