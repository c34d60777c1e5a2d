use mathlib.Core.Path.{◌≡◌, ◌∙◌}
use borrow.Author.Rules.{rules}
use lib.IntN.{nat_abs}
use mir.Facts.{to_z-of_z}
use mir.Syntax.{w64}
use mir.Val.{SFits}
use Rattle.text_refusal.proofs.MapErr.{mapped_ok}
use Rattle.pricing_snapshot.proofs.Snapshots.{rest_suspect, rest_whole}
use Rattle.pricing_snapshot.proofs.after_header.Goals as goal
use Rattle.pricing_snapshot.proofs.after_header.Goals.{After-magnitude-count}

-- as many resources as the header says
counted : (c : After-magnitude-count) → c.magnitude-count.result ≡ nat_abs c.args.header.count
counted c = let fits : SFits w64 c.args.header.count = search rules in c.magnitude-count.ensures ∙ rw (to_z-of_z fits)

pub returns-in-Some : goal.returns-in-Some
returns-in-Some c =
    rest_suspect c.args.text.now c.args.header c.args.at c.resources_in.result (counted (goal.at.returns-in-Some c).After-magnitude-count) c.resources_in.ensures
    (mapped_ok _ c.resources_in.result c.map_err.result c.map_err.ensures.cases c.in_ok-read.was) c.end_at.ensures
    (mapped_ok _ c.end_at.result c.map_err-2.result c.map_err-2.ensures.cases c.in_ok-map_err.was) c.in-Some.is

pub returns : goal.returns
returns c =
    rest_whole c.args.text.now c.args.header c.args.at c.resources_in.result (counted (goal.at.returns c).After-magnitude-count) c.resources_in.ensures
    (mapped_ok _ c.resources_in.result c.map_err.result c.map_err.ensures.cases c.in_ok-read.was) c.end_at.ensures
    (mapped_ok _ c.end_at.result c.map_err-2.result c.map_err-2.ensures.cases c.in_ok-map_err.was) c.in_default.is
