-- The runs are read by the interval reader, on the part of the text that is left; positions in the part are moved.
use Rattle.std.proofs.Common.{arith, rules, sym, ◌∙◌, to_z-of_z}
use mir.Syntax.{w64}
use mir.Val.{SFits}
use Rattle.text_refusal.proofs.MapErr.{mapped_ok, mapped_err}
use Rattle.curve_hour.proofs.Values.{held}
use Rattle.curve_hour.proofs.Hours.{given_within, runs_answers, runs_ended, mean_small}
use Rattle.curve_hour.proofs.read.runs_at.Goals as goal

pub overflow_add-found : goal.overflow_add-found
overflow_add-found c =
    let within = given_within c.args.text.now c.args.hour.now c.args.next c.requires.inside c.runs-runs.ensures.counted c.read_intervals.ensures in
    omega (arith, c.requires.short, rw c.in-Err.is at within)

pub overflow_add-next : goal.overflow_add-next
overflow_add-next c =
    let within = given_within c.args.text.now c.args.hour.now c.args.next c.requires.inside c.runs-runs.ensures.counted c.read_intervals.ensures in
    omega (arith, c.requires.short, rw c.in-Ok.is at within)

pub error-requires : goal.error-requires
error-requires c =
    let fits : SFits w64 c.in-Ok.read.sum = search rules in
    rw (held c.floor_div.result c.floor_div.type_inv, c.floor_div.ensures, to_z-of_z fits)
    (mean_small c.args.text.now c.args.hour.now c.args.next c.requires.inside c.runs-runs.ensures.counted c.read_intervals.ensures _ c.in-Ok.is)

pub returns-in-Err : goal.returns-in-Err
returns-in-Err c =
    rw c.refusal_of.ensures
    (runs_answers c.args.text.now c.args.hour.now c.args.next c.requires.inside c.runs-runs.ensures.counted c.read_intervals.ensures _ c.in-Err.is)

pub returns-in_err-map_err : goal.returns-in_err-map_err
returns-in_err-map_err c =
    let found = mapped_err _ _ _ c.map_err.ensures.cases c.in_err-map_err.was in
    let refused = runs_ended c.args.text.now c.args.hour.now c.args.next c.requires.inside c.runs-runs.ensures.counted c.read_intervals.ensures _ c.in-Ok.is _ (sym found.1 ∙ c.end_at.ensures) in
    search rules

pub returns : goal.returns
returns c =
    let fits : SFits w64 c.in-Ok.read.sum = search rules in
    let ended = mapped_ok _ _ _ c.map_err.ensures.cases c.in_ok-map_err.was in
    rw (
      held c.error.result c.error.type_inv,
      c.error.ensures,
      held c.floor_div.result c.floor_div.type_inv,
      c.floor_div.ensures,
      to_z-of_z fits,
      c.group.ensures,
      c.runs-runs.ensures.counted,
    )
    (runs_ended c.args.text.now c.args.hour.now c.args.next c.requires.inside c.runs-runs.ensures.counted c.read_intervals.ensures _ c.in-Ok.is _ (sym ended ∙ c.end_at.ensures))
