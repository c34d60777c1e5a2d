use mathlib.Core.Path.{◌≡◌, sym, ◌∙◌}
use borrow.Author.Rules.{rules}
use Rattle.text_refusal.specs.Refusal.{refusal_of}
use Rattle.text_refusal.proofs.MapErr.{mapped_ok, mapped_err}
use Rattle.curve_text.proofs.CurveText.{text_refused, text_accepted}
use Rattle.curve_text.proofs.CurveCases.{text_too_long}
use Rattle.curve_text.proofs.read_curves.Goals as goal

pub returns-then-text-gt-MOST_BYTES : goal.returns-then-text-gt-MOST_BYTES
returns-then-text-gt-MOST_BYTES c = c.refused_curves.ensures ∙ sym (text_too_long c.args.text.now c.if-text-gt-MOST_BYTES.true)

pub returns-in_err-values : goal.returns-in_err-values
returns-in_err-values c =
    let m = mapped_err _ c.curve_lines.result c.map_err.result c.map_err.ensures.cases c.in_err-values.was in
    let made : c.in_err-values.field-0.0 ≡ refusal_of c.args.text.now m.0 = search (rules, m.2) in
    let t = text_refused c.args.text.now c.if-text-gt-MOST_BYTES.false c.curve_lines.ensures m.1 in
    search rules

pub returns : goal.returns
returns c =
    let t = text_accepted c.args.text.now c.if-text-gt-MOST_BYTES.false c.curve_lines.ensures (mapped_ok _ c.curve_lines.result c.map_err.result c.map_err.ensures.cases c.in_ok-values.was) in
    rw c.curves_of.ensures t
