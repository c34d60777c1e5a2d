use Rattle.std.proofs.Common.{arith, sym, ◌∙◌}
use Rattle.pricing_resource.proofs.Suspects.{before_few, lines_few, place_unmarked, place_fine, place_suspect}
use Rattle.pricing_resource.proofs.suspect.suspect_place.Goals as goal

pub returns-then-held-eq0 : goal.returns-then-held-eq0
returns-then-held-eq0 c = sym (place_unmarked c.args.resource (sym c.marks-held.ensures ∙ c.if-held-eq0.true))

pub returns-then-not-marks_turn_back : goal.returns-then-not-marks_turn_back
returns-then-not-marks_turn_back c = sym (place_fine c.args.resource (sym c.marks_turn_back.ensures ∙ c.if-not-marks_turn_back.true))

pub overflow_add-result : goal.overflow_add-result
overflow_add-result c = omega (arith, lines_few, before_few, c.lines_before_numbers.ensures, c.unmarked_before.ensures)

pub overflow_add-result-2 : goal.overflow_add-result-2
overflow_add-result-2 c = omega (arith, lines_few, before_few, c.lines_before_numbers.ensures, c.unmarked_before.ensures)

pub returns : goal.returns
returns c =
    rw (c.lines_before_numbers.ensures, c.unmarked_before.ensures, c.marks-held.ensures)
    (sym (place_suspect c.args.resource (sym c.marks_turn_back.ensures ∙ c.if-not-marks_turn_back.false) (rw c.marks-held.ensures at c.if-held-eq0.false)))
