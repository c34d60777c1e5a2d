use Rattle.std.proofs.Common.{arith, rules, ◌≡◌, ◌*◌, ap, sym, ◌∙◌, List, ℕ, pos, length, get_or}
use lib.Seq.{take_all}
use Rattle.text_writer.specs.Write.{laid_at}
use Rattle.text_writer.proofs.Laid.{laid_none}
use Rattle.text_writer.proofs.Writing.{written_bytes}
use Rattle.curve_set.proofs.CurveValues.{no_pair}
use Rattle.curve_set.proofs.InRange.{in_range_pair}
use Rattle.curve_page.specs.Page.{page_row, page_rows}
use Rattle.curve_page.proofs.Pages.{no_rows, row_length, row_laid, rows_of_set}
use Rattle.curve_page.proofs.put_rows.Goals as goal

pub loop-group-init : goal.loop-group-init
loop-group-init c = sym (ap (laid_at c.args.buffer.now 0) (no_rows (pos 0) 0) ∙ laid_none c.args.buffer.now 0)

pub put_row-requires-clause-fact_1 : goal.put_row-requires-clause-fact_1
put_row-requires-clause-fact_1 c = in_range_pair c.args.curves c.requires.fact_1 c.loop-group.group (omega arith)

pub loop-group-preserved : goal.loop-group-preserved
loop-group-preserved c =
    let pairs = c.args.curves.pairs in
    let l = c.loop-group in
    let long : length pairs ≡ 24 = search rules in
    let row : List ℕ = page_row (pos 0) l.group (get_or pairs l.group no_pair) in
    let full : length row ≡ 72 = row_length (pos 0) l.group (get_or pairs l.group no_pair) in
    written_bytes c.put_row.ensures (omega (arith, full, c.requires.fact_2)) ∙
    ap (λ (bytes : List ℕ). laid_at bytes (72 * l.group) row) l.invariant ∙
    row_laid c.args.buffer.now (pos 0) pairs l.group (omega arith) (omega (arith, c.requires.fact_2))

pub returns : goal.returns
returns c =
    let pairs = c.args.curves.pairs in
    c.loop-group.invariant ∙ ap (laid_at c.args.buffer.now 0) (ap (page_rows (pos 0) 0) (take_all c.loop-group.group pairs (omega arith)) ∙ rows_of_set c.args.curves)
