use Rattle.std.proofs.Common.{arith, ◌≡◌, ◌/◌, ap, sym, ◌∙◌, ℕ, pos}
use Rattle.curve_group.proofs.Season.{season_of_group}
use Rattle.text_writer.specs.Row.{padded_right}
use Rattle.curve_page.specs.Page.{season_name, season_cell}
use Rattle.curve_page.proofs.Pages.{season_part, row_written}
use Rattle.curve_page.proofs.put_row.Goals as goal

pub returns : goal.returns
returns c =
    let group = c.args.group in
    let named : c.part.result.now ≡ season_cell group = c.part.ensures ∙ season_part (group / 6) (omega (arith, c.requires.fact_2)) ∙ ap (λ (n : ℕ). padded_right 6 (season_name n)) (sym (season_of_group group)) in
    rw (row_written (pos 0) group c.args.pair, ← named, ← c.row_values-values.ensures) c.write_row.ensures
