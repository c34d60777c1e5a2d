use Rattle.std.proofs.Common.{◌≡◌, ◌∙◌, ap, ℕ, length, rules, arith}
use Rattle.text_word.specs.Word.{written_word}
use Rattle.text_schema.specs.Schema.{value}
use Rattle.text_schema.specs.Checked.{text_of}
use Rattle.pricing_resource_text.specs.Resource.{kind_words}
use Rattle.pricing_held.specs.Rows.{place_of}
use Rattle.pricing_held.specs.Lines.{lines_of_kind}
use Rattle.pricing_held.specs.internal.Checks.{row_of}
use Rattle.pricing_held_text.proofs.RowTexts.{row_length}
use Rattle.pricing_held_text.proofs.rows.row_length.Goals as goal

pub returns : goal.returns
returns c =
    let values = c.args.values.now in
    let place : c.place_of-kind.result ≡ place_of (value values 0) = search rules in
    let word = ap length (c.kind_word.ensures.word ∙ ap (written_word kind_words) place) in
    let rest = c.values_length.ensures.0 ∙ ap (λ (kind : ℕ). length (text_of (lines_of_kind kind (row_of values)))) place in (
      omega (arith, row_length c.args.id.now values, word, rest),
      omega (arith, c.kind_word.ensures.short, c.values_length.ensures.1),
    )
