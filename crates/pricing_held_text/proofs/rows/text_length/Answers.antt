-- The keys and bytes 10 of the header are counted, then its numbers and the rows.
use Rattle.std.proofs.Common.{◌∙◌, ap, ℕ, length, arith}
use Rattle.std.proofs.lemmas.List.{length-append}
use Rattle.pricing_sums.specs.Header.{header_values}
use Rattle.text_writer.specs.internal.Counted.{number_bytes}
use Rattle.pricing_held.specs.Rows.{held_count, header_held}
use Rattle.pricing_held.specs.internal.Checks.{rows_in}
use Rattle.pricing_held.proofs.Counts.{held_ids}
use Rattle.pricing_held_text.specs.internal.RowText.{rows_text}
use Rattle.pricing_held_text.proofs.RowTexts.{header_text, header_length, whole_text}
use Rattle.pricing_held_text.proofs.rows.text_length.Goals as goal

pub rows_length-requires : goal.rows_length-requires
rows_length-requires c = (omega (arith, c.held_number_rows-rows.ensures.count), omega (arith, c.held_number_rows-rows.ensures.count, held_ids c.args.ids.now c.args.numbers.now))

pub returns : goal.returns
returns c =
    let header = c.args.header.now in
    let ids = c.args.ids.now in
    let numbers = c.args.numbers.now in
    let rows = c.held_number_rows-rows.result.now in
    let h = header_held header (held_count ids numbers) in
    let values = c.header_values-values.ensures ∙ ap (λ (count : ℕ). header_values (header_held header count)) c.held_number_rows-rows.ensures.count in
    omega (
      arith,
      c.numbers_length.ensures.0,
      ap number_bytes values,
      c.rows_length.ensures.0,
      ap length (whole_text header ids numbers c.held_number_rows-rows.ensures.rows),
      length-append (header_text h) (rows_text (rows_in ids 0 rows)),
      header_length h,
    )
