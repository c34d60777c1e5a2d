-- The header's lines, then the rows.
use Rattle.std.proofs.Common.{◌≡◌, ◌≤◌, ◌+◌, ◌∙◌, ap, refl, List, ℕ, ℤ, length, unwrap_or, rules, arith}
use Rattle.std.proofs.lemmas.List.{length-append}
use Rattle.text_refusal.specs.Bytes.{bytes}
use Rattle.text_schema.specs.Schema.{keys_of}
use Rattle.text_writer.specs.Write.{written_numbers}
use Rattle.text_writer.proofs.Laid.{laid_both}
use Rattle.pricing_sums.specs.Header.{header_values}
use Rattle.pricing_held.specs.Rows.{held_count, header_held}
use Rattle.pricing_held.specs.internal.Checks.{rows_in}
use Rattle.pricing_held.proofs.Counts.{held_ids}
use Rattle.pricing_held_text.specs.internal.RowText.{rows_text}
use Rattle.pricing_held_text.proofs.Room.{laid_of, laid_as}
use Rattle.pricing_held_text.proofs.RowTexts.{header_text, whole_text}
use Rattle.pricing_held_text.proofs.rows.put_text.Goals as goal

-- the header's numbers are written as they are held
lines : (header : List ℤ) {values : List ℤ} {count held : ℕ} → values ≡ header_values (header_held header count) → count ≡ held →
    written_numbers (keys_of (bytes "month=hour=lambda=factor=prc=eea1=short=count=")) values ≡ header_text (header_held header held)
lines header is counted =
    ap (λ (values : List ℤ). written_numbers (keys_of (bytes "month=hour=lambda=factor=prc=eea1=short=count=")) values) (is ∙ ap (λ (count : ℕ). header_values (header_held header count)) counted)

pub put_rows-requires : goal.put_rows-requires
put_rows-requires c =
    let ids = c.args.ids.now in
    let numbers = c.args.numbers.now in
    let count = c.held_number_rows-rows.ensures.count in
    let header = header_text (header_held c.args.header.now (held_count ids numbers)) in
    let rows = rows_text (rows_in ids 0 c.held_number_rows-rows.result.now) in
    let same = lines c.args.header.now c.header_values-values.ensures count in
    let room : length header + length rows ≤ length c.args.buffer.now = omega (arith, ap length (whole_text c.args.header.now ids numbers c.held_number_rows-rows.ensures.rows), length-append header rows) in
    let ended : c.unwrap_or.result ≡ unwrap_or c.write_lines-ended.result 0 = search rules in
    let laid = laid_as same (laid_of c.write_lines-ended.ensures ended (omega (arith, ap length same))) in
    (omega (arith, count, held_ids ids numbers), omega (arith, laid.ends))

pub returns : goal.returns
returns c =
    let ids = c.args.ids.now in
    let numbers = c.args.numbers.now in
    let count = c.held_number_rows-rows.ensures.count in
    let header = header_text (header_held c.args.header.now (held_count ids numbers)) in
    let rows = rows_text (rows_in ids 0 c.held_number_rows-rows.result.now) in
    let same = lines c.args.header.now c.header_values-values.ensures count in
    let room : length header + length rows ≤ length c.args.buffer.now = omega (arith, ap length (whole_text c.args.header.now ids numbers c.held_number_rows-rows.ensures.rows), length-append header rows) in
    let ended : c.unwrap_or.result ≡ unwrap_or c.write_lines-ended.result 0 = search rules in
    let laid = laid_as same (laid_of c.write_lines-ended.ensures ended (omega (arith, ap length same))) in
    rw (whole_text c.args.header.now ids numbers c.held_number_rows-rows.ensures.rows) (laid_both laid (record { ends = refl; bytes = c.put_rows.ensures }) (omega arith)).bytes
