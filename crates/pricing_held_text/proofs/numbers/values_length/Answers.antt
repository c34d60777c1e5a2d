-- The bytes of the keys, then those of the status, of the numbers and of their marks.
use Rattle.std.proofs.Common.{◌≡◌, ◌∙◌, ap, length, rules, arith}
use Rattle.text_word.specs.Word.{written_word}
use Rattle.text_schema.specs.Schema.{value}
use Rattle.text_writer.specs.internal.Counted.{mark_bytes}
use Rattle.pricing_resource_text.specs.Resource.{status_words}
use Rattle.pricing_held.specs.Rows.{place_of}
use Rattle.pricing_held_text.proofs.Marked.{four, six, most_four, most_six}
use Rattle.pricing_held_text.proofs.ByKind.{row_marks, generator_length, controllable_length, load_length}
use Rattle.pricing_held_text.proofs.numbers.values_length.Goals as goal

pub returns-then-kind-lt4 : goal.returns-then-kind-lt4
returns-then-kind-lt4 c =
    let values = c.args.values.now in
    let place : c.place_of.result ≡ place_of (value values 1) = search rules in
    let marks : c.magnitude-marks.result ≡ row_marks values = search rules in
    let status = ap length (c.status_word-status.ensures.word ∙ ap (written_word status_words) place) in
    let marked = six c.magnitude-marks.result ∙ ap (mark_bytes 6) marks in (
      omega (arith, generator_length c.args.kind values c.if-kind-lt4.true (omega arith), status, c.numbers_length.ensures.0, marked),
      omega (arith, c.status_word-status.ensures.short, c.numbers_length.ensures.1, most_six c.magnitude-marks.result),
    )

pub returns-then-kind-eq4 : goal.returns-then-kind-eq4
returns-then-kind-eq4 c =
    let values = c.args.values.now in
    let marks : c.magnitude-marks.result ≡ row_marks values = search rules in
    let marked = four c.magnitude-marks.result ∙ ap (mark_bytes 4) marks in (
      omega (arith, controllable_length c.args.kind values c.if-kind-eq4.true (omega arith), c.numbers_length-then-kind-eq4.ensures.0, marked),
      omega (arith, c.numbers_length-then-kind-eq4.ensures.1, most_four c.magnitude-marks.result),
    )

pub returns : goal.returns
returns c =
    let values = c.args.values.now in
    let marks : c.magnitude-marks.result ≡ row_marks values = search rules in
    let marked = four c.magnitude-marks.result ∙ ap (mark_bytes 4) marks in (
      omega (arith, load_length c.args.kind values (omega arith) (omega arith), c.numbers_length-2.ensures.0, marked),
      omega (arith, c.numbers_length-2.ensures.1, most_four c.magnitude-marks.result),
    )
