-- The status of a generator, then the numbers under the keys of the kind.
use Rattle.std.proofs.Common.{◌≡◌, ◌∙◌, ◌++◌, ◌∷◌, [], List, ℕ, ap, length, rules, arith}
use Rattle.std.proofs.lemmas.List.{length-append}
use Rattle.text_refusal.specs.Bytes.{bytes}
use Rattle.text_word.specs.Word.{written_word}
use Rattle.text_schema.specs.Schema.{value}
use Rattle.text_writer.proofs.Laid.{laid_both}
use Rattle.pricing_resource_text.specs.Resource.{status_words}
use Rattle.pricing_held.specs.Rows.{place_of}
use Rattle.pricing_held_text.proofs.Room.{laid_as}
use Rattle.pricing_held_text.proofs.ByKind.{row_marks, status_text, numbers_text, numbers_marked, generator_text, controllable_text, load_text}
use Rattle.pricing_held_text.proofs.numbers.put_values.Goals as goal

abbrev keys : List ℕ
keys = bytes "net=lsl=hsl=base=nonspin=cold30="

pub put_text_line-next-requires : goal.put_text_line-next-requires
put_text_line-next-requires c =
    let values = c.args.values.now in
    let place : c.place_of.result ≡ place_of (value values 1) = search rules in
    let status = ap (λ (word : List ℕ). length (bytes "status=" ++ (word ++ (10 ∷ [])))) (c.status_word.ensures.word ∙ ap (written_word status_words) place) in
    omega (arith, status, ap length (generator_text c.args.kind values c.if-kind-lt4.true), length-append (status_text values) (numbers_text keys 6 values))

pub put_numbers-requires : goal.put_numbers-requires
put_numbers-requires c =
    let values = c.args.values.now in
    let place : c.place_of.result ≡ place_of (value values 1) = search rules in
    let marks : c.magnitude-marks.result ≡ row_marks values = search rules in
    let status = ap (λ (word : List ℕ). length (bytes "status=" ++ (word ++ (10 ∷ [])))) (c.status_word.ensures.word ∙ ap (written_word status_words) place) in
    omega (
      arith,
      ap length (numbers_marked keys 6 values marks),
      status,
      c.put_text_line-next.ensures.ends,
      ap length (generator_text c.args.kind values c.if-kind-lt4.true),
      length-append (status_text values) (numbers_text keys 6 values),
    )

pub returns-then-kind-lt4 : goal.returns-then-kind-lt4
returns-then-kind-lt4 c =
    let values = c.args.values.now in
    let place : c.place_of.result ≡ place_of (value values 1) = search rules in
    let marks : c.magnitude-marks.result ≡ row_marks values = search rules in
    let status = ap (λ (word : List ℕ). bytes "status=" ++ (word ++ (10 ∷ []))) (c.status_word.ensures.word ∙ ap (written_word status_words) place) in
    rw (generator_text c.args.kind values c.if-kind-lt4.true)
    (laid_both (laid_as status c.put_text_line-next.ensures) (laid_as (numbers_marked keys 6 values marks) c.put_numbers.ensures)
    (omega (arith, ap length (generator_text c.args.kind values c.if-kind-lt4.true), length-append (status_text values) (numbers_text keys 6 values))))

pub put_numbers-requires-then-kind-eq4 : goal.put_numbers-requires-then-kind-eq4
put_numbers-requires-then-kind-eq4 c =
    let values = c.args.values.now in
    let marks : c.magnitude-marks.result ≡ row_marks values = search rules in
    omega (arith, ap length (numbers_marked (bytes "base=lpc=nonspin=regup=") 4 values marks), ap length (controllable_text c.args.kind values c.if-kind-eq4.true))

pub returns-then-kind-eq4 : goal.returns-then-kind-eq4
returns-then-kind-eq4 c =
    let values = c.args.values.now in
    let marks : c.magnitude-marks.result ≡ row_marks values = search rules in
    rw (controllable_text c.args.kind values c.if-kind-eq4.true) (laid_as (numbers_marked (bytes "base=lpc=nonspin=regup=") 4 values marks) c.put_numbers-then-kind-eq4.ensures)

pub put_numbers-requires-2 : goal.put_numbers-requires-2
put_numbers-requires-2 c =
    let values = c.args.values.now in
    let marks : c.magnitude-marks.result ≡ row_marks values = search rules in
    omega (arith, ap length (numbers_marked (bytes "rrsok=net=lpc=rrs=") 4 values marks), ap length (load_text c.args.kind values (omega arith)))

pub returns : goal.returns
returns c =
    let values = c.args.values.now in
    let marks : c.magnitude-marks.result ≡ row_marks values = search rules in
    rw (load_text c.args.kind values (omega arith)) (laid_as (numbers_marked (bytes "rrsok=net=lpc=rrs=") 4 values marks) c.put_numbers-2.ensures)
