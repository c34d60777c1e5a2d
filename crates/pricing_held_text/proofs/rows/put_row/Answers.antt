-- The lines of the id and the kind, then the others, each laid behind the one before.
use Rattle.std.proofs.Common.{◌≡◌, ◌≤◌, ◌+◌, ◌∙◌, ◌++◌, ◌∷◌, [], List, ℕ, ℤ, ap, length, rules, arith}
use Rattle.std.proofs.lemmas.List.{length-append}
use Rattle.text_refusal.specs.Bytes.{bytes}
use Rattle.text_word.specs.Word.{written_word}
use Rattle.text_schema.specs.Schema.{value}
use Rattle.text_schema.specs.Checked.{text_of}
use Rattle.text_writer.proofs.Laid.{laid_both}
use Rattle.pricing_resource_text.specs.Resource.{kind_words}
use Rattle.pricing_held.specs.Rows.{place_of}
use Rattle.pricing_held.specs.Lines.{lines_of_kind}
use Rattle.pricing_held.specs.internal.Checks.{row_of, row_in}
use Rattle.pricing_held_text.specs.internal.RowText.{row_text}
use Rattle.pricing_held_text.proofs.Room.{laid_as}
use Rattle.pricing_held_text.proofs.RowTexts.{id_text, kind_text, values_text, row_text_lem}
use Rattle.pricing_held_text.proofs.rows.put_row.Goals as goal

-- how much room the three parts have
room : (id : List ℕ) (values : List ℤ) (at long : ℕ) → at + length (row_text (row_in id values)) ≤ long → at + (length (id_text id values) + (length (kind_text id values) + length (values_text id values))) ≤ long
room id values at long fits =
    omega (arith, ap length (row_text_lem id values), length-append (id_text id values) (kind_text id values ++ values_text id values), length-append (kind_text id values) (values_text id values))

pub put_text_line-next-requires : goal.put_text_line-next-requires
put_text_line-next-requires c = omega (arith, room c.args.id.now c.args.values.now _ _ c.requires)

pub put_text_line-after-requires : goal.put_text_line-after-requires
put_text_line-after-requires c =
    let values = c.args.values.now in
    let place : c.place_of-kind.result ≡ place_of (value values 0) = search rules in
    let kind = ap (λ (word : List ℕ). length (bytes "kind=" ++ (word ++ (10 ∷ [])))) (c.kind_word.ensures.word ∙ ap (written_word kind_words) place) in
    omega (arith, kind, room c.args.id.now values _ _ c.requires, c.put_text_line-next.ensures.ends)

pub put_values-requires : goal.put_values-requires
put_values-requires c =
    let values = c.args.values.now in
    let place : c.place_of-kind.result ≡ place_of (value values 0) = search rules in
    let kind = ap (λ (word : List ℕ). length (bytes "kind=" ++ (word ++ (10 ∷ [])))) (c.kind_word.ensures.word ∙ ap (written_word kind_words) place) in
    let rest = ap (λ (kind : ℕ). length (text_of (lines_of_kind kind (row_of values)))) place in
    omega (arith, kind, rest, room c.args.id.now values _ _ c.requires, c.put_text_line-next.ensures.ends, c.put_text_line-after.ensures.ends)

pub returns : goal.returns
returns c =
    let id = c.args.id.now in
    let values = c.args.values.now in
    let place : c.place_of-kind.result ≡ place_of (value values 0) = search rules in
    let kind = ap (λ (word : List ℕ). bytes "kind=" ++ (word ++ (10 ∷ []))) (c.kind_word.ensures.word ∙ ap (written_word kind_words) place) in
    let rest = ap (λ (kind : ℕ). text_of (lines_of_kind kind (row_of values))) place in
    rw (row_text_lem id values)
    (laid_both c.put_text_line-next.ensures
    (laid_both (laid_as kind c.put_text_line-after.ensures) (laid_as rest c.put_values.ensures) (omega (arith, room id values _ _ c.requires, c.put_text_line-next.ensures.ends)))
    (omega (arith, room id values _ _ c.requires)))
