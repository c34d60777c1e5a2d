-- The kind's line by the laws of a line that holds a word; what follows it by the lines of the kind.
use Prim.Native.Nat.{◌≤◌}
use mathlib.Core.Path.{refl, ◌∙◌}
use native.Mathlib.Omega.{arith}
use lib.ListN.{length}
use Rattle.text_refusal.specs.Bytes.{bytes}
use Rattle.text_line.specs.Field.{next_at, field_at}
use Rattle.text_word.proofs.Words.{word_got, word_within, word_refused}
use Rattle.pricing_resource_text.specs.Resource.{kind_words, kind_field, of_kind, resource_at}
use Rattle.pricing_resource_text.proofs.Lines.{then_refused, then_more}
use Rattle.pricing_resource_text.proofs.resource_at.Goals as goal
use Rattle.pricing_resource_text.proofs.resource_at.Goals.{In-Some}

pub returns-in_default : goal.returns-in_default
unfolding resource_at
returns-in_default c =
    then_refused {answer = field_at kind_field c.args.text.now c.args.at} (of_kind c.args.text.now)
    (rw c.value_fault.ensures (word_refused (bytes "kind=") kind_words refl c.args.text.now c.args.at c.line_value-value.ensures c.kind_word.ensures c.in_default.is))

-- the next line starts within the text
within : (c : In-Some) → next_at c.args.at (bytes "kind=") c.line_value-value.result.now ≤ length c.args.text.now
within c = word_within (bytes "kind=") kind_words refl c.args.text.now c.args.at c.line_value-value.ensures c.kind_word.ensures c.in-Some.is

pub overflow_add-at : goal.overflow_add-at
overflow_add-at c = omega (arith, within c)

pub overflow_add-at-2 : goal.overflow_add-at-2
overflow_add-at-2 c = omega (arith, within c)

pub overflow_add-at-3 : goal.overflow_add-at-3
overflow_add-at-3 c = omega (arith, within c)

pub returns : goal.returns
unfolding resource_at
returns c =
    c.of_kind.ensures
    ∙ then_more {answer = field_at kind_field c.args.text.now c.args.at} (of_kind c.args.text.now)
    (word_got (bytes "kind=") kind_words refl c.args.text.now c.args.at c.line_value-value.ensures c.kind_word.ensures c.in-Some.is)
