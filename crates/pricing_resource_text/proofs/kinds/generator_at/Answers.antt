-- The status's line by the laws of a line that holds a word; what follows it by the lines of a generator.
use Prim.Native.Nat.{ℕ, ◌≤◌}
use mathlib.Core.List.{List}
use mathlib.Core.Path.{refl}
use native.Mathlib.Omega.{arith}
use lib.ListN.{length}
use Rattle.text_refusal.specs.Bytes.{bytes}
use Rattle.text_line.specs.Field.{LineAnswer, next_at, field_at}
use Rattle.text_word.proofs.Words.{word_got, word_within, word_refused}
use Rattle.pricing_resource.specs.declared.Kind.{Kind}
use Rattle.pricing_resource.specs.declared.Resource.{Resource}
use Rattle.pricing_resource_text.specs.Resource.{status_words, status_field, status_of, generator_fields, generator_of, with_marks, lines_as}
use Rattle.pricing_resource_text.proofs.Lines.{then_refused, then_more}
use Rattle.pricing_resource_text.proofs.kinds.generator_at.Goals as goal
use Rattle.pricing_resource_text.proofs.kinds.generator_at.Goals.{In-Some}

-- after the status: the lines of its fields
abbrev after_status : Kind → List ℕ → ℕ → ℕ → LineAnswer Resource
after_status kind text status next = lines_as (with_marks (generator_of kind (status_of status))) generator_fields text next

pub returns-in_default : goal.returns-in_default
returns-in_default c =
    then_refused {answer = field_at status_field c.args.text.now c.args.at} (after_status c.args.kind c.args.text.now)
    (rw c.value_fault.ensures (word_refused (bytes "status=") status_words refl c.args.text.now c.args.at c.line_value-value.ensures c.status_word.ensures c.in_default.is))

-- the next line starts within the text
within : (c : In-Some) → next_at c.args.at (bytes "status=") c.line_value-value.result.now ≤ length c.args.text.now
within c = word_within (bytes "status=") status_words refl c.args.text.now c.args.at c.line_value-value.ensures c.status_word.ensures c.in-Some.is

pub overflow_add-at : goal.overflow_add-at
overflow_add-at c = omega (arith, within c)

pub overflow_add-at-2 : goal.overflow_add-at-2
overflow_add-at-2 c = omega (arith, within c)

pub overflow_add-at-3 : goal.overflow_add-at-3
overflow_add-at-3 c = omega (arith, within c)

pub returns : goal.returns
returns c =
    rw (c.generator_lines.ensures, c.status_of.ensures)
    (then_more (after_status c.args.kind c.args.text.now)
    (word_got (bytes "status=") status_words refl c.args.text.now c.args.at c.line_value-value.ensures c.status_word.ensures c.in-Some.is))
