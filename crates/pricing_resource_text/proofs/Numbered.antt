-- No refused line of a resource has the number 0.
use Prim.Native.Nat.{ℕ, zero, suc}
use mathlib.Core.List.{List}
use lib.IntN.{pos, neg_ℤ}
use Rattle.text_refusal.specs.Bytes.{bytes}
use Rattle.text_line.specs.Field.{Field, LineAnswer, got, refused, field_at}
use Rattle.std.specs.Prelude.{Result, Ok, Err}
use Rattle.text_refusal.specs.declared.refusal.Fault.{Fault}
use Rattle.text_line.proofs.FieldTexts.{LineNumbered, FieldNumbered, field_numbered}
use Rattle.text_word.proofs.Words.{word_numbered}
use Rattle.text_schema.specs.Schema.{read_fields}
use Rattle.text_schema.proofs.Fields.{LinesNumbered, FieldsNumbered, reading_numbered}
use Rattle.text_schema.proofs.Marks.{marked_numbered, unmarked_numbered}
use Rattle.pricing_resource.specs.declared.Kind.{Kind}
use Rattle.pricing_resource.specs.declared.Kind.TheVariants as kind
use Rattle.pricing_resource_text.specs.Resource.{kind_words, kind_field, status_words, status_field, status_of, resource_power, flag, generator_fields, controllable_fields, load_fields, generator_of, controllable_of, load_of, with_marks, after_answer, of_lines, lines_as, generator_at, of_kind, resource_at}

after_numbered : {A B : Type 0} (found : LineAnswer A) (more : A → ℕ → LineAnswer B) → LineNumbered found → ((value : A) (next : ℕ) → LineNumbered (more value next)) → LineNumbered (after_answer found more)
after_numbered (got value next) more n others = others value next
after_numbered (refused found) more n others = n

lines_numbered : {A B : Type 0} (make : List A → B) (fields : List (Field A)) → FieldsNumbered fields → (text : List ℕ) (at : ℕ) → LineNumbered (lines_as make fields text at)
lines_numbered make fields each text at = go (read_fields fields text at).end (reading_numbered fields each text at)
  where
    go : (ended : Result ℕ Fault) → LinesNumbered ended → LineNumbered (of_lines make (read_fields fields text at).values ended)
    go (Ok next) n = tt
    go (Err found) n = n

power : (key : List ℕ) → FieldNumbered (resource_power key)
power key = marked_numbered key (pos 0) (pos 2000000)

of_flag : (key : List ℕ) → FieldNumbered (flag key)
of_flag key = unmarked_numbered key (pos 0) (pos 1)

generator_numbered : FieldsNumbered generator_fields
unfolding generator_fields
generator_numbered = (
  marked_numbered (bytes "net=") (neg_ℤ (pos 2000000)) (pos 2000000),
  (power (bytes "lsl="), (power (bytes "hsl="), (power (bytes "base="), (power (bytes "nonspin="), (of_flag (bytes "cold30="), tt))))),
)

controllable_numbered : FieldsNumbered controllable_fields
unfolding controllable_fields
controllable_numbered = (power (bytes "base="), (power (bytes "lpc="), (power (bytes "nonspin="), (power (bytes "regup="), tt))))

load_numbered : FieldsNumbered load_fields
unfolding load_fields
load_numbered = (of_flag (bytes "rrsok="), (power (bytes "net="), (power (bytes "lpc="), (power (bytes "rrs="), tt))))

pub resource_numbered : (text : List ℕ) (at : ℕ) → LineNumbered (resource_at text at)
unfolding resource_at
resource_numbered text at =
    after_numbered (field_at kind_field text at) (of_kind text) (field_numbered kind_field text at (word_numbered (bytes "kind=") kind_words)) by_kind
  where
    generator : (k : Kind) (at : ℕ) → LineNumbered (generator_at k text at)
    generator k at =
        after_numbered (field_at status_field text at) (λ s next. lines_as (with_marks (generator_of k (status_of s))) generator_fields text next)
        (field_numbered status_field text at (word_numbered (bytes "status=") status_words))
        (λ s next. lines_numbered (with_marks (generator_of k (status_of s))) generator_fields generator_numbered text next)

    by_kind : (k at : ℕ) → LineNumbered (of_kind text k at)
    by_kind zero at = generator kind.Gen at
    by_kind (suc zero) at = generator kind.Wind at
    by_kind (suc (suc zero)) at = generator kind.Irr at
    by_kind (suc (suc (suc zero))) at = generator kind.Nuke at
    by_kind (suc (suc (suc (suc zero)))) at = lines_numbered (with_marks controllable_of) controllable_fields controllable_numbered text at
    by_kind (suc (suc (suc (suc (suc n))))) at = lines_numbered (with_marks load_of) load_fields load_numbered text at
