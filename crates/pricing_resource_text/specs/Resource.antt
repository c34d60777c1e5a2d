-- Document 01, "Snapshot to reserves": a resource's kind and its fields.
use Rattle.std.specs.Prelude.{ℕ, zero, suc, List, [], ◌∷◌, ℤ, pos, neg_ℤ, Result, Ok, Err}
use Rattle.text_refusal.specs.declared.refusal.Fault.{Fault}
use Rattle.text_refusal.specs.Bytes.{bytes}
use Rattle.text_line.specs.Field.{Field, LineAnswer, got, refused, field_at}
use Rattle.text_number.specs.Marked.{marked_field, unmarked_field, numbers_of, marks_of}
use Rattle.text_number.specs.declared.marked.Marked.{Marked}
use Rattle.text_schema.specs.Schema.{read_fields}
use Rattle.text_word.specs.Word.{word_field}
use Rattle.text_schema.specs.Schema.{value}
use Rattle.pricing_resource.specs.declared.Kind.{Kind}
use Rattle.pricing_resource.specs.declared.Kind.TheVariants as kind
use Rattle.pricing_resource.specs.declared.Status.{Status}
use Rattle.pricing_resource.specs.declared.Status.TheVariants as status
use Rattle.pricing_resource.specs.declared.Resource.{Resource}
use Rattle.pricing_resource.specs.declared.Resource.TheVariants as resource
use Rattle.pricing_resource_text.specs.declared.ResourceLines.{ResourceLines}

-- ---- words

-- `gen`, `wind`, `irr` and `nuke` are generators, `clr` a controllable load, `nclr` another load
abbrev pub kind_words : List (List ℕ)
kind_words = bytes "gen" ∷ bytes "wind" ∷ bytes "irr" ∷ bytes "nuke" ∷ bytes "clr" ∷ bytes "nclr" ∷ []

abbrev pub status_words : List (List ℕ)
status_words = bytes "ON" ∷ bytes "OFF" ∷ bytes "OFFNS" ∷ bytes "ONTEST" ∷ bytes "STARTUP" ∷ bytes "SHUTDOWN" ∷ bytes "OUT" ∷ []

abbrev pub kind_field : Field ℕ
kind_field = word_field (bytes "kind=") kind_words

abbrev pub status_field : Field ℕ
status_field = word_field (bytes "status=") status_words

-- a status by its place in the list
abbrev pub status_of : ℕ → Status
status_of zero = status.On
status_of (suc zero) = status.Off
status_of (suc (suc zero)) = status.OffNs
status_of (suc (suc (suc zero))) = status.OnTest
status_of (suc (suc (suc (suc zero)))) = status.Startup
status_of (suc (suc (suc (suc (suc zero))))) = status.Shutdown
status_of (suc (suc (suc (suc (suc (suc n)))))) = status.Out

-- ---- fields

-- a number that may be marked suspect (document 02, W-206), and a flag, which carries no mark
abbrev pub resource_power : List ℕ → Field Marked
resource_power key = marked_field key (pos 0) (pos 2000000)

abbrev pub flag : List ℕ → Field Marked
flag key = unmarked_field key (pos 0) (pos 1)

unfoldable pub generator_fields : List (Field Marked)
generator_fields =
    marked_field (bytes "net=") (neg_ℤ (pos 2000000)) (pos 2000000)
    ∷ resource_power (bytes "lsl=")
    ∷ resource_power (bytes "hsl=")
    ∷ resource_power (bytes "base=")
    ∷ resource_power (bytes "nonspin=")
    ∷ flag (bytes "cold30=")
    ∷ []

unfoldable pub controllable_fields : List (Field Marked)
controllable_fields = resource_power (bytes "base=") ∷ resource_power (bytes "lpc=") ∷ resource_power (bytes "nonspin=") ∷ resource_power (bytes "regup=") ∷ []

unfoldable pub load_fields : List (Field Marked)
load_fields = flag (bytes "rrsok=") ∷ resource_power (bytes "net=") ∷ resource_power (bytes "lpc=") ∷ resource_power (bytes "rrs=") ∷ []

-- a resource by its marks and its numbers
abbrev pub generator_of : Kind → Status → ℕ → List ℤ → Resource
generator_of k s marks v =
    resource.Generator
    (record {
      kind = k;
      status = s;
      net = value v 0;
      lsl = value v 1;
      hsl = value v 2;
      base = value v 3;
      nonspin = value v 4;
      cold30 = value v 5;
      marks = marks;
    })

abbrev pub controllable_of : ℕ → List ℤ → Resource
controllable_of marks v = resource.Controllable (record { base = value v 0; lpc = value v 1; nonspin = value v 2; regup = value v 3; marks = marks })

abbrev pub load_of : ℕ → List ℤ → Resource
load_of marks v = resource.Load (record { rrsok = value v 0; net = value v 1; lpc = value v 2; rrs = value v 3; marks = marks })

-- what is made of the numbers read and of their marks
abbrev pub with_marks : {A : Type 0} → (ℕ → List ℤ → A) → List Marked → A
with_marks make values = make (marks_of values) (numbers_of values)

-- ---- the lines of one resource after its id: the first refused line decides

abbrev pub after_answer : {A B : Type 0} → LineAnswer A → (A → ℕ → LineAnswer B) → LineAnswer B
after_answer (got found next) more = more found next
after_answer (refused found) more = refused found

abbrev pub of_lines : {A B : Type 0} → (List A → B) → List A → Result ℕ Fault → LineAnswer B
of_lines make values (Ok next) = got (make values) next
of_lines make values (Err found) = refused found

abbrev pub lines_as : {A B : Type 0} → (List A → B) → List (Field A) → List ℕ → ℕ → LineAnswer B
lines_as make fields text at = of_lines make (read_fields fields text at).values (read_fields fields text at).end

abbrev pub generator_at : Kind → List ℕ → ℕ → LineAnswer Resource
generator_at k text at = after_answer (field_at status_field text at) (λ s next. lines_as (with_marks (generator_of k (status_of s))) generator_fields text next)

abbrev pub of_kind : List ℕ → ℕ → ℕ → LineAnswer Resource
of_kind text zero at = generator_at kind.Gen text at
of_kind text (suc zero) at = generator_at kind.Wind text at
of_kind text (suc (suc zero)) at = generator_at kind.Irr text at
of_kind text (suc (suc (suc zero))) at = generator_at kind.Nuke text at
of_kind text (suc (suc (suc (suc zero)))) at = lines_as (with_marks controllable_of) controllable_fields text at
of_kind text (suc (suc (suc (suc (suc n))))) at = lines_as (with_marks load_of) load_fields text at

unfoldable pub resource_at : List ℕ → ℕ → LineAnswer Resource
resource_at text at = after_answer (field_at kind_field text at) (λ k next. of_kind text k next)

-- what an answer of the resource reader says
abbrev pub lines_answer : Result ResourceLines Fault → LineAnswer Resource
lines_answer (Ok read) = got read.resource read.next
lines_answer (Err found) = refused found
