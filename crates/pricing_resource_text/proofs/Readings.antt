-- What reading gives is in range: each value of lines that were read lies within its field's bounds, so a header and resources that were read are in range,
-- and there are as many resources as `count` says.
use Prim.Native.Nat.{ℕ, zero, suc}
use native.Mathlib.Omega.{arith}
use mathlib.Core.Path.{◌≡◌, refl, subst, sym, ◌∙◌}
use mathlib.Core.List.{List}
use lib.Dec.{lit<}
use lib.IntN.{pos, neg_ℤ}
use Rattle.text_refusal.specs.Bytes.{bytes}
use Rattle.text_line.specs.Field.{Field, LineAnswer, got, refused, field_at}
use Rattle.text_number.specs.declared.marked.Marked.{Marked}
use Rattle.text_schema.specs.Schema.{Reading, read_fields}
use Rattle.text_schema.proofs.Marks.{marked_at, unmarked_at}
use Rattle.std.specs.Prelude.{Result, Ok, Err}
use Rattle.text_refusal.specs.declared.refusal.Fault.{Fault}
use Rattle.pricing_resource_text.specs.Resource.{kind_field, status_field, status_of, generator_fields, controllable_fields, load_fields, generator_of, controllable_of, load_of, with_marks, after_answer, of_lines, lines_as, generator_at, of_kind, resource_at}
use Rattle.pricing_resource.specs.declared.Kind.{Kind}
use Rattle.pricing_resource.specs.declared.Kind.TheVariants as kind
use Rattle.pricing_resource.specs.declared.Status.{Status}
use Rattle.pricing_resource.specs.declared.Resource.{Resource}
use Rattle.pricing_resource.specs.internal.Range.{ResourceInRange}

-- ---- a resource

-- an answer that follows another: both were good
pub record Followed {A B : Type 0} (first : LineAnswer A) (more : A → ℕ → LineAnswer B) (found : B) (next : ℕ) : Type 0 where
  pub one : A
  pub after : ℕ
  pub given : first ≡ got one after
  pub then : more one after ≡ got found next

pub followed : {A B : Type 0} (first : LineAnswer A) (more : A → ℕ → LineAnswer B) {found : B} {next : ℕ} → after_answer first more ≡ got found next → Followed first more found next
followed (got one after) more e = record { one = one; after = after; given = refl; then = e }
followed (refused fault) more e = let z : ◌≡◌ {A = ℕ} 0 1 = cc in absurd (omega arith)

pub record LinesGiven {A B : Type 0} (make : List A → B) (reading : Reading A) (found : B) (next : ℕ) : Type 0 where
  pub ended : reading.end ≡ Ok next
  pub made : make reading.values ≡ found

pub lines_given : {A B : Type 0} (make : List A → B) (values : List A) (end : Result ℕ Fault) {found : B} {next : ℕ} → of_lines make values end ≡ got found next → LinesGiven make (record { values = values; end = end }) found next
lines_given make values (Ok next) e = record { ended = cc; made = cc }
lines_given make values (Err fault) e = let z : ◌≡◌ {A = ℕ} 0 1 = cc in absurd (omega arith)

pub generator_read : (k : Kind) (s : Status) (text : List ℕ) (at next : ℕ) → (read_fields generator_fields text at).end ≡ Ok next → ResourceInRange (with_marks (generator_of k s) (read_fields generator_fields text at).values)
unfolding generator_fields
generator_read k s text at next e =
    record {
      net = marked_at generator_fields text at next e 0 (lit< tt) (bytes "net=") (neg_ℤ (pos 2000000)) (pos 2000000) refl;
      lsl = marked_at generator_fields text at next e 1 (lit< tt) (bytes "lsl=") (pos 0) (pos 2000000) refl;
      hsl = marked_at generator_fields text at next e 2 (lit< tt) (bytes "hsl=") (pos 0) (pos 2000000) refl;
      base = marked_at generator_fields text at next e 3 (lit< tt) (bytes "base=") (pos 0) (pos 2000000) refl;
      nonspin = marked_at generator_fields text at next e 4 (lit< tt) (bytes "nonspin=") (pos 0) (pos 2000000) refl;
      cold30 = unmarked_at generator_fields text at next e 5 (lit< tt) (bytes "cold30=") (pos 0) (pos 1) refl;
    }

pub controllable_read : (text : List ℕ) (at next : ℕ) → (read_fields controllable_fields text at).end ≡ Ok next → ResourceInRange (with_marks controllable_of (read_fields controllable_fields text at).values)
unfolding controllable_fields
controllable_read text at next e =
    record {
      base = marked_at controllable_fields text at next e 0 (lit< tt) (bytes "base=") (pos 0) (pos 2000000) refl;
      lpc = marked_at controllable_fields text at next e 1 (lit< tt) (bytes "lpc=") (pos 0) (pos 2000000) refl;
      nonspin = marked_at controllable_fields text at next e 2 (lit< tt) (bytes "nonspin=") (pos 0) (pos 2000000) refl;
      regup = marked_at controllable_fields text at next e 3 (lit< tt) (bytes "regup=") (pos 0) (pos 2000000) refl;
    }

pub load_read : (text : List ℕ) (at next : ℕ) → (read_fields load_fields text at).end ≡ Ok next → ResourceInRange (with_marks load_of (read_fields load_fields text at).values)
unfolding load_fields
load_read text at next e =
    record {
      rrsok = unmarked_at load_fields text at next e 0 (lit< tt) (bytes "rrsok=") (pos 0) (pos 1) refl;
      net = marked_at load_fields text at next e 1 (lit< tt) (bytes "net=") (pos 0) (pos 2000000) refl;
      lpc = marked_at load_fields text at next e 2 (lit< tt) (bytes "lpc=") (pos 0) (pos 2000000) refl;
      rrs = marked_at load_fields text at next e 3 (lit< tt) (bytes "rrs=") (pos 0) (pos 2000000) refl;
    }

-- a resource made of values in range
in_range : (make : List Marked → Resource) (fields : List (Field Marked)) (text : List ℕ) (at : ℕ) {one : Resource} {next : ℕ} → ((next : ℕ) → (read_fields fields text at).end ≡ Ok next → ResourceInRange (make (read_fields fields text at).values)) → lines_as make fields text at ≡ got one next → ResourceInRange one
in_range make fields text at {next = next} known e =
    let given = lines_given make (read_fields fields text at).values (read_fields fields text at).end e in
    subst (λ (x : Resource). ResourceInRange x) given.made (known next given.ended)

generator_at_lem : (k : Kind) (text : List ℕ) (at : ℕ) {one : Resource} {next : ℕ} → generator_at k text at ≡ got one next → ResourceInRange one
generator_at_lem k text at e =
    let f = followed (field_at status_field text at) (λ s next. lines_as (with_marks (generator_of k (status_of s))) generator_fields text next) e in
    in_range (with_marks (generator_of k (status_of f.one))) generator_fields text f.after (generator_read k (status_of f.one) text f.after) f.then

of_kind_lem : (text : List ℕ) (k at : ℕ) {one : Resource} {next : ℕ} → of_kind text k at ≡ got one next → ResourceInRange one
of_kind_lem text zero at e = generator_at_lem kind.Gen text at e
of_kind_lem text (suc zero) at e = generator_at_lem kind.Wind text at e
of_kind_lem text (suc (suc zero)) at e = generator_at_lem kind.Irr text at e
of_kind_lem text (suc (suc (suc zero))) at e = generator_at_lem kind.Nuke text at e
of_kind_lem text (suc (suc (suc (suc zero)))) at e = in_range (with_marks controllable_of) controllable_fields text at (controllable_read text at) e
of_kind_lem text (suc (suc (suc (suc (suc n))))) at e = in_range (with_marks load_of) load_fields text at (load_read text at) e

-- the kind's line, then those of the kind
pub resource_is : (text : List ℕ) (at : ℕ) → resource_at text at ≡ after_answer (field_at kind_field text at) (of_kind text)
unfolding resource_at
resource_is text at = refl

-- a resource that was read: its kind, and the lines of that kind
pub resource_followed : (text : List ℕ) (at : ℕ) {one : Resource} {next : ℕ} → resource_at text at ≡ got one next → Followed (field_at kind_field text at) (of_kind text) one next
resource_followed text at e = followed (field_at kind_field text at) (of_kind text) (sym (resource_is text at) ∙ e)

-- a resource that was read is in range
pub resource_read : (text : List ℕ) (at : ℕ) {one : Resource} {next : ℕ} → resource_at text at ≡ got one next → ResourceInRange one
resource_read text at e = let f = resource_followed text at e in of_kind_lem text f.one f.after f.then
