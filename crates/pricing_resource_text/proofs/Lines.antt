-- Laws on the lines of a resource: lines that were read into places, and what the readers' answers come to.
use Prim.Native.Nat.{ℕ}
use mathlib.Core.Path.{◌≡◌, refl, ap}
use mathlib.Core.List.{List, [], ◌∷◌, ◌++◌}
use lib.IntN.{ℤ, pos, neg_ℤ}
use lib.ListN.{length, replicate}
use native.Mathlib.Omega.{arith}
use Rattle.text_refusal.specs.Bytes.{bytes}
use Rattle.text_refusal.specs.declared.refusal.Fault.{Fault}
use Rattle.text_line.proofs.LineBytes.{one_line}
use Rattle.text_line.specs.Field.{Field, LineAnswer, got, refused}
use Rattle.text_schema.proofs.Fields.{keys_computed}
use Rattle.text_number.specs.Marked.{marked_field}
use Rattle.text_number.specs.declared.marked.Marked.{Marked}
use Rattle.text_schema.specs.Schema.{keys_of}
use Rattle.text_schema.proofs.Marks.{EachMarked, no_marked_lem, one_marked, LinesWithMarks, no_line, marked_one, unmarked_one}
use Rattle.pricing_resource_text.specs.internal.Marks.{fields_of, FewLines}
use Rattle.pricing_resource_text.specs.Resource.{resource_power, flag, generator_fields, controllable_fields, load_fields, after_answer}

-- ---- the lines of each kind

-- a flag, and the lines that may be marked
abbrev pub generator_marked : List (Field Marked)
generator_marked =
    marked_field (bytes "net=") (neg_ℤ (pos 2000000)) (pos 2000000)
    ∷ resource_power (bytes "lsl=")
    ∷ resource_power (bytes "hsl=")
    ∷ resource_power (bytes "base=")
    ∷ resource_power (bytes "nonspin=")
    ∷ []

abbrev pub load_marked : List (Field Marked)
load_marked = resource_power (bytes "net=") ∷ resource_power (bytes "lpc=") ∷ resource_power (bytes "rrs=") ∷ []

pub generator_parts : generator_fields ≡ generator_marked ++ (flag (bytes "cold30=") ∷ [])
unfolding generator_fields
generator_parts = refl

pub load_parts : load_fields ≡ flag (bytes "rrsok=") ∷ load_marked
unfolding load_fields
load_parts = refl

pub controllable_parts : controllable_fields ≡ resource_power (bytes "base=") ∷ resource_power (bytes "lpc=") ∷ resource_power (bytes "nonspin=") ∷ resource_power (bytes "regup=") ∷ []
unfolding controllable_fields
controllable_parts = refl

pub generator_marked_lem : EachMarked generator_marked (neg_ℤ (pos 2000000) ∷ replicate 4 (pos 0)) (replicate 5 (pos 2000000))
generator_marked_lem = one_marked (one_marked (one_marked (one_marked (one_marked no_marked_lem))))

pub controllable_marked : EachMarked controllable_fields (replicate 4 (pos 0)) (replicate 4 (pos 2000000))
unfolding controllable_fields
controllable_marked = one_marked (one_marked (one_marked (one_marked no_marked_lem)))

pub load_marked_lem : EachMarked load_marked (replicate 3 (pos 0)) (replicate 3 (pos 2000000))
load_marked_lem = one_marked (one_marked (one_marked no_marked_lem))

-- each under a key of one line
pub generator_with_marks : LinesWithMarks generator_fields
unfolding generator_fields
generator_with_marks =
    marked_one (neg_ℤ (pos 2000000)) (pos 2000000) (one_line (bytes "net=") refl)
    (marked_one (pos 0) (pos 2000000) (one_line (bytes "lsl=") refl)
    (marked_one (pos 0) (pos 2000000) (one_line (bytes "hsl=") refl)
    (marked_one (pos 0) (pos 2000000) (one_line (bytes "base=") refl)
    (marked_one (pos 0) (pos 2000000) (one_line (bytes "nonspin=") refl)
    (unmarked_one (pos 0) (pos 1) (one_line (bytes "cold30=") refl) no_line)))))

pub controllable_with_marks : LinesWithMarks controllable_fields
unfolding controllable_fields
controllable_with_marks =
    marked_one (pos 0) (pos 2000000) (one_line (bytes "base=") refl)
    (marked_one (pos 0) (pos 2000000) (one_line (bytes "lpc=") refl) (marked_one (pos 0) (pos 2000000) (one_line (bytes "nonspin=") refl) (marked_one (pos 0) (pos 2000000) (one_line (bytes "regup=") refl) no_line)))

pub load_with_marks : LinesWithMarks load_fields
unfolding load_fields
load_with_marks =
    unmarked_one (pos 0) (pos 1) (one_line (bytes "rrsok=") refl)
    (marked_one (pos 0) (pos 2000000) (one_line (bytes "net=") refl) (marked_one (pos 0) (pos 2000000) (one_line (bytes "lpc=") refl) (marked_one (pos 0) (pos 2000000) (one_line (bytes "rrs=") refl) no_line)))

-- how many they are
pub generator_long : length generator_fields ≡ 6
unfolding generator_fields
generator_long = refl

pub controllable_long : length controllable_fields ≡ 4
unfolding controllable_fields
controllable_long = refl

pub load_long : length load_fields ≡ 4
unfolding load_fields
load_long = refl

-- ---- the lines of each kind by keys and bounds, as the code hands them over

pub generator_few : {lows highs : List ℤ} → length lows ≡ 6 → length highs ≡ 6 → FewLines (bytes "net=lsl=hsl=base=nonspin=cold30=") lows highs (replicate 6 (pos 0))
generator_few lows_are highs_are = record { keys_are = ap length (keys_computed (bytes "net=lsl=hsl=base=nonspin=cold30=")); lows_are = lows_are; highs_are = highs_are; few = omega arith }

pub controllable_few : {lows highs : List ℤ} → length lows ≡ 4 → length highs ≡ 4 → FewLines (bytes "base=lpc=nonspin=regup=") lows highs (replicate 4 (pos 0))
controllable_few lows_are highs_are = record { keys_are = ap length (keys_computed (bytes "base=lpc=nonspin=regup=")); lows_are = lows_are; highs_are = highs_are; few = omega arith }

pub load_few : {lows highs : List ℤ} → length lows ≡ 4 → length highs ≡ 4 → FewLines (bytes "rrsok=net=lpc=rrs=") lows highs (replicate 4 (pos 0))
load_few lows_are highs_are = record { keys_are = ap length (keys_computed (bytes "rrsok=net=lpc=rrs=")); lows_are = lows_are; highs_are = highs_are; few = omega arith }

pub generator_is : fields_of 5 0 (keys_of (bytes "net=lsl=hsl=base=nonspin=cold30=")) (neg_ℤ (pos 2000000) ∷ replicate 5 (pos 0)) (replicate 5 (pos 2000000) ++ (pos 1 ∷ [])) ≡ generator_fields
unfolding fields_of generator_fields
generator_is = rw (keys_computed (bytes "net=lsl=hsl=base=nonspin=cold30=")) refl

pub controllable_is : fields_of 4 0 (keys_of (bytes "base=lpc=nonspin=regup=")) (replicate 4 (pos 0)) (replicate 4 (pos 2000000)) ≡ controllable_fields
unfolding fields_of controllable_fields
controllable_is = rw (keys_computed (bytes "base=lpc=nonspin=regup=")) refl

pub load_is : fields_of 0 0 (keys_of (bytes "rrsok=net=lpc=rrs=")) (replicate 4 (pos 0)) (pos 1 ∷ replicate 3 (pos 2000000)) ≡ load_fields
unfolding fields_of load_fields
load_is = rw (keys_computed (bytes "rrsok=net=lpc=rrs=")) refl

-- ---- a line, and what follows it

module _ {A B : Type 0} {answer : LineAnswer A} (more : A → ℕ → LineAnswer B) where
  pub then_refused : {found : Fault} → refused found ≡ answer → refused found ≡ after_answer answer more
  then_refused told = rw (← told)

  pub then_more : {one : A} {next : ℕ} → got one next ≡ answer → more one next ≡ after_answer answer more
  then_more told = rw (← told)
