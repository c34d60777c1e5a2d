-- The numbers of a resource that was read are small.
use Prim.Native.Nat.{ℕ, ◌≤◌}
use native.Mathlib.Omega.{arith}
use mathlib.Core.Path.{◌≡◌}
use mathlib.Core.List.{List}
use lib.IntN.{ℤ, pos, neg_ℤ, nat_abs}
use lib.ListN.{get_or-map}
use lib.Signed.{◌≤ℤ◌}
use Rattle.integer.proofs.Difference.{view, to_ℕ}
use Rattle.integer.proofs.Order.{le_z-true}
use Rattle.text_refusal.specs.Bytes.{bytes}
use Rattle.text_line.specs.Judged.{good}
use Rattle.text_line.specs.Field.{Field}
use Rattle.text_number.specs.Marked.{marked_field, numbers_of}
use Rattle.text_number.specs.declared.marked.Marked.{Marked}
use Rattle.text_number.proofs.Marks.{unmarked_between, marked_between}
use Rattle.text_schema.specs.Schema.{read_fields, value}
use Rattle.text_schema.proofs.Readings.{AllRead, values_all}
use Rattle.text_schema.proofs.Marks.{no_marked}
use Rattle.pricing_resource_text.specs.Resource.{resource_power, flag, generator_fields, controllable_fields, load_fields}

-- ---- the numbers of a field

abbrev Small : ℤ → Type 0
Small z = nat_abs z ≤ 2000000

between : (low high z : ℤ) → nat_abs low ≤ 2000000 → nat_abs high ≤ 2000000 → low ≤ℤ z → z ≤ℤ high → Small z
between low high z = rw (view low, view high, view z) (simp to_ℕ (omega arith))

-- of a number with its mark
abbrev SmallMarked : Marked → Type 0
SmallMarked m = Small m.number

of_marked : (key : List ℕ) (low high : ℤ) → nat_abs low ≤ 2000000 → nat_abs high ≤ 2000000 → (bytes : List ℕ) (m : Marked) → (marked_field key low high).read bytes ≡ good m → SmallMarked m
of_marked key low high l h bytes m is =
    let inside = marked_between low high bytes m is in
    between low high m.number l h (le_z-true low m.number inside.0) (le_z-true m.number high inside.1)

of_power : (key bytes : List ℕ) (m : Marked) → (resource_power key).read bytes ≡ good m → SmallMarked m
of_power key = of_marked key (pos 0) (pos 2000000) (omega arith) (omega arith)

of_flag : (key bytes : List ℕ) (m : Marked) → (flag key).read bytes ≡ good m → SmallMarked m
of_flag key bytes m is =
    let inside = unmarked_between (pos 0) (pos 1) bytes m is in
    between (pos 0) (pos 1) m.number (omega arith) (omega arith) (le_z-true (pos 0) m.number inside.0) (le_z-true m.number (pos 1) inside.1)

-- ---- the fields of a resource

abbrev pub EachSmall : List (Field Marked) → Type 0
EachSmall fields = AllRead SmallMarked fields

pub generator_small : EachSmall generator_fields
unfolding generator_fields
generator_small = (
  of_marked (bytes "net=") (neg_ℤ (pos 2000000)) (pos 2000000) (omega arith) (omega arith),
  (of_power (bytes "lsl="), (of_power (bytes "hsl="), (of_power (bytes "base="), (of_power (bytes "nonspin="), (of_flag (bytes "cold30="), tt))))),
)

pub controllable_small : EachSmall controllable_fields
unfolding controllable_fields
controllable_small = (of_power (bytes "base="), (of_power (bytes "lpc="), (of_power (bytes "nonspin="), (of_power (bytes "regup="), tt))))

pub load_small : EachSmall load_fields
unfolding load_fields
load_small = (of_flag (bytes "rrsok="), (of_power (bytes "net="), (of_power (bytes "lpc="), (of_power (bytes "rrs="), tt))))

-- ---- the numbers read

abbrev pub AllSmall : List ℤ → Type 0
AllSmall values = (place : ℕ) → Small (value values place)

pub numbers_small : (fields : List (Field Marked)) → EachSmall fields → (text : List ℕ) (at : ℕ) → AllSmall (numbers_of (read_fields fields text at).values)
numbers_small fields all text at place =
    rw (get_or-map (λ (m : Marked). m.number) (read_fields fields text at).values place no_marked) (values_all SmallMarked no_marked (omega arith) fields all text at place)
