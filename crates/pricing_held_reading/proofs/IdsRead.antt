-- An id that was read, and its bytes as the code lays them.
use Prim.Native.Nat.{ℕ, ◌+◌, ◌≤◌}
use native.Mathlib.Omega.{arith}
use mathlib.Core.Bool.{Bool, true, false}
use mathlib.Core.List.{List}
use mathlib.Core.Path.{◌≡◌, refl, sym, ap, ◌∙◌}
use lib.ListN.{length}
use Rattle.text_refusal.specs.Bytes.{bytes}
use Rattle.text_line.specs.Line.{OneLine, value_at, value_fault}
use Rattle.text_line.specs.Field.{got, refused, field_at}
use Rattle.text_line.proofs.FieldTexts.{field_read}
use Rattle.text_id.specs.Id.{is_id, id_field}
use Rattle.text_id.proofs.Ids.{id_got, id_refused, id_is, id_bytes}
use Rattle.pricing_held_reading.specs.internal.Laying.{Stands}
use Rattle.pricing_held_reading.proofs.Readings.{got_same}
use Rattle.pricing_held_reading.proofs.Standing.{stands_behind, line_stands}

pub record IdStands (text : List ℕ) (at : ℕ) (id : List ℕ) (next : ℕ) : Type 0 where
  pub stands : Stands text (at + 3) id next
  pub line : OneLine id
  pub few : length id ≤ 16

pub id_stands : (text : List ℕ) (at : ℕ) {id : List ℕ} {next : ℕ} → field_at (id_field (bytes "id=")) text at ≡ got id next → IdStands text at id next
id_stands text at {id} {next} e =
    let read = field_read (id_field (bytes "id=")) text at e in
    let is = id_is (bytes "id=") read.bytes id read.reads in
    let known = id_bytes read.bytes is.1 in
    rw (← is.0)
    (record { stands = stands_behind (bytes "id=") read.bytes (line_stands (id_field (bytes "id=")) text at e); line = known.line; few = known.few })

-- the value of its line, as the code takes it
pub id_valued : (text : List ℕ) (at : ℕ) {id : List ℕ} {next : ℕ} → field_at (id_field (bytes "id=")) text at ≡ got id next → (value_at (bytes "id=") text at ≡ id) × (at + 3 + length id + 1 ≡ next)
id_valued text at {id} {next} e = go (is_id (value_at (bytes "id=") text at)) refl
  where
    go : (found : Bool) → found ≡ is_id (value_at (bytes "id=") text at) → (value_at (bytes "id=") text at ≡ id) × (at + 3 + length id + 1 ≡ next)
    go true is = let same = got_same e (sym (id_got (bytes "id=") text at refl is refl)) in (sym same.0, omega (arith, same.1, ap length same.0))
    go false is = let z : refused (value_fault (bytes "id=") text at 6) ≡ got id next = id_refused (bytes "id=") text at refl is refl ∙ e in absurd (cc)
