-- Laws on ids: one byte on, and at the end.
use Prim.Native.Nat.{ℕ, ◌≤◌, ◌<◌}
use native.Mathlib.Omega.{arith}
use mathlib.Core.Bool.{Bool, true, false, ◌&&◌}
use mathlib.Core.List.{List, [], ◌∷◌}
use mathlib.Core.Path.{◌≡◌, refl, ap, sym, ◌∙◌}
use lib.ListN.{length}
use lib.Dec.{eqb, leb, ltb}
use borrow.Author.Tests.{ltb-true, leb-true, ne_eqb}
use Rattle.std.specs.List.{list_all}
use Rattle.text_refusal.proofs.Choices.{and_left, and_right}
use Rattle.text_line.specs.Line.{OneLine, value_at, value_fault}
use Rattle.text_line.specs.Field.{got, refused, next_at, field_at}
use Rattle.text_line.proofs.Fields.{NoneEmpty, field_got, field_within, field_refused}
use Rattle.text_line.proofs.LineBytes.{one_line_none, one_line_byte}
use Rattle.text_line.proofs.FieldTexts.{JudgedNumbered, FieldNumbered}
use Rattle.text_line.specs.Judged.{good}
use Rattle.text_id.specs.Id.{is_id_byte, all_id_bytes, is_id, judged_id, id_field}

-- each byte is one of an id
pub all_listed : (value : List ℕ) → all_id_bytes value ≡ list_all is_id_byte value
unfolding all_id_bytes
all_listed [] = refl
all_listed (byte ∷ rest) = rw (all_listed rest)

-- ---- a line that holds an id

pub id_none_empty : (key : List ℕ) → NoneEmpty (id_field key)
unfolding is_id
id_none_empty key value e = let z : ◌≡◌ {A = ℕ} 0 1 = cc in omega arith

-- what the reader of ids said of the line's value, and what the line gives
module _ (key text : List ℕ) (at : ℕ) {value : List ℕ} {found : Bool} (same : value ≡ value_at key text at) (is : found ≡ is_id value) where
  judged_is : {said : Bool} → found ≡ said → (id_field key).read (value_at key text at) ≡ judged_id value said
  judged_is told = rw (← same) (ap (judged_id value) (sym is ∙ told))

  pub id_got : found ≡ true → got value (next_at at key value) ≡ field_at (id_field key) text at
  id_got told = ap (λ (bytes : List ℕ). got value (next_at at key bytes)) same ∙ field_got (id_field key) text at (id_none_empty key) (judged_is told)

  pub id_within : found ≡ true → next_at at key value ≤ length text
  id_within told = rw same (field_within (id_field key) text at (id_none_empty key) (judged_is told)).0

  pub id_refused : found ≡ false → refused (value_fault key text at 6) ≡ field_at (id_field key) text at
  id_refused told = field_refused (id_field key) text at (judged_is told)

-- an id is read as its own bytes
pub id_is : (key bytes value : List ℕ) → (id_field key).read bytes ≡ good value → (bytes ≡ value) × (is_id bytes ≡ true)
id_is key bytes value e = go (is_id bytes) refl e
  where
    go : (b : Bool) → is_id bytes ≡ b → judged_id bytes b ≡ good value → (bytes ≡ value) × (is_id bytes ≡ true)
    go true h e = (cc, h)
    go false h e = let z : ◌≡◌ {A = ℕ} 0 1 = cc in absurd (omega arith)

-- an id is one line of 1 to 16 bytes
pub record IdBytes (bytes : List ℕ) : Type 0 where
  pub line : OneLine bytes
  pub some_bytes : 0 < length bytes
  pub few : length bytes ≤ 16

id_byte_other : (byte : ℕ) → is_id_byte byte ≡ true → byte ≡ 10 → ⊥
id_byte_other byte e ten = let f : is_id_byte 10 ≡ true = rw ten at e in let z : ◌≡◌ {A = ℕ} 0 1 = cc in omega arith

id_bytes_line : (bytes : List ℕ) → all_id_bytes bytes ≡ true → OneLine bytes
unfolding all_id_bytes
id_bytes_line [] e = one_line_none
id_bytes_line (byte ∷ bytes) e =
    one_line_byte byte bytes (ne_eqb byte 10 (id_byte_other byte (and_left (is_id_byte byte) (all_id_bytes bytes) e))) (id_bytes_line bytes (and_right (is_id_byte byte) (all_id_bytes bytes) e))

pub id_bytes : (bytes : List ℕ) → is_id bytes ≡ true → IdBytes bytes
unfolding is_id
id_bytes bytes e =
    let rest : (leb (length bytes) 16 && all_id_bytes bytes) ≡ true = and_right (ltb 0 (length bytes)) (leb (length bytes) 16 && all_id_bytes bytes) e in
    record {
      line = id_bytes_line bytes (and_right (leb (length bytes) 16) (all_id_bytes bytes) rest);
      some_bytes = ltb-true 0 (length bytes) (and_left (ltb 0 (length bytes)) (leb (length bytes) 16 && all_id_bytes bytes) e);
      few = leb-true (length bytes) 16 (and_left (leb (length bytes) 16) (all_id_bytes bytes) rest);
    }

-- none of its bytes is a mark, which no id has
abbrev pub Free : ℕ → List ℕ → Type 0
Free mark [] = Unit
Free mark (byte ∷ bytes) = (eqb byte mark ≡ false) × Free mark bytes

all_free : (mark : ℕ) → is_id_byte mark ≡ false → (bytes : List ℕ) → all_id_bytes bytes ≡ true → Free mark bytes
unfolding all_id_bytes
all_free mark none [] e = tt
all_free mark none (byte ∷ bytes) e =
    (ne_eqb byte mark (λ same. other (rw same at (and_left (is_id_byte byte) (all_id_bytes bytes) e))), all_free mark none bytes (and_right (is_id_byte byte) (all_id_bytes bytes) e))
  where
    other : is_id_byte mark ≡ true → ⊥
    other f = let z : ◌≡◌ {A = ℕ} 0 1 = cc in omega arith

pub id_free : (mark : ℕ) → is_id_byte mark ≡ false → (bytes : List ℕ) → is_id bytes ≡ true → Free mark bytes
unfolding is_id
id_free mark none bytes e =
    all_free mark none bytes
    (and_right (leb (length bytes) 16) (all_id_bytes bytes) (and_right (ltb 0 (length bytes)) (leb (length bytes) 16 && all_id_bytes bytes) e))

pub id_numbered : (key : List ℕ) → FieldNumbered (id_field key)
id_numbered key value = go (is_id value)
  where
    go : (found : Bool) → JudgedNumbered (judged_id value found)
    go true = tt
    go false = (omega arith, omega arith)
