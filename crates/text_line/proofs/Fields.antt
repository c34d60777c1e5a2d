-- Laws of a line: what is told of it by its value's bytes and by its fault; a line of any kind of value by what a reader of that kind says of the value.
use Prim.Native.Nat.{ℕ, ◌+◌, ◌-◌, ◌≤◌, ◌<◌}
use native.Mathlib.Omega.{arith}
use mathlib.Core.Bool.{Bool, true, false, cond}
use mathlib.Core.List.{List, []}
use mathlib.Core.Path.{◌≡◌, refl}
use lib.Dec.{eqb, ltb}
use lib.ListN.{length, take, drop, length-drop, length-take}
use borrow.Author.Tests.{ltb-true, eqb-false}
use Rattle.text_refusal.specs.Refusal.{fault}
use Rattle.text_line.specs.Judged.{Judged, good, bad}
use Rattle.text_line.specs.Line.{line_length, begins, line_in, line_at, value_or_none, value_at, number_or_zero, line_fault, own_or, value_fault}
use Rattle.text_line.specs.Field.{Field, got, refused, next_at, value_in, field_at}
use Rattle.text_line.specs.Piece.{part}
use Rattle.text_line.proofs.DueLines.{line_after}

-- ---- what a line is

-- a line is refused by 3, 4 or 5, or has a value; the value is not empty, and the key, the value and byte 10 stand in the text
pub data LineIs (key rest : List ℕ) : Judged (List ℕ) → Type 0 where
  valued : {value : List ℕ} → 0 < length value → length key + length value + 1 ≤ length rest → line_length rest ≡ length key + length value → begins key (take (line_length rest) rest) ≡ true → value ≡ part rest (length key) (line_length rest) → LineIs key rest (good value)
  unended : LineIs key rest (bad 3)
  other : LineIs key rest (bad 4)
  empty : LineIs key rest (bad 5)

pub line_is : (key rest : List ℕ) → LineIs key rest (line_in key rest)
unfolding line_in
line_is key rest = go (ltb (line_length rest) (length rest)) refl (begins key (take (line_length rest) rest)) refl (eqb (length key) (line_length rest)) refl
  where
    go :
        (long : Bool) → ltb (line_length rest) (length rest) ≡ long → (begun : Bool) → begins key (take (line_length rest) rest) ≡ begun →
        (none : Bool) → eqb (length key) (line_length rest) ≡ none →
        LineIs key rest (cond long (cond begun (cond none (bad 5) (good (part rest (length key) (line_length rest)))) (bad 4)) (bad 3))
    go true l true b true e = empty
    go true l true b false e =
        let within = ltb-true (line_length rest) (length rest) l in
        let some = eqb-false (length key) (line_length rest) e in
        let after = line_after key rest b in
        let size : length (part rest (length key) (line_length rest)) ≡ line_length rest - length key =
        omega (arith, length-take (line_length rest - length key) (drop (length key) rest), length-drop (length key) rest) in
        valued {value = part rest (length key) (line_length rest)} (omega (arith, some)) (omega arith) (omega arith) b refl
    go true l false b none e = other
    go false l begun b none e = unended

-- the fault of a line whose value was refused, by the line's own number
module _ (key text : List ℕ) (at number : ℕ) where
  pub fault-value : line_fault key text at ≡ 0 → fault number at ≡ value_fault key text at number
  fault-value none = go (line_in key (drop at text)) (line_is key (drop at text)) none
    where
      go : (line : Judged (List ℕ)) → LineIs key (drop at text) line → number_or_zero line ≡ 0 → fault number at ≡ fault (own_or number line) at
      go (good value) line none = refl
      go (bad own) unended none = absurd (omega arith)
      go (bad own) other none = absurd (omega arith)
      go (bad own) empty none = absurd (omega arith)

  pub fault_own : {own : ℕ} → own ≡ line_fault key text at → (own ≡ 0 → ⊥) → fault own at ≡ value_fault key text at number
  fault_own {own} is some = go (line_in key (drop at text)) is
    where
      go : (line : Judged (List ℕ)) → own ≡ number_or_zero line → fault own at ≡ fault (own_or number line) at
      go (good value) is = absurd (some is)
      go (bad refusing) is = rw is

-- ---- a line of any kind of value

-- no kind of value is written with no bytes
abbrev pub NoneEmpty : {A : Type 0} → Field A → Type 0
NoneEmpty {A} field = (value : A) → field.read [] ≡ good value → ⊥

module _ {A : Type 0} (field : Field A) (text : List ℕ) (at : ℕ) where
  -- the reader of the kind took the line's value
  module _ (none_empty : NoneEmpty field) {value : A} (took : field.read (value_at field.key text at) ≡ good value) where
    pub field_got : got value (next_at at field.key (value_at field.key text at)) ≡ field_at field text at
    unfolding field_at
    field_got = go (line_at field.key text at) took
      where
        go : (line : Judged (List ℕ)) → field.read (value_or_none line) ≡ good value → got value (next_at at field.key (value_or_none line)) ≡ value_in field at line
        go (good bytes) took = rw took
        go (bad number) took = absurd (none_empty value took)

    -- the line stands in the text, its value not empty
    pub field_within : (next_at at field.key (value_at field.key text at) ≤ length text) × (0 < length (value_at field.key text at))
    field_within = go (line_at field.key text at) (line_is field.key (drop at text)) took
      where
        go : (line : Judged (List ℕ)) → LineIs field.key (drop at text) line → field.read (value_or_none line) ≡ good value → (next_at at field.key (value_or_none line) ≤ length text) × (0 < length (value_or_none line))
        go (good bytes) (valued some within whole begun is) took = (omega (arith, within, length-drop at text), some)
        go (bad number) line took = absurd (none_empty value took)

  -- it refused the line's value: the line's own fault where it is refused itself
  pub field_refused : {number : ℕ} → field.read (value_at field.key text at) ≡ bad number → refused (value_fault field.key text at number) ≡ field_at field text at
  unfolding field_at
  field_refused {number} found = go (line_at field.key text at) found
    where
      go : (line : Judged (List ℕ)) → field.read (value_or_none line) ≡ bad number → refused (fault (own_or number line) at) ≡ value_in field at line
      go (good bytes) found = rw found
      go (bad own) found = refl
