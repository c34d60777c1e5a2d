-- Laws on what lines give that were read to their end: as many values as lines, each within its bounds; and a schema that stands before another.
use Prim.Native.Nat.{ℕ, zero, suc, ◌≤◌, ◌<◌}
use native.Mathlib.Omega.{arith}
use mathlib.Core.Bool.{Bool, true, false, ◌&&◌}
use mathlib.Core.List.{List, [], ◌∷◌, ◌++◌, append-nil}
use mathlib.Core.Path.{◌≡◌, refl, sym, ap, ◌∙◌}
use lib.Dec.{leb}
use lib.IntN.{ℤ, pos, nat_abs}
use lib.Signed.{◌≤ℤ◌}
use lib.ListN.{length, get_or, drop_of_length-le, get_or-eq_default}
use borrow.Author.Tests.{leb-true, leb-false}
use Rattle.std.specs.Prelude.{Result, Ok, Err}
use Rattle.text_refusal.specs.declared.refusal.Fault.{Fault}
use Rattle.integer.proofs.Difference.{view, to_ℕ}
use Rattle.integer.proofs.Order.{le_z-true}
use Rattle.text_refusal.proofs.Choices.{and_left, and_right}
use Rattle.text_line.specs.Judged.{good}
use Rattle.text_line.specs.Field.{Field, LineAnswer, got, refused, field_at}
use Rattle.text_line.proofs.FieldTexts.{field_read}
use Rattle.text_number.specs.Field.{number_field}
use Rattle.text_number.proofs.Fields.{number_between}
use Rattle.text_schema.specs.Schema.{Reading, and_then, read_fields, number_fields, value, placed_fields, laid_over, LinesRead}

-- a schema before another one: the other is read where the first ended
abbrev pub reading_then : {A : Type 0} → Reading A → (ℕ → Reading A) → Reading A
reading_then {A} reading others = go reading.end
  where
    go : Result ℕ Fault → Reading A
    go (Ok next) = record { values = reading.values ++ (others next).values; end = (others next).end }
    go (Err found) = reading

module _ {A : Type 0} where
  -- no line is due, and one line and then the others
  pub reading_none : (text : List ℕ) (at : ℕ) → read_fields {A = A} [] text at ≡ record { values = []; end = Ok at }
  unfolding read_fields
  reading_none text at = refl

  pub reading_first : (field : Field A) (fields : List (Field A)) (text : List ℕ) (at : ℕ) → read_fields (field ∷ fields) text at ≡ and_then (field_at field text at) (λ next. read_fields fields text next)
  unfolding read_fields
  reading_first field fields text at = refl

  pub reading_append :
      (fields others : List (Field A)) (text : List ℕ) (at : ℕ) →
      read_fields (fields ++ others) text at ≡ reading_then (read_fields fields text at) (λ next. read_fields others text next)
  unfolding read_fields
  reading_append [] others text at = refl
  reading_append (field ∷ fields) others text at = go (field_at field text at) (reading_append fields others text)
    where
      then : (value : A) (reading : Reading A) → record { values = value ∷ (reading_then reading (λ next. read_fields others text next)).values; end = (reading_then reading (λ next. read_fields others text next)).end } ≡ reading_then (record { values = value ∷ reading.values; end = reading.end }) (λ next. read_fields others text next)
      then value reading = go reading.end refl
        where
          go : (end : Result ℕ Fault) → reading.end ≡ end → record { values = value ∷ (reading_then reading (λ next. read_fields others text next)).values; end = (reading_then reading (λ next. read_fields others text next)).end } ≡ reading_then (record { values = value ∷ reading.values; end = reading.end }) (λ next. read_fields others text next)
          go (Ok next) e = rw e
          go (Err found) e = rw e

      go :
          (answer : LineAnswer A) → ((at : ℕ) → read_fields (fields ++ others) text at ≡ reading_then (read_fields fields text at) (λ next. read_fields others text next)) →
          and_then answer (λ next. read_fields (fields ++ others) text next) ≡ reading_then (and_then answer (λ next. read_fields fields text next)) (λ next. read_fields others text next)
      go (got value next) again = rw (again next) (then value (read_fields fields text next))
      go (refused found) again = refl

  pub reading_length : (fields : List (Field A)) (text : List ℕ) (at next : ℕ) → (read_fields fields text at).end ≡ Ok next → length (read_fields fields text at).values ≡ length fields
  unfolding read_fields
  reading_length [] text at next e = refl
  reading_length (field ∷ fields) text at next e = go (field_at field text at) (λ at. reading_length fields text at next) e
    where
      go :
          (answer : LineAnswer A) → ((at : ℕ) → (read_fields fields text at).end ≡ Ok next → length (read_fields fields text at).values ≡ length fields) →
          (and_then answer (λ next. read_fields fields text next)).end ≡ Ok next → length (and_then answer (λ next. read_fields fields text next)).values ≡ suc (length fields)
      go (got value after) again e = ap suc (again after e)
      go (refused found) again e = let z : ◌≡◌ {A = ℕ} 0 1 = cc in absurd (omega arith)

  -- each value was read by its field from some bytes
  pub record ReadBy (field : Field A) (value : A) : Type 0 where
    pub bytes : List ℕ
    pub reads : field.read bytes ≡ good value

  abbrev pub EachRead : Field A → A → List (Field A) → Reading A → Type 0
  EachRead f v fields reading =
      (next : ℕ) → reading.end ≡ Ok next → (i : ℕ) → i < length fields → ReadBy (get_or fields i f) (get_or reading.values i v)

  pub fields_read : (f : Field A) (v : A) (fields : List (Field A)) (text : List ℕ) (at : ℕ) → EachRead f v fields (read_fields fields text at)
  unfolding read_fields
  fields_read f v [] text at last e i h = absurd (omega arith)
  fields_read f v (field ∷ fields) text at last e i h = go (field_at field text at) refl (λ next. fields_read f v fields text next) last e i h
    where
      go : (answer : LineAnswer A) → field_at field text at ≡ answer → ((next : ℕ) → EachRead f v fields (read_fields fields text next)) → EachRead f v (field ∷ fields) (and_then answer (λ next. read_fields fields text next))
      go (refused found) told others last e i h = let z : ◌≡◌ {A = ℕ} 0 1 = cc in absurd (omega arith)
      go (got found after) told others last e zero h = let read = field_read field text at told in record { bytes = read.bytes; reads = read.reads }
      go (got found after) told others last e (suc i) h = others after last e i (omega arith)

  -- whatever holds of every value that the fields read holds of the values read, whether or not a line was refused
  abbrev pub AllRead : (A → Type 0) → List (Field A) → Type 0
  AllRead P [] = Unit
  AllRead P (field ∷ fields) = ((bytes : List ℕ) (value : A) → field.read bytes ≡ good value → P value) × AllRead P fields

  pub values_all : (P : A → Type 0) (v : A) → P v → (fields : List (Field A)) → AllRead P fields → (text : List ℕ) (at place : ℕ) → P (get_or (read_fields fields text at).values place v)
  unfolding read_fields
  values_all P v none [] all text at place = none
  values_all P v none (field ∷ fields) all text at place = go (field_at field text at) refl (λ next. values_all P v none fields all.1 text next) place
    where
      go : (answer : LineAnswer A) → field_at field text at ≡ answer → ((next place : ℕ) → P (get_or (read_fields fields text next).values place v)) → (place : ℕ) → P (get_or (and_then answer (λ next. read_fields fields text next)).values place v)
      go (got found after) told others zero = let read = field_read field text at told in all.0 read.bytes found read.reads
      go (got found after) told others (suc place) = others after place
      go (refused found) told others place = none

-- ---- numbers

-- lines read into as many places as there are lines
module _
    {text : List ℕ} {at : ℕ} {keys : List ℕ} {lows highs places after : List ℤ} {ended : Result ℕ Fault} (fields : List (Field ℤ))
    (schema : placed_fields keys lows highs places ≡ fields) (full : length fields ≡ length places)
    (read : LinesRead text at keys lows highs places after ended) where
  pub lines_ends : ended ≡ (read_fields fields text at).end
  lines_ends = rw (← schema) read.ends

  pub lines_values : (next : ℕ) → ended ≡ Ok next → after ≡ (read_fields fields text at).values
  lines_values next e =
      let long : length (read_fields fields text at).values ≡ length places = reading_length fields text at next (sym lines_ends ∙ e) ∙ full in
      let filled : after ≡ laid_over (read_fields fields text at).values places = rw (← schema) read.filled in
      rw (filled, long, drop_of_length-le places {i = length places} (omega arith), append-nil)

abbrev pub Within : ℤ → ℤ → ℤ → Type 0
Within low high z = (low ≤ℤ z) × (z ≤ℤ high)

pub values_within :
    (keys : List (List ℕ)) (lows highs : List ℤ) (text : List ℕ) (at next : ℕ) → (read_fields (number_fields keys lows highs) text at).end ≡ Ok next →
    (place : ℕ) → place < length (number_fields keys lows highs) →
    Within (value lows place) (value highs place) (value (read_fields (number_fields keys lows highs) text at).values place)
unfolding read_fields number_fields
values_within [] lows highs text at next e place h = absurd (omega arith)
values_within (key ∷ keys) [] highs text at next e place h = absurd (omega arith)
values_within (key ∷ keys) (low ∷ lows) [] text at next e place h = absurd (omega arith)
values_within (key ∷ keys) (low ∷ lows) (high ∷ highs) text at next e place h =
    go (field_at (number_field key low high) text at) refl (λ at. values_within keys lows highs text at next) e place h
  where
    go :
        (answer : LineAnswer ℤ) → field_at (number_field key low high) text at ≡ answer →
        ((at : ℕ) → (read_fields (number_fields keys lows highs) text at).end ≡ Ok next → (place : ℕ) → place < length (number_fields keys lows highs) →
        Within (value lows place) (value highs place) (value (read_fields (number_fields keys lows highs) text at).values place)) →
        (and_then answer (λ next. read_fields (number_fields keys lows highs) text next)).end ≡ Ok next →
        (place : ℕ) → place < suc (length (number_fields keys lows highs)) →
        Within (value (low ∷ lows) place) (value (high ∷ highs) place) (value (and_then answer (λ next. read_fields (number_fields keys lows highs) text next)).values place)
    go (got z after) found again e zero h =
        let read = field_read (number_field key low high) text at found in
        let inside = number_between low high z read.bytes read.reads in
        (le_z-true low z inside.0, le_z-true z high inside.1)
    go (got z after) found again e (suc place) h = again after e place (omega arith)
    go (refused fault) found again e place h = let z : ◌≡◌ {A = ℕ} 0 1 = cc in absurd (omega arith)

-- the number at a place of lines that were read lies within the bounds of its field
pub number_at : (fields : List (Field ℤ)) (text : List ℕ) (at next : ℕ) → (read_fields fields text at).end ≡ Ok next → (place : ℕ) → place < length fields → (key : List ℕ) (low high : ℤ) → get_or fields place (number_field key low high) ≡ number_field key low high → Within low high (value (read_fields fields text at).values place)
number_at fields text at next e place h key low high is =
    let read = fields_read (number_field key low high) (pos 0) fields text at next e place h in
    let reads : (number_field key low high).read read.bytes ≡ good (value (read_fields fields text at).values place) = rw is at read.reads in
    let inside = number_between low high (value (read_fields fields text at).values place) read.bytes reads in
    (le_z-true low _ inside.0, le_z-true _ high inside.1)

-- no number of a list is beyond a bound, as a test
abbrev pub all_bounded : ℕ → List ℤ → Bool
all_bounded bound [] = true
all_bounded bound (z ∷ values) = leb (nat_abs z) bound && all_bounded bound values

all_bounded_lem : (bound : ℕ) (values : List ℤ) → all_bounded bound values ≡ true → (place : ℕ) → nat_abs (value values place) ≤ bound
all_bounded_lem bound [] e place = omega arith
all_bounded_lem bound (z ∷ values) e zero = leb-true (nat_abs z) bound (and_left (leb (nat_abs z) bound) (all_bounded bound values) e)
all_bounded_lem bound (z ∷ values) e (suc place) = all_bounded_lem bound values (and_right (leb (nat_abs z) bound) (all_bounded bound values) e) place

between : (low high z : ℤ) (bound : ℕ) → nat_abs low ≤ bound → nat_abs high ≤ bound → low ≤ℤ z → z ≤ℤ high → nat_abs z ≤ bound
between low high z bound = rw (view low, view high, view z) (simp to_ℕ (omega arith))

pub values_bounded :
    (bound : ℕ) (keys : List (List ℕ)) (lows highs : List ℤ) → all_bounded bound lows ≡ true → all_bounded bound highs ≡ true →
    (text : List ℕ) (at next : ℕ) → (read_fields (number_fields keys lows highs) text at).end ≡ Ok next →
    (place : ℕ) → nat_abs (value (read_fields (number_fields keys lows highs) text at).values place) ≤ bound
values_bounded bound keys lows highs l h text at next e place = go (leb (suc place) (length (number_fields keys lows highs))) refl
  where
    go : (b : Bool) → leb (suc place) (length (number_fields keys lows highs)) ≡ b → nat_abs (value (read_fields (number_fields keys lows highs) text at).values place) ≤ bound
    go true t =
        let in_range = values_within keys lows highs text at next e place (leb-true (suc place) (length (number_fields keys lows highs)) t) in
        between (value lows place) (value highs place) (value (read_fields (number_fields keys lows highs) text at).values place) bound (all_bounded_lem bound lows l place) (all_bounded_lem bound highs h place) in_range.0 in_range.1
    go false t =
        let past = leb-false (suc place) (length (number_fields keys lows highs)) t in
        let long = reading_length (number_fields keys lows highs) text at next e in
        rw (get_or-eq_default (read_fields (number_fields keys lows highs) text at).values (pos 0) {n = place} (omega arith)) (omega arith)
