-- Laws from lines of numbers that were read to what stands in the text.
use Prim.Native.Nat.{ℕ, zero, suc, ◌+◌, ◌≤◌}
use native.Mathlib.Omega.{arith}
use mathlib.Core.Bool.{true}
use mathlib.Core.List.{List, [], ◌∷◌, map}
use mathlib.Core.Path.{◌≡◌, refl, sym, ap, subst, ◌∙◌}
use lib.Dec.{leb}
use lib.IntN.{ℤ, pos, nat_abs}
use lib.Signed.{◌≤ℤ◌, le_z}
use lib.ListN.{length, drop, length-map}
use lib.Seq.{drop-cons, drop-length}
use borrow.Author.Tests.{leb-true}
use Rattle.std.specs.Prelude.{Ok}
use Rattle.integer.proofs.Difference.{view, to_ℕ}
use Rattle.integer.proofs.Order.{le_z-true}
use Rattle.text_refusal.proofs.Choices.{and_left, and_right}
use Rattle.text_line.specs.Judged.{good}
use Rattle.text_line.specs.Field.{Field, LineAnswer, got, refused, field_at}
use Rattle.text_line.proofs.FieldTexts.{field_read}
use Rattle.text_line.proofs.LineBytes.{one_line_none}
use Rattle.text_number.specs.declared.marked.Marked.{Marked}
use Rattle.text_number.specs.Marked.{written_marked, marked_field, unmarked_field, numbers_of, marks_of, marked_by}
use Rattle.text_number.proofs.Marks.{marked_between, unmarked_between}
use Rattle.text_schema.specs.Schema.{Reading, and_then, read_fields, value}
use Rattle.text_schema.proofs.Fields.{computed_fields}
use Rattle.text_schema.proofs.Marks.{Beside, none_beside, one_beside, unmarked_line, plain_read}
use Rattle.text_schema.proofs.Readings.{reading_none, reading_first, reading_length, all_bounded}
use Rattle.pricing_resource_text.specs.Resource.{with_marks, lines_as}
use Rattle.pricing_resource_text.proofs.Readings.{lines_given}
use Rattle.text.proofs.Values.{marked_numbers_are_sound}
use Rattle.pricing_held_reading.specs.internal.Laying.{NumbersStand}
use Rattle.pricing_held_reading.proofs.Standing.{stands_behind, line_stands}

-- one answer gives one value and one position
pub got_same : {A : Type 0} {answer : LineAnswer A} {value other : A} {next after : ℕ} → answer ≡ got value next → answer ≡ got other after → (value ≡ other) × (next ≡ after)
got_same e f = (cc, cc)

-- ---- lines of numbers

-- how many bytes the keys have
abbrev pub key_sizes : List (Field Marked) → List ℕ
key_sizes fields = map (λ (field : Field Marked). length field.key) fields

-- what a field reads is a small number as it is written, and so for each of several
abbrev pub SmallNumber : Field Marked → Type 0
SmallNumber field = (bytes : List ℕ) (m : Marked) → field.read bytes ≡ good m → (written_marked m ≡ bytes) × (nat_abs m.number ≤ 1000000000)

abbrev pub EachNumber : List (Field Marked) → Type 0
EachNumber [] = Unit
EachNumber (field ∷ fields) = SmallNumber field × EachNumber fields

fields_stand :
    (fields : List (Field Marked)) → EachNumber fields → (text : List ℕ) (at : ℕ) {last : ℕ} → (read_fields fields text at).end ≡ Ok last →
    NumbersStand text at (key_sizes fields) (read_fields fields text at).values last
fields_stand [] each text at {last} e =
    let over : Ok at ≡ Ok last = rw (reading_none {A = Marked} text at) at e in
    rw (reading_none {A = Marked} text at) (let same : at ≡ last = cc in same)
fields_stand (field ∷ fields) each text at {last} e =
    rw (reading_first field fields text at)
    (go (field_at field text at) refl (λ next. fields_stand fields each.1 text next) (rw (reading_first field fields text at) at e))
  where
    go :
        (answer : LineAnswer Marked) → field_at field text at ≡ answer →
        ((next : ℕ) → (read_fields fields text next).end ≡ Ok last → NumbersStand text next (key_sizes fields) (read_fields fields text next).values last) →
        (and_then answer (λ next. read_fields fields text next)).end ≡ Ok last →
        NumbersStand text at (key_sizes (field ∷ fields)) (and_then answer (λ next. read_fields fields text next)).values last
    go (got m next) told others e =
        let read = field_read field text at told in
        let is = each.0 read.bytes m read.reads in (
          next,
          record { small = is.1; stands = rw is.0 (stands_behind field.key read.bytes (line_stands field text at told)) },
          others next e,
        )
    go (refused found) told others e = let z : ◌≡◌ {A = ℕ} 0 1 = cc in absurd (omega arith)

-- ---- fields with small bounds

between : (low high z : ℤ) (bound : ℕ) → nat_abs low ≤ bound → nat_abs high ≤ bound → low ≤ℤ z → z ≤ℤ high → nat_abs z ≤ bound
between low high z bound = rw (view low, view high, view z) (simp to_ℕ (omega arith))

-- where a number may be marked, and where it carries no mark
module _ (key : List ℕ) (low high : ℤ) (l : nat_abs low ≤ 1000000000) (h : nat_abs high ≤ 1000000000) where
  small : (z : ℤ) → (le_z low z ≡ true) × (le_z z high ≡ true) → nat_abs z ≤ 1000000000
  small z inside = between low high z 1000000000 l h (le_z-true low z inside.0) (le_z-true z high inside.1)

  pub marked_small : SmallNumber (marked_field key low high)
  marked_small bytes m e = ((marked_numbers_are_sound [] low high one_line_none).0.read_written bytes m e, small m.number (marked_between low high bytes m e))

  pub unmarked_small : SmallNumber (unmarked_field key low high)
  unmarked_small bytes m e = ((marked_numbers_are_sound [] low high one_line_none).1.read_written bytes m e, small m.number (unmarked_between low high bytes m e))

-- ---- lines of numbers that carry no marks

abbrev pub unmarked_fields : List (List ℕ) → List ℤ → List ℤ → List (Field Marked)
unmarked_fields [] lows highs = []
unmarked_fields (key ∷ keys) [] highs = []
unmarked_fields (key ∷ keys) (low ∷ lows) [] = []
unmarked_fields (key ∷ keys) (low ∷ lows) (high ∷ highs) = unmarked_field key low high ∷ unmarked_fields keys lows highs

unmarked_beside : (keys : List (List ℕ)) (lows highs : List ℤ) → Beside (unmarked_fields keys lows highs) (computed_fields keys lows highs)
unmarked_beside [] lows highs = none_beside
unmarked_beside (key ∷ keys) [] highs = none_beside
unmarked_beside (key ∷ keys) (low ∷ lows) [] = none_beside
unmarked_beside (key ∷ keys) (low ∷ lows) (high ∷ highs) = one_beside (unmarked_line key low high) (unmarked_beside keys lows highs)

unmarked_each :
    (keys : List (List ℕ)) (lows highs : List ℤ) → all_bounded 1000000000 lows ≡ true → all_bounded 1000000000 highs ≡ true → EachNumber (unmarked_fields keys lows highs)
unmarked_each [] lows highs l h = tt
unmarked_each (key ∷ keys) [] highs l h = tt
unmarked_each (key ∷ keys) (low ∷ lows) [] l h = tt
unmarked_each (key ∷ keys) (low ∷ lows) (high ∷ highs) l h = (
  unmarked_small key low high (leb-true (nat_abs low) 1000000000 (and_left _ (all_bounded 1000000000 lows) l)) (leb-true (nat_abs high) 1000000000 (and_left _ (all_bounded 1000000000 highs) h)),
  unmarked_each keys lows highs (and_right (leb (nat_abs low) 1000000000) _ l) (and_right (leb (nat_abs high) 1000000000) _ h),
)

pub plain_stand :
    (keys : List (List ℕ)) (lows highs : List ℤ) → all_bounded 1000000000 lows ≡ true → all_bounded 1000000000 highs ≡ true → (text : List ℕ) (at : ℕ) {last : ℕ} →
    (read_fields (computed_fields keys lows highs) text at).end ≡ Ok last →
    NumbersStand text at (key_sizes (unmarked_fields keys lows highs)) (marked_by 0 (read_fields (computed_fields keys lows highs) text at).values) last
plain_stand keys lows highs l h text at {last} e =
    let is = plain_read (unmarked_beside keys lows highs) text at last e in
    subst (λ (values : List Marked). NumbersStand text at (key_sizes (unmarked_fields keys lows highs)) values last) (ap (λ (r : Reading Marked). r.values) is)
    (fields_stand (unmarked_fields keys lows highs) (unmarked_each keys lows highs l h) text at (ap (λ (r : Reading Marked). r.end) is))

-- ---- what is made of the values

-- numbers stand there, and what was made of them has a row
pub record RowStands {A : Type 0} (text : List ℕ) (at : ℕ) (sizes : List ℕ) (row : A → List ℤ) (row_of : ℕ → List ℤ → List ℤ) (one : A) (next : ℕ) : Type 0 where
  pub values : List Marked
  pub stand : NumbersStand text at sizes values next
  pub is : row one ≡ row_of (marks_of values) (numbers_of values)

-- for lines that are written out
module _ {A : Type 0} (row : A → List ℤ) (make : ℕ → List ℤ → A) (row_of : ℕ → List ℤ → List ℤ) where
  pub row_stands :
      {fields : List (Field Marked)} (due : List (Field Marked)) → fields ≡ due → EachNumber due →
      ((marks : ℕ) (numbers : List ℤ) → length numbers ≡ length due → row (make marks numbers) ≡ row_of marks numbers) →
      (text : List ℕ) (at : ℕ) {one : A} {next : ℕ} → lines_as (with_marks make) fields text at ≡ got one next →
      RowStands text at (key_sizes due) row row_of one next
  row_stands due are each made text at {one} {next} e =
      let read : List Marked = (read_fields due text at).values in
      let given = lines_given (with_marks make) read (read_fields due text at).end (rw are at e) in
      record {
        values = read;
        stand = fields_stand due each text at given.ended;
        is = ap row (sym given.made) ∙ made (marks_of read) (numbers_of read) (length-map read (λ (m : Marked). m.number) ∙ reading_length due text at next given.ended);
      }

-- ---- values one by one

-- so many of the values, from one of them on
abbrev pub values_from : ℕ → ℕ → List ℤ → List ℤ
values_from i zero values = []
values_from i (suc n) values = value values i ∷ values_from (suc i) n values

values_from_lem : (i n : ℕ) (values : List ℤ) → length values ≡ i + n → drop i values ≡ values_from i n values
values_from_lem i zero values long = let all : i ≡ length values = omega arith in rw all (drop-length values)
values_from_lem i (suc n) values long = drop-cons values i (pos 0) (omega arith) ∙ ap (λ (l : List ℤ). value values i ∷ l) (values_from_lem (suc i) n values (omega arith))

pub listed : (n : ℕ) (values : List ℤ) → length values ≡ n → values ≡ values_from 0 n values
listed n values long = values_from_lem 0 n values (omega arith)
