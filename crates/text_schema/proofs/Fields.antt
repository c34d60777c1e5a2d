-- Laws on the fields of a schema: a schema that is written out, as code hands it over, lines that stand several times, and the numbers of refusals.
use Prim.Native.Nat.{ℕ, zero, suc, ◌*◌, ◌≤◌}
use native.Mathlib.Omega.{arith}
use mathlib.Core.Bool.{Bool, true, false, cond}
use mathlib.Core.List.{List, [], ◌∷◌, ◌++◌, append-nil}
use mathlib.Core.Path.{◌≡◌, refl, sym, ap, subst, ◌∙◌}
use lib.Dec.{ltb}
use lib.IntN.{ℤ, pos}
use lib.ListN.{length, take, replicate, length-append, length-replicate, drop_of_length-le}
use Rattle.std.specs.Prelude.{Result, Ok, Err}
use Rattle.text_refusal.specs.declared.refusal.Fault.{Fault}
use Rattle.text_number.specs.declared.NumberError.{NumberError}
use Rattle.text_number.specs.declared.NumberError.TheVariants as error
use Rattle.text_refusal.specs.Refusal.{fault}
use Rattle.text_line.specs.Field.{Field, LineAnswer, got, refused, field_at}
use Rattle.text_line.specs.Lines.{end_at}
use Rattle.text_line.proofs.Pieces.{computed_pieces, pieces_computed}
use Rattle.text_line.proofs.FieldTexts.{OfLines, JudgedNumbered, LineNumbered, FieldNumbered, field_numbered}
use Rattle.text_number.specs.Number.{number_in}
use Rattle.text_number.specs.Field.{judged_number, number_field}
use Rattle.text_schema.specs.Schema.{and_then, read_fields, repeated, keys_of, number_fields, placed_fields, laid_over, LinesRead}
use Rattle.text_schema.proofs.Readings.{reading_length}

-- ---- one field after the other

pub numbers_first : (key : List ℕ) (keys : List (List ℕ)) (low : ℤ) (lows : List ℤ) (high : ℤ) (highs : List ℤ) → number_fields (key ∷ keys) (low ∷ lows) (high ∷ highs) ≡ number_field key low high ∷ number_fields keys lows highs
unfolding number_fields
numbers_first key keys low lows high highs = refl

pub numbers_no_keys : (lows highs : List ℤ) → number_fields [] lows highs ≡ []
unfolding number_fields
numbers_no_keys lows highs = refl

-- no more lines than keys, and than bounds of either kind
pub record NumbersFew (keys : List (List ℕ)) (lows highs : List ℤ) : Type 0 where
  pub by_keys : length (number_fields keys lows highs) ≤ length keys
  pub by_lows : length (number_fields keys lows highs) ≤ length lows
  pub by_highs : length (number_fields keys lows highs) ≤ length highs

pub numbers_few : (keys : List (List ℕ)) (lows highs : List ℤ) → NumbersFew keys lows highs
unfolding number_fields
numbers_few [] lows highs = record { by_keys = omega arith; by_lows = omega arith; by_highs = omega arith }
numbers_few (key ∷ keys) [] highs = record { by_keys = omega arith; by_lows = omega arith; by_highs = omega arith }
numbers_few (key ∷ keys) (low ∷ lows) [] = record { by_keys = omega arith; by_lows = omega arith; by_highs = omega arith }
numbers_few (key ∷ keys) (low ∷ lows) (high ∷ highs) =
    let rest = numbers_few keys lows highs in
    record { by_keys = omega (arith, rest.by_keys); by_lows = omega (arith, rest.by_lows); by_highs = omega (arith, rest.by_highs) }

-- ---- a schema that is written out: its fields computed

abbrev pub computed_fields : List (List ℕ) → List ℤ → List ℤ → List (Field ℤ)
computed_fields [] lows highs = []
computed_fields (key ∷ keys) [] highs = []
computed_fields (key ∷ keys) (low ∷ lows) [] = []
computed_fields (key ∷ keys) (low ∷ lows) (high ∷ highs) = number_field key low high ∷ computed_fields keys lows highs

fields_computed : (keys : List (List ℕ)) (lows highs : List ℤ) → number_fields keys lows highs ≡ computed_fields keys lows highs
unfolding number_fields
fields_computed [] lows highs = refl
fields_computed (key ∷ keys) [] highs = refl
fields_computed (key ∷ keys) (low ∷ lows) [] = refl
fields_computed (key ∷ keys) (low ∷ lows) (high ∷ highs) = rw (fields_computed keys lows highs)

abbrev pub schema_fields : List ℕ → List ℤ → List ℤ → List (Field ℤ)
schema_fields keys lows highs = computed_fields (computed_pieces 61 [] keys) lows highs

pub keys_computed : (keys : List ℕ) → keys_of keys ≡ computed_pieces 61 [] keys
keys_computed keys = pieces_computed 61 [] keys

pub schema_computed : (keys : List ℕ) (lows highs : List ℤ) → number_fields (keys_of keys) lows highs ≡ schema_fields keys lows highs
schema_computed keys lows highs = rw (keys_computed keys) (fields_computed (computed_pieces 61 [] keys) lows highs)

pub placed_computed : (keys : List ℕ) (lows highs places : List ℤ) → placed_fields keys lows highs places ≡ take (length places) (schema_fields keys lows highs)
placed_computed keys lows highs places = rw (schema_computed keys lows highs)

-- ---- a schema as code hands it over

abbrev pub places : List (Field ℤ) → List ℤ
places fields = replicate (length fields) (pos 0)

-- the three slices that stand for a schema, read into as many places as it has lines
pub record Schema (fields : List (Field ℤ)) : Type 0 where
  pub keys : List ℕ
  pub lows : List ℤ
  pub highs : List ℤ
  pub same : placed_fields keys lows highs (places fields) ≡ fields

-- for a schema that is written out, the last argument is refl
abbrev pub schema_of : {fields : List (Field ℤ)} (keys : List ℕ) (lows highs : List ℤ) → take (length (places fields)) (schema_fields keys lows highs) ≡ fields → Schema fields
schema_of {fields} keys lows highs e = record { keys = keys; lows = lows; highs = highs; same = placed_computed keys lows highs (places fields) ∙ e }

-- the keys of a schema as code hands them to a writer, no more of them than lines
pub record Keys {fields : List (Field ℤ)} (schema : Schema fields) (keys : List ℕ) : Type 0 where
  pub are : schema.keys ≡ keys
  pub few : length (keys_of keys) ≤ length fields

module _
    {fields : List (Field ℤ)} (schema : Schema fields) (text : List ℕ) (at : ℕ) {after : List ℤ} {ended : Result ℕ Fault}
    (read : LinesRead text at schema.keys schema.lows schema.highs (places fields) after ended) where
  pub lines_ended : ended ≡ (read_fields fields text at).end
  lines_ended = rw (← schema.same) read.ends

  -- the values read stand in the first places
  pub lines_laid : after ≡ laid_over (read_fields fields text at).values (places fields)
  lines_laid = read.filled ∙ ap (λ (due : List (Field ℤ)). laid_over (read_fields due text at).values (places fields)) schema.same

  -- all places hold values where every line was read
  pub lines_filled : {next : ℕ} → ended ≡ Ok next → after ≡ (read_fields fields text at).values
  lines_filled {next} told =
      let long : length (read_fields fields text at).values ≡ length (places fields) = reading_length fields text at next (sym lines_ended ∙ told) ∙ sym (length-replicate (length fields) (pos 0)) in
      lines_laid ∙ rw (long, drop_of_length-le (places fields) {i = length (places fields)} (omega arith), append-nil)

-- ---- lines that stand several times

module _ {A : Type 0} (fields : List (Field A)) where
  pub repeated_none : repeated zero fields ≡ []
  unfolding repeated
  repeated_none = refl

  pub repeated_more : (n : ℕ) → repeated (suc n) fields ≡ fields ++ repeated n fields
  unfolding repeated
  repeated_more n = refl

  pub repeated-length : (n : ℕ) → length (repeated n fields) ≡ n * length fields
  unfolding repeated
  repeated-length zero = omega arith
  repeated-length (suc n) = omega (arith, length-append fields (repeated n fields), repeated-length n)

  abbrev pub computed_times : ℕ → List (Field A)
  computed_times zero = []
  computed_times (suc n) = fields ++ computed_times n

  pub repeated_computed : (n : ℕ) → repeated n fields ≡ computed_times n
  unfolding repeated
  repeated_computed zero = refl
  repeated_computed (suc n) = rw (repeated_computed n)

-- ---- the number of a refusal is one of 1 to 9

abbrev pub LinesNumbered : Result ℕ Fault → Type 0
LinesNumbered (Ok next) = Unit
LinesNumbered (Err found) = OfLines found.number

abbrev pub FieldsNumbered : {A : Type 0} → List (Field A) → Type 0
FieldsNumbered [] = Unit
FieldsNumbered (field ∷ fields) = FieldNumbered field × FieldsNumbered fields

pub reading_numbered : {A : Type 0} (fields : List (Field A)) → FieldsNumbered fields → (text : List ℕ) (at : ℕ) → LinesNumbered (read_fields fields text at).end
unfolding read_fields
reading_numbered [] n text at = tt
reading_numbered {A} (field ∷ fields) n text at = go (field_at field text at) (field_numbered field text at n.0) (reading_numbered fields n.1 text)
  where
    go : (found : LineAnswer A) → LineNumbered found → ((next : ℕ) → LinesNumbered (read_fields fields text next).end) → LinesNumbered (and_then found (λ next. read_fields fields text next)).end
    go (got value next) n others = others next
    go (refused found) n others = n

pub number_judged_numbered : {A : Type 0} (found : Result A NumberError) → JudgedNumbered (judged_number found)
number_judged_numbered (Ok z) = tt
number_judged_numbered (Err error.Outside) = (omega arith, omega arith)
number_judged_numbered (Err error.Malformed) = (omega arith, omega arith)

pub number_numbered : (key : List ℕ) (low high : ℤ) → FieldNumbered (number_field key low high)
number_numbered key low high value = number_judged_numbered (number_in low high value)

pub numbers_numbered : (keys : List (List ℕ)) (lows highs : List ℤ) → FieldsNumbered (number_fields keys lows highs)
unfolding number_fields
numbers_numbered [] lows highs = tt
numbers_numbered (key ∷ keys) [] highs = tt
numbers_numbered (key ∷ keys) (low ∷ lows) [] = tt
numbers_numbered (key ∷ keys) (low ∷ lows) (high ∷ highs) = (number_numbered key low high, numbers_numbered keys lows highs)

pub placed_numbered : (n : ℕ) (fields : List (Field ℤ)) → FieldsNumbered fields → FieldsNumbered (take n fields)
placed_numbered zero fields each = tt
placed_numbered (suc n) [] each = tt
placed_numbered (suc n) (field ∷ fields) each = (each.0, placed_numbered n fields each.1)

pub schema_numbered : {fields : List (Field ℤ)} → Schema fields → FieldsNumbered fields
schema_numbered {fields} schema =
    subst FieldsNumbered schema.same (placed_numbered (length (places fields)) (number_fields (keys_of schema.keys) schema.lows schema.highs) (numbers_numbered (keys_of schema.keys) schema.lows schema.highs))

pub append_numbered : {A : Type 0} (fields others : List (Field A)) → FieldsNumbered fields → FieldsNumbered others → FieldsNumbered (fields ++ others)
append_numbered [] others each more = more
append_numbered (field ∷ fields) others each more = (each.0, append_numbered fields others each.1 more)

pub repeated_numbered : {A : Type 0} (n : ℕ) (fields : List (Field A)) → FieldsNumbered fields → FieldsNumbered (repeated n fields)
unfolding repeated
repeated_numbered zero fields each = tt
repeated_numbered (suc n) fields each = append_numbered fields (repeated n fields) each (repeated_numbered n fields each)

pub end_numbered : (text : List ℕ) (at : ℕ) → LinesNumbered (end_at text at)
end_numbered text at = go (ltb at (length text))
  where
    go : (more : Bool) → LinesNumbered (cond more (Err (fault 9 at)) (Ok at))
    go true = (omega arith, omega arith)
    go false = tt
