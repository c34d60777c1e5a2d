-- Named statements on reading and writing by any schema, over any kind of value. A set of values has exactly one text.
use Rattle.std.specs.Prelude.{ℕ, ◌+◌, ◌<◌, ◌≡◌, true, false, List, [], ◌∷◌, ◌++◌, ℤ, length, ◌≤ℤ◌, Ok, Some}
use Rattle.text_line.specs.Judged.{good, bad}
use Rattle.text_line.specs.Line.{OneLine}
use Rattle.text_line.specs.Piece.{part}
use Rattle.text_line.specs.Field.{Field}
use Rattle.text_number.specs.Field.{number_field}
use Rattle.text_number.specs.declared.marked.Marked.{Marked}
use Rattle.text_number.specs.Marked.{marked_field, unmarked_field}
use Rattle.text_word.specs.Word.{word_in, written_word, word_field}
use Rattle.text_id.specs.Id.{is_id, id_field}
use Rattle.text_schema.specs.Schema.{read_fields, write_fields}
use Rattle.text_schema.specs.Checked.{refused_by}

-- a kind of value whose texts are read in one way only: what is read is what is written
pub record Sound {A : Type 0} (field : Field A) : Type 0 where
  pub key_line : OneLine field.key
  pub read_written : (bytes : List ℕ) (value : A) → field.read bytes ≡ good value → field.write value ≡ bytes

-- a value that a line of the kind can hold
pub record Fitting {A : Type 0} (field : Field A) (value : A) : Type 0 where
  pub written_line : OneLine (field.write value)
  pub not_empty : 0 < length (field.write value)
  pub written_read : field.read (field.write value) ≡ good value

pub data AllSound {A : Type 0} : List (Field A) → Type 0 where
  none_sound : AllSound []
  one_sound : {field : Field A} {fields : List (Field A)} → Sound field → AllSound fields → AllSound (field ∷ fields)

-- as many values as lines, each fitting its line
pub data AllFitting {A : Type 0} : List (Field A) → List A → Type 0 where
  none_fitting : AllFitting [] []
  one_fitting : {field : Field A} {value : A} {fields : List (Field A)} {values : List A} → Fitting field value → AllFitting fields values → AllFitting (field ∷ fields) (value ∷ values)

-- write then read: the values come back, wherever the text stands
abbrev pub WrittenIsReadBack : Type 1
WrittenIsReadBack =
    (A : Type 0) (fields : List (Field A)) (values : List A) (before after : List ℕ) → AllSound fields → AllFitting fields values →
    read_fields fields (before ++ write_fields fields values ++ after) (length before) ≡ record { values = values; end = Ok (length before + length (write_fields fields values)) }

-- read then write: the same bytes
abbrev pub ReadIsWrittenBack : Type 1
ReadIsWrittenBack =
    (A : Type 0) (fields : List (Field A)) (text : List ℕ) (at next : ℕ) → AllSound fields →
    (read_fields fields text at).end ≡ Ok next → part text at next ≡ write_fields fields (read_fields fields text at).values

-- values have one text: two whole texts that are read as the same values are the same bytes
abbrev pub OneText : Type 1
OneText =
    (A : Type 0) (fields : List (Field A)) (one other : List ℕ) → AllSound fields →
    (read_fields fields one 0).end ≡ Ok (length one) → (read_fields fields other 0).end ≡ Ok (length other) →
    (read_fields fields one 0).values ≡ (read_fields fields other 0).values → one ≡ other

-- a kind of value of which each is written on a line that is read as that value, or is refused by a number: nothing else is written
abbrev pub FitsOrRefused : {A : Type 0} → Field A → Type 0
FitsOrRefused {A} field = (value : A) → refused_by (field.read (field.write value)) ≡ 0 → Fitting field value

abbrev pub NumbersFitOrAreRefused : Type 0
NumbersFitOrAreRefused = (key : List ℕ) (low high : ℤ) → FitsOrRefused (number_field key low high)

-- a number with its mark, where it may be marked and where it carries none
abbrev pub MarkedNumbersFitOrAreRefused : Type 0
MarkedNumbersFitOrAreRefused = (key : List ℕ) (low high : ℤ) → FitsOrRefused (marked_field key low high) × FitsOrRefused (unmarked_field key low high)

-- a list each of whose words fits
abbrev pub WordsFitOrAreRefused : Type 0
WordsFitOrAreRefused =
    (key : List ℕ) (words : List (List ℕ)) → ((index : ℕ) → index < length words → Fitting (word_field key words) index) → FitsOrRefused (word_field key words)

abbrev pub IdsFitOrAreRefused : Type 0
IdsFitOrAreRefused = (key : List ℕ) → FitsOrRefused (id_field key)

-- the kinds of value are sound: a number within its bounds, one that may be marked, a listed word, an id
abbrev pub NumbersAreSound : Type 0
NumbersAreSound = (key : List ℕ) (low high : ℤ) → OneLine key → Sound (number_field key low high)

abbrev pub NumbersInRangeFit : Type 0
NumbersInRangeFit = (key : List ℕ) (low high z : ℤ) → low ≤ℤ z → z ≤ℤ high → Fitting (number_field key low high) z

abbrev pub MarkedNumbersAreSound : Type 0
MarkedNumbersAreSound = (key : List ℕ) (low high : ℤ) → OneLine key → Sound (marked_field key low high) × Sound (unmarked_field key low high)

-- with a mark and without one
abbrev pub MarkedNumbersInRangeFit : Type 0
MarkedNumbersInRangeFit =
    (key : List ℕ) (low high : ℤ) (m : Marked) → low ≤ℤ m.number → m.number ≤ℤ high →
    Fitting (marked_field key low high) m × (m.suspect ≡ false → Fitting (unmarked_field key low high) m)

-- document 02, W-206: where no mark may stand it is badly written
abbrev pub MarksAreBadlyWrittenElsewhere : Type 0
MarksAreBadlyWrittenElsewhere =
    (key : List ℕ) (low high : ℤ) (bytes : List ℕ) → ((number_field key low high).read (bytes ++ (63 ∷ [])) ≡ bad 6) × ((unmarked_field key low high).read (bytes ++ (63 ∷ [])) ≡ bad 6)

-- and so is a second one, where one may stand
abbrev pub SecondMarksAreBadlyWritten : Type 0
SecondMarksAreBadlyWritten = (key : List ℕ) (low high : ℤ) (bytes : List ℕ) → (marked_field key low high).read (bytes ++ (63 ∷ 63 ∷ [])) ≡ bad 6

abbrev pub WordsAreSound : Type 0
WordsAreSound = (key : List ℕ) (words : List (List ℕ)) → OneLine key → Sound (word_field key words)

-- a word fits that is one line, is not empty and stands nowhere earlier in the list
abbrev pub WordsFit : Type 0
WordsFit =
    (key : List ℕ) (words : List (List ℕ)) (index : ℕ) → word_in words (written_word words index) ≡ Some index → OneLine (written_word words index) →
    0 < length (written_word words index) → Fitting (word_field key words) index

abbrev pub IdsAreSound : Type 0
IdsAreSound = (key : List ℕ) → OneLine key → Sound (id_field key)

abbrev pub IdsFit : Type 0
IdsFit = (key id : List ℕ) → is_id id ≡ true → Fitting (id_field key) id
