-- The kinds of value, a number within its bounds, one that may be marked, a listed word and an id: what is read is what is written.
use Prim.Native.Nat.{ℕ, zero, suc}
use mathlib.Core.Bool.{Bool, true, false, ◌&&◌, cond}
use mathlib.Core.List.{List, [], ◌∷◌, ◌++◌, append_assoc}
use mathlib.Core.Option.{Option, none, some}
use mathlib.Core.Path.{◌≡◌, refl, sym, ap, ◌∙◌}
use lib.IntN.{ℤ}
use lib.Signed.{le_z, le_z_yes}
use lib.Dec.{ltb}
use lib.ListN.{length, length-append}
use native.Mathlib.Omega.{arith}
use borrow.Author.Tests.{ltb-true, ltb-false}
use Rattle.text_refusal.proofs.Choices.{is_true}
use Rattle.std.specs.Prelude.{Result, Ok, Err, Option as Found, Some, None}
use Rattle.text_line.specs.Judged.{good}
use Rattle.text_line.specs.Line.{OneLine}
use Rattle.text_line.specs.Field.{Field}
use Rattle.text_line.proofs.LineBytes.{one_line, one_line_none, one_line_append, EachOneLine, pieces_one_line}
use Rattle.text_number.specs.Number.{number_of, written_number, in_range, ranged, number_in}
use Rattle.text_number.specs.declared.marked.Marked.{Marked}
use Rattle.text_number.specs.Marked.{ends_in_mark, without_mark, plain_number, suspect_number, marked_in, judged_marked, written_marked, marked_field, unmarked_field}
use Rattle.text_number.proofs.Marks.{marked_suspect, marked_plain, mark_no_number, mark_behind, mark_last, plain_value, suspect_value, unmarked_written, suspect_written, plain_reads, suspect_reads}
use Rattle.text_number.specs.Field.{judged_number, number_field}
use Rattle.text_number.specs.declared.NumberError.{NumberError}
use Rattle.text_number.specs.declared.NumberError.TheVariants as error
use Rattle.text_number.proofs.WrittenDigits.{number_of_written, written_of_number, number_line, number_some}
use Rattle.text_word.specs.Word.{word_in, judged_word, written_word, word_field}
use Rattle.text_word.proofs.Words.{none_empty, word_below, word_written, word_past, word_one_line, word_some, distinct, word_itself}
use Rattle.text_id.specs.Id.{is_id, judged_id, id_field}
use Rattle.text_id.proofs.Ids.{id_is, id_bytes}
use Rattle.text_schema.specs.Schema.{keys_of, number_fields, repeated}
use Rattle.text_schema.specs.Checked.{refused_by}
use Rattle.text_schema.proofs.Checked.{NumberLines, no_lines, one_more}
use Rattle.text_schema.proofs.Marks.{LinesWithMarks, no_line, marked_one, unmarked_one}
use Rattle.text_schema.proofs.Fields.{numbers_first, numbers_no_keys, repeated_none, repeated_more}
use Rattle.text_schema.proofs.Schemas.{no_lows, no_highs}
use Rattle.text.specs.Promises.{Fitting, AllSound, none_sound, one_sound, AllFitting, none_fitting, one_fitting, FitsOrRefused, NumbersAreSound, NumbersInRangeFit, NumbersFitOrAreRefused, MarkedNumbersAreSound, MarkedNumbersInRangeFit, MarkedNumbersFitOrAreRefused, MarksAreBadlyWrittenElsewhere, SecondMarksAreBadlyWritten, WordsAreSound, WordsFit, WordsFitOrAreRefused, IdsAreSound, IdsFit, IdsFitOrAreRefused}
use Rattle.text.proofs.Checked.{AllFitOrRefused, none_fits, one_fits}

-- ---- numbers

judged_number_lem : (low high z value : ℤ) → judged_number (in_range low high z) ≡ good value → z ≡ value
judged_number_lem low high z value e = go (le_z low z && le_z z high) e
  where
    go : (b : Bool) → judged_number (cond b (Ok z) (Err error.Outside)) ≡ good value → z ≡ value
    go true e = cc
    go false e = cc

pub numbers_are_sound : NumbersAreSound
numbers_are_sound key low high key_line = record { key_line = key_line; read_written = λ bytes value e. go bytes value (number_of bytes) refl e }
  where
    go : (bytes : List ℕ) (value : ℤ) (read : Option ℤ) → number_of bytes ≡ read → judged_number (ranged low high read) ≡ good value → written_number value ≡ bytes
    go bytes value none h e = cc
    go bytes value (some z) h e = rw (← (judged_number_lem low high z value e)) (written_of_number bytes z h)

pub numbers_in_range_fit : NumbersInRangeFit
numbers_in_range_fit key low high z l h =
    record {
      written_line = number_line z;
      not_empty = number_some z;
      written_read = rw (number_of_written z, is_true (le_z low z) l.le, is_true (le_z z high) h.le);
    }

pub numbers_fit_or_are_refused : NumbersFitOrAreRefused
numbers_fit_or_are_refused key low high z e = go (le_z low z) (le_z z high) refl refl (rw (number_of_written z) at e)
  where
    go : (l h : Bool) → le_z low z ≡ l → le_z z high ≡ h → refused_by (judged_number (cond (l && h) (Ok z) (Err error.Outside))) ≡ 0 → Fitting (number_field key low high) z
    go true true l h e = numbers_in_range_fit key low high z (le_z_yes (rw l tt)) (le_z_yes (rw h tt))
    go true false l h e = absurd (omega arith)
    go false h' l h e = absurd (omega arith)

-- lines of numbers
pub number_lines_sound : {fields : List (Field ℤ)} {lows highs : List ℤ} → NumberLines fields lows highs → AllSound fields
number_lines_sound no_lines = none_sound
number_lines_sound (one_more {key} {low} {high} one more) = one_sound (numbers_are_sound key low high one) (number_lines_sound more)

pub number_lines_fit : {fields : List (Field ℤ)} {lows highs : List ℤ} → NumberLines fields lows highs → AllFitOrRefused fields
number_lines_fit no_lines = none_fits
number_lines_fit (one_more {key} {low} {high} one more) = one_fits (numbers_fit_or_are_refused key low high) (number_lines_fit more)

-- a schema of numbers whose keys are one line
each_sound : (keys : List (List ℕ)) (lows highs : List ℤ) → EachOneLine keys → AllSound (number_fields keys lows highs)
each_sound [] lows highs e = rw (numbers_no_keys lows highs) none_sound
each_sound (key ∷ keys) [] highs e = rw (no_lows (key ∷ keys) highs) none_sound
each_sound (key ∷ keys) (low ∷ lows) [] e = rw (no_highs (key ∷ keys) (low ∷ lows)) none_sound
each_sound (key ∷ keys) (low ∷ lows) (high ∷ highs) e =
    rw (numbers_first key keys low lows high highs) (one_sound (numbers_are_sound key low high e.0) (each_sound keys lows highs e.1))

pub keys_sound : (keys : List ℕ) (lows highs : List ℤ) → OneLine keys → AllSound (number_fields (keys_of keys) lows highs)
keys_sound keys lows highs e = each_sound (keys_of keys) lows highs (pieces_one_line 61 [] keys one_line_none e)

-- ---- numbers that may be marked

-- a value that was taken with a mark, and without one, is written as it was
pub marked_numbers_are_sound : MarkedNumbersAreSound
marked_numbers_are_sound key low high key_line = (
  record { key_line = key_line; read_written = λ bytes m e. go bytes m (ends_in_mark bytes) refl e },
  record { key_line = key_line; read_written = λ bytes m e. plain bytes m e },
)
  where
    same : (bytes : List ℕ) (z : ℤ) → number_in low high bytes ≡ Ok z → written_number z ≡ bytes
    same bytes z e = (numbers_are_sound key low high key_line).read_written bytes z (ap judged_number e)

    plain : (bytes : List ℕ) (m : Marked) → judged_marked (plain_number (number_in low high bytes)) ≡ good m → written_marked m ≡ bytes
    plain bytes m e =
        let told = plain_value (number_in low high bytes) e in
        let is : m ≡ record { number = m.number; suspect = false } = rw (← told.1) refl in
        ap written_marked is ∙ unmarked_written m.number ∙ same bytes m.number told.0

    go : (bytes : List ℕ) (m : Marked) (b : Bool) → ends_in_mark bytes ≡ b → judged_marked (marked_in low high bytes) ≡ good m → written_marked m ≡ bytes
    go bytes m true h e =
        let told = suspect_value (number_in low high (without_mark bytes)) (ap judged_marked (marked_suspect low high bytes h) ∙ e) in
        let is : m ≡ record { number = m.number; suspect = true } = rw (← told.1) refl in
        ap written_marked is ∙ suspect_written m.number
        ∙ ap (λ (front : List ℕ). front ++ (63 ∷ [])) (same (without_mark bytes) m.number told.0) ∙ mark_last bytes h
    go bytes m false h e = plain bytes m (ap judged_marked (marked_plain low high bytes h) ∙ e)

-- the mark is no byte 10
mark_line : (z : ℤ) → OneLine (written_number z ++ (63 ∷ []))
mark_line z = one_line_append (written_number z) (63 ∷ []) (number_line z) (one_line (63 ∷ []) refl)

module _ (key : List ℕ) (low high z : ℤ) (inside : in_range low high z ≡ Ok z) where
  plain_fits : Fitting (marked_field key low high) (record { number = z; suspect = false })
  plain_fits =
      record {
        written_line = rw (unmarked_written z) (number_line z);
        not_empty = rw (unmarked_written z) (number_some z);
        written_read = rw (unmarked_written z, plain_reads low high z, inside);
      }

  suspect_fits : Fitting (marked_field key low high) (record { number = z; suspect = true })
  suspect_fits =
      record {
        written_line = rw (suspect_written z) (mark_line z);
        not_empty = rw (suspect_written z) (omega (arith, length-append (written_number z) (63 ∷ [])));
        written_read = rw (suspect_written z, suspect_reads low high z, inside);
      }

  unmarked_fits : Fitting (unmarked_field key low high) (record { number = z; suspect = false })
  unmarked_fits =
      record {
        written_line = rw (unmarked_written z) (number_line z);
        not_empty = rw (unmarked_written z) (number_some z);
        written_read = rw (unmarked_written z, number_of_written z, inside);
      }

pub marked_numbers_in_range_fit : MarkedNumbersInRangeFit
marked_numbers_in_range_fit key low high m l h =
    let inside : in_range low high m.number ≡ Ok m.number = rw (is_true (le_z low m.number) l.le, is_true (le_z m.number high) h.le) in
    go m.suspect inside
  where
    go : (b : Bool) → in_range low high m.number ≡ Ok m.number → Fitting (marked_field key low high) (record { number = m.number; suspect = b }) × (b ≡ false → Fitting (unmarked_field key low high) (record { number = m.number; suspect = b }))
    go true inside = (suspect_fits key low high m.number inside, λ e. let n : ◌≡◌ {A = ℕ} 0 1 = cc in absurd (omega arith))
    go false inside = (plain_fits key low high m.number inside, λ e. unmarked_fits key low high m.number inside)

-- a number that is refused by no number is in its range
in_range_lem : (low high z : ℤ) (given : Result ℤ NumberError → Result Marked NumberError) → ((z : ℤ) → given (Err error.Outside) ≡ Err error.Outside) → refused_by (judged_marked (given (in_range low high z))) ≡ 0 → in_range low high z ≡ Ok z
in_range_lem low high z given out e = go (le_z low z && le_z z high) e
  where
    go : (b : Bool) → refused_by (judged_marked (given (cond b (Ok z) (Err error.Outside)))) ≡ 0 → cond b (Ok z) (Err error.Outside) ≡ Ok z
    go true e = refl
    go false e = absurd (omega (arith, ap (λ (n : Result Marked NumberError). refused_by (judged_marked n)) (out z)))

pub marked_numbers_fit_or_are_refused : MarkedNumbersFitOrAreRefused
marked_numbers_fit_or_are_refused key low high = (λ m e. marked m.suspect m.number e, λ m e. unmarked m.suspect m.number e)
  where
    marked : (b : Bool) (z : ℤ) → refused_by (judged_marked (marked_in low high (written_marked (record { number = z; suspect = b })))) ≡ 0 → Fitting (marked_field key low high) (record { number = z; suspect = b })
    marked true z e = suspect_fits key low high z (in_range_lem low high z suspect_number (λ z. refl) (rw (suspect_written z, suspect_reads low high z) at e))
    marked false z e = plain_fits key low high z (in_range_lem low high z plain_number (λ z. refl) (rw (unmarked_written z, plain_reads low high z) at e))

    unmarked : (b : Bool) (z : ℤ) → refused_by (judged_marked (plain_number (number_in low high (written_marked (record { number = z; suspect = b }))))) ≡ 0 → Fitting (unmarked_field key low high) (record { number = z; suspect = b })
    unmarked true z e =
        let six : refused_by (judged_marked (plain_number (ranged low high none))) ≡ 0 = rw (suspect_written z, mark_no_number (written_number z ++ (63 ∷ [])) (mark_behind (written_number z)).0) at e in
        absurd (omega arith)
    unmarked false z e = unmarked_fits key low high z (in_range_lem low high z plain_number (λ z. refl) (rw (unmarked_written z, number_of_written z) at e))

-- lines of them
pub marked_lines_sound : {fields : List (Field Marked)} → LinesWithMarks fields → AllSound fields
marked_lines_sound no_line = none_sound
marked_lines_sound (marked_one {key} low high one more) = one_sound (marked_numbers_are_sound key low high one).0 (marked_lines_sound more)
marked_lines_sound (unmarked_one {key} low high one more) = one_sound (marked_numbers_are_sound key low high one).1 (marked_lines_sound more)

pub marked_lines_fit : {fields : List (Field Marked)} → LinesWithMarks fields → AllFitOrRefused fields
marked_lines_fit no_line = none_fits
marked_lines_fit (marked_one {key} low high one more) = one_fits (marked_numbers_fit_or_are_refused key low high).0 (marked_lines_fit more)
marked_lines_fit (unmarked_one {key} low high one more) = one_fits (marked_numbers_fit_or_are_refused key low high).1 (marked_lines_fit more)

pub marks_are_badly_written_elsewhere : MarksAreBadlyWrittenElsewhere
marks_are_badly_written_elsewhere key low high bytes =
    let none_read = mark_no_number (bytes ++ (63 ∷ [])) (mark_behind bytes).0 in
    (rw none_read, rw none_read)

pub second_marks_are_badly_written : SecondMarksAreBadlyWritten
second_marks_are_badly_written key low high bytes =
    let twice : bytes ++ (63 ∷ 63 ∷ []) ≡ (bytes ++ (63 ∷ [])) ++ (63 ∷ []) = sym (append_assoc bytes (63 ∷ []) (63 ∷ [])) in
    let last = mark_behind (bytes ++ (63 ∷ [])) in
    let none_read = mark_no_number (bytes ++ (63 ∷ [])) (mark_behind bytes).0 in
    let left : suspect_number (number_in low high (without_mark ((bytes ++ (63 ∷ [])) ++ (63 ∷ [])))) ≡ Err error.Malformed = rw (last.1, none_read) in
    ap judged_marked (ap (marked_in low high) twice ∙ sym (marked_suspect low high ((bytes ++ (63 ∷ [])) ++ (63 ∷ [])) last.0) ∙ left)

-- ---- words

pub words_are_sound : WordsAreSound
words_are_sound key words key_line = record { key_line = key_line; read_written = λ bytes index e. word_written key words bytes index e }

pub words_fit : WordsFit
words_fit key words index found line some_bytes = record { written_line = line; not_empty = some_bytes; written_read = rw found }

pub words_fit_or_are_refused : WordsFitOrAreRefused
words_fit_or_are_refused key words each index e = go (word_in words (written_word words index)) refl e
  where
    go : (read : Found ℕ) → word_in words (written_word words index) ≡ read → refused_by (judged_word read) ≡ 0 → Fitting (word_field key words) index
    go (Some found) h e = listed (ltb index (length words)) refl
      where
        -- past the list no bytes are written, and no word of it is empty
        listed : (b : Bool) → ltb index (length words) ≡ b → Fitting (word_field key words) index
        listed true p = each index (ltb-true index (length words) p)
        listed false p =
            let none : written_word words index ≡ [] = word_past words index (ltb-false index (length words) p) in
            let empty : written_word words found ≡ [] = word_written key words [] found (rw (← none, h)) in
            let some = (each found (word_below words (written_word words index) h)).not_empty in
            absurd (omega (arith, ap length empty))
    go None h e = absurd (omega arith)

-- a list that is written out: no word twice, none empty, each on one line
pub listed_words_fit : (key : List ℕ) (words : List (List ℕ)) → distinct words ≡ true → none_empty words ≡ true → EachOneLine words → FitsOrRefused (word_field key words)
listed_words_fit key words once filled lines =
    words_fit_or_are_refused key words (λ index h. words_fit key words index (word_itself words once index h) (word_one_line words lines index) (word_some words filled index h))

-- ---- ids

pub ids_are_sound : IdsAreSound
ids_are_sound key key_line = record { key_line = key_line; read_written = λ bytes value e. sym (id_is key bytes value e).0 }

pub ids_fit : IdsFit
ids_fit key id e = let known = id_bytes id e in record { written_line = known.line; not_empty = known.some_bytes; written_read = rw e }

pub ids_fit_or_are_refused : IdsFitOrAreRefused
ids_fit_or_are_refused key bytes e = go (is_id bytes) refl e
  where
    go : (b : Bool) → is_id bytes ≡ b → refused_by (judged_id bytes b) ≡ 0 → Fitting (id_field key) bytes
    go true h e = ids_fit key bytes h
    go false h e = absurd (omega arith)

-- ---- schemas one after the other, and several times

module _ {A : Type 0} where
  pub sound_append : (fields others : List (Field A)) → AllSound fields → AllSound others → AllSound (fields ++ others)
  sound_append fields others none_sound more = more
  sound_append fields others (one_sound {field} {fields = rest} sound sounds) more = one_sound sound (sound_append rest others sounds more)

  pub sound_repeated : (n : ℕ) (fields : List (Field A)) → AllSound fields → AllSound (repeated n fields)
  sound_repeated zero fields sounds = rw (repeated_none fields) none_sound
  sound_repeated (suc n) fields sounds = rw (repeated_more fields n) (sound_append fields (repeated n fields) sounds (sound_repeated n fields sounds))

  pub fitting_append : (fields others : List (Field A)) (values more : List A) → AllFitting fields values → AllFitting others more → AllFitting (fields ++ others) (values ++ more)
  fitting_append fields others values more none_fitting rest = rest
  fitting_append fields others values more (one_fitting {fields = fs} {values = vs} fits fitting) rest = one_fitting fits (fitting_append fs others vs more fitting rest)
