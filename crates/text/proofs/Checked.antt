-- A line is read as a value where it is written so and not refused, and nowhere else: for any kind of value, and for lines of a schema.
use Prim.Native.Nat.{ℕ, ◌+◌, ◌<◌}
use native.Mathlib.Nat.{add-zero}
use native.Mathlib.Omega.{arith}
use mathlib.Core.List.{List, [], ◌∷◌, ◌++◌, append_assoc}
use mathlib.Core.Path.{◌≡◌, refl, sym, ap, ◌∙◌}
use lib.ListN.{length, take, drop, length-append, length-drop, take-append-drop}
use lib.Seq.{length-take-le, drop-drop, drop_at}
use Rattle.std.specs.Prelude.{Ok}
use Rattle.text_line.specs.Judged.{good}
use Rattle.text_line.specs.Field.{Field, LineAnswer, got, refused, next_at, field_at}
use Rattle.text_line.proofs.FieldTexts.{field_written, field_read}
use Rattle.text_schema.specs.Schema.{and_then, read_fields}
use Rattle.text_schema.specs.Checked.{CheckedLine, checked_line, checked_lines, text_of}
use Rattle.text_schema.proofs.Readings.{reading_none, reading_first}
use Rattle.text_schema.proofs.Checked.{Unrefused, text_none, text_first, checked_none, checked_first}
use Rattle.text.specs.Promises.{Sound, AllSound, none_sound, one_sound, FitsOrRefused}
use Rattle.text.proofs.RoundTrip.{Cut, field_cuts}

-- ---- parts of a text one after the other

pub cut_none : (text : List ℕ) (at : ℕ) → Cut text at at []
cut_none text at = (refl, sym (add-zero at))

pub cut_both : (text one other : List ℕ) (at mid next : ℕ) → Cut text at mid one → Cut text mid next other → Cut text at next (one ++ other)
cut_both text one other at mid next first second = (
  first.0 ∙ ap (λ (rest : List ℕ). one ++ rest) second.0 ∙ sym (append_assoc one other (drop next text)),
  omega (arith, first.1, second.1, length-append one other),
)

pub cut_apart : (text one other : List ℕ) (at next : ℕ) → Cut text at next (one ++ other) → Cut text at (at + length one) one × Cut text (at + length one) next other
cut_apart text one other at next whole =
    let rest : drop (at + length one) text ≡ other ++ drop next text =
    sym (drop-drop (length one) at text) ∙ ap (drop (length one)) (whole.0 ∙ append_assoc one other (drop next text)) ∙ drop_at one (other ++ drop next text) (length one) refl in
    ((whole.0 ∙ append_assoc one other (drop next text) ∙ ap (λ (l : List ℕ). one ++ l) (sym rest), refl), (rest, omega (arith, whole.1, length-append one other)))

-- ---- one line

module _ {A : Type 0} (field : Field A) (sound : Sound field) (text : List ℕ) (at : ℕ) where
  -- a line that was read is one that is written so
  pub line_cuts :
      (value : A) (next : ℕ) → field_at field text at ≡ got value next →
      Cut text at next (checked_line field value).bytes × ((checked_line field value).number ≡ 0)
  line_cuts value next e =
      let found = field_read field text at e in
      let written : field.write value ≡ found.bytes = sound.read_written found.bytes value found.reads in
      let reads : field.read (field.write value) ≡ good value = rw written found.reads in
      (rw (append_assoc field.key (field.write value) (10 ∷ [])) at (field_cuts field sound text at value next e), rw reads)

  -- a line that is written and not refused is read as the value
  pub line_reads :
      (fits : FitsOrRefused field) (value : A) (next : ℕ) → Cut text at next (checked_line field value).bytes → (checked_line field value).number ≡ 0 →
      field_at field text at ≡ got value next
  line_reads fits value next cut unrefused =
      let it = fits value unrefused in
      let line : List ℕ = field.key ++ (field.write value ++ (10 ∷ [])) in
      let long : length line ≡ length field.key + length (field.write value) + 1 =
      omega (arith, length-append field.key (field.write value ++ (10 ∷ [])), length-append (field.write value) (10 ∷ [])) in
      let whole : drop at text ≡ (field.key ++ field.write value) ++ (10 ∷ drop next text) = cut.0 ∙ simp append_assoc in
      let inside : at < length text = omega (arith, ap length cut.0, length-drop at text, length-append line (drop next text), long) in
      let front : length (take at text) ≡ at = length-take-le at text (omega arith) in
      let same : take at text ++ ((field.key ++ field.write value) ++ (10 ∷ drop next text)) ≡ text = ap (λ (rest : List ℕ). take at text ++ rest) (sym whole) ∙ take-append-drop at text in
      let read = field_written field value (take at text) (drop next text) sound.key_line it.written_line it.not_empty it.written_read in
      let place : next_at at field.key (field.write value) ≡ next = omega (arith, cut.1, long) in
      rw (same, front, place) at read

-- ---- lines of a schema

pub data AllFitOrRefused {A : Type 0} : List (Field A) → Type 0 where
  none_fits : AllFitOrRefused []
  one_fits : {field : Field A} {fields : List (Field A)} → FitsOrRefused field → AllFitOrRefused fields → AllFitOrRefused (field ∷ fields)

-- the lines of some values stand in a text, and none of them is refused
abbrev pub LinesStand : {A : Type 0} → List ℕ → ℕ → ℕ → List (Field A) → List A → Type 0
LinesStand text at next fields values = Cut text at next (text_of (checked_lines fields values)) × Unrefused (checked_lines fields values)

module _ {A : Type 0} (text : List ℕ) where
  pub lines_cut :
      (fields : List (Field A)) (at next : ℕ) → AllSound fields → (read_fields fields text at).end ≡ Ok next →
      LinesStand text at next fields (read_fields fields text at).values
  lines_cut fields at next none_sound e =
      let over : Ok at ≡ Ok next = rw (reading_none {A = A}) at e in
      let same : at ≡ next = cc in
      rw (reading_none {A = A} text at, checked_none {A = A} [], text_none, ← same) (cut_none text at, tt)
  lines_cut fields at next (one_sound {field} {fields = others} sound sounds) e =
      rw (reading_first field others text at)
      (go (field_at field text at) refl (λ mid h. lines_cut others mid next sounds h) (rw (reading_first field others text at) at e))
    where
      go :
          (answer : LineAnswer A) → field_at field text at ≡ answer →
          ((mid : ℕ) → (read_fields others text mid).end ≡ Ok next → LinesStand text mid next others (read_fields others text mid).values) →
          (and_then answer (λ mid. read_fields others text mid)).end ≡ Ok next →
          LinesStand text at next (field ∷ others) (and_then (field_at field text at) (λ mid. read_fields others text mid)).values
      go (got value mid) h again e =
          let line = line_cuts field sound text at value mid h in
          let more = again mid e in
          let rest : List A = (read_fields others text mid).values in
          rw (h, checked_first field others value rest, text_first (checked_line field value) (checked_lines others rest))
          (cut_both text (checked_line field value).bytes (text_of (checked_lines others rest)) at mid next line.0 more.0, (line.1, more.1))
      go (refused found) h again e = let z : ◌≡◌ {A = ℕ} 0 1 = cc in absurd (omega arith)

  pub lines_read :
      (fields : List (Field A)) (values : List A) (at next : ℕ) → AllSound fields → AllFitOrRefused fields → length values ≡ length fields →
      LinesStand text at next fields values →
      read_fields fields text at ≡ record { values = values; end = Ok next }
  lines_read fields [] at next none_sound none_fits long stand =
      let none : text_of (checked_lines {A = A} [] []) ≡ [] = rw (checked_none {A = A} [], text_none) in
      let here : next ≡ at = omega (arith, stand.0.1, ap length none) in
      rw (reading_none {A = A} text at, here)
  lines_read fields (value ∷ values) at next none_sound none_fits long stand = absurd (omega arith)
  lines_read fields [] at next (one_sound sound sounds) (one_fits fits more) long stand = absurd (omega arith)
  lines_read fields (value ∷ values) at next (one_sound {field} {fields = others} sound sounds) (one_fits fits more) long stand =
      let line : CheckedLine = checked_line field value in
      let split : text_of (checked_lines (field ∷ others) (value ∷ values)) ≡ line.bytes ++ text_of (checked_lines others values) =
      rw (checked_first field others value values, text_first line (checked_lines others values)) in
      let both = cut_apart text line.bytes (text_of (checked_lines others values)) at next (rw split at stand.0) in
      let unrefused : (line.number ≡ 0) × Unrefused (checked_lines others values) = rw (checked_first field others value values) at stand.1 in
      let mid : ℕ = at + length line.bytes in
      let first : field_at field text at ≡ got value mid = line_reads field sound text at fits value mid both.0 unrefused.0 in
      let rest = lines_read others values mid next sounds more (omega arith) (both.1, unrefused.1) in
      rw (reading_first field others text at, first, rest)
