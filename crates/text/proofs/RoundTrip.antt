-- Reading gives back what was written, and writing gives back what was read, for every schema: proofs of the promises.
use Prim.Native.Nat.{ℕ, ◌+◌, ◌-◌}
use native.Mathlib.Nat.{sub-zero, add-zero}
use native.Mathlib.Omega.{arith}
use mathlib.Core.List.{List, [], ◌∷◌, ◌++◌, append_assoc}
use mathlib.Core.Path.{◌≡◌, refl, sym, ap, ◌∙◌}
use lib.ListN.{length, drop, length-append}
use lib.Seq.{take_at, take-length}
use Rattle.std.specs.Prelude.{Ok}
use Rattle.text_line.specs.Piece.{part}
use Rattle.text_line.specs.Field.{Field, LineAnswer, got, refused, next_at, field_at}
use Rattle.text_line.proofs.FieldTexts.{field_written, field_read}
use Rattle.text_schema.specs.Schema.{and_then, read_fields, write_fields}
use Rattle.text_schema.proofs.Readings.{reading_none, reading_first}
use Rattle.text_schema.proofs.Written.{write_none, write_first}
use Rattle.text.specs.Promises.{Sound, AllSound, none_sound, one_sound, none_fitting, one_fitting, WrittenIsReadBack, ReadIsWrittenBack, OneText}

-- ---- write then read

pub written_is_read_back : WrittenIsReadBack
written_is_read_back A fields values before after none_sound none_fitting = rw (reading_none {A = A}, write_none {A = A} [], add-zero (length before))
written_is_read_back A fields values before after (one_sound {field} {fields = others} sound sounds) (one_fitting {value} {values = rest} fits fitting) =
    let line : List ℕ = field.key ++ field.write value in
    let text : List ℕ = (before ++ (line ++ (10 ∷ write_fields others rest))) ++ after in
    let passed : List ℕ = before ++ (line ++ (10 ∷ [])) in
    let next : ℕ = length before + length line + 1 in
    let first : text ≡ before ++ (line ++ (10 ∷ (write_fields others rest ++ after))) = simp append_assoc in
    let second : text ≡ (passed ++ write_fields others rest) ++ after = simp append_assoc in
    let longer : length passed ≡ length before + length (line ++ (10 ∷ [])) = length-append before (line ++ (10 ∷ [])) in
    let long : length (line ++ (10 ∷ [])) ≡ length line + 1 = length-append line (10 ∷ []) in
    let at : next ≡ length passed = omega arith in
    let here : next ≡ next_at (length before) field.key (field.write value) = omega (arith, length-append field.key (field.write value)) in
    let read : field_at field text (length before) ≡ got value next =
    rw (first, here) (field_written field value before (write_fields others rest ++ after) sound.key_line fits.written_line fits.not_empty fits.written_read) in
    let reads : read_fields others text next ≡ record { values = rest; end = Ok (length passed + length (write_fields others rest)) } = rw (second, at) (written_is_read_back A others rest passed after sounds fitting) in
    let ends : length passed + length (write_fields others rest) ≡ length before + length (line ++ (10 ∷ write_fields others rest)) = omega (arith, length-append line (10 ∷ write_fields others rest)) in
    rw (write_first field others value rest, reading_first field others text (length before), read, reads, ends)

-- ---- read then write

-- a text from a position on is some written bytes and the text after them
abbrev pub Cut : List ℕ → ℕ → ℕ → List ℕ → Type 0
Cut text at next bytes = (drop at text ≡ bytes ++ drop next text) × (next ≡ at + length bytes)

cut_on : (text line bytes : List ℕ) (at mid next : ℕ) → Cut text at mid (line ++ (10 ∷ [])) → Cut text mid next bytes → Cut text at next (line ++ (10 ∷ bytes))
cut_on text line bytes at mid next first second = (
  first.0 ∙ ap (λ (rest : List ℕ). (line ++ (10 ∷ [])) ++ rest) second.0 ∙ simp append_assoc,
  omega (arith, length-append line (10 ∷ []), length-append line (10 ∷ bytes)),
)

module _ {A : Type 0} (field : Field A) (sound : Sound field) (text : List ℕ) (at : ℕ) where
  pub field_cuts : (value : A) (next : ℕ) → field_at field text at ≡ got value next → Cut text at next ((field.key ++ field.write value) ++ (10 ∷ []))
  field_cuts value next e =
      let read = field_read field text at e in
      let whole : List ℕ = field.key ++ read.bytes in
      let written : field.write value ≡ read.bytes = sound.read_written read.bytes value read.reads in
      rw (written, append_assoc whole (10 ∷ []) (drop next text)) (
        read.there,
        omega (arith, read.next_is, length-append whole (10 ∷ []), length-append field.key read.bytes),
      )

-- what is read, as it is written, is where it was read
fields_cut : {A : Type 0} (fields : List (Field A)) (text : List ℕ) (at next : ℕ) → AllSound fields → (read_fields fields text at).end ≡ Ok next → Cut text at next (write_fields fields (read_fields fields text at).values)
fields_cut {A} fields text at next none_sound e =
    let over : Ok at ≡ Ok next = rw (reading_none {A = A}) at e in
    let same : at ≡ next = cc in
    rw (reading_none {A = A}, write_none {A = A} [], ← same, add-zero at) (refl, refl)
fields_cut {A} fields text at next (one_sound {field} {fields = others} sound sounds) e =
    rw (reading_first field others text at)
    (go (field_at field text at) refl (λ mid h. fields_cut others text mid next sounds h) (rw (reading_first field others text at) at e))
  where
    go : (answer : LineAnswer A) → field_at field text at ≡ answer → ((mid : ℕ) → (read_fields others text mid).end ≡ Ok next → Cut text mid next (write_fields others (read_fields others text mid).values)) → (and_then answer (λ mid. read_fields others text mid)).end ≡ Ok next → Cut text at next (write_fields (field ∷ others) (and_then (field_at field text at) (λ mid. read_fields others text mid)).values)
    go (got value mid) h again e =
        rw (h, write_first field others value (read_fields others text mid).values) (cut_on text (field.key ++ field.write value) (write_fields others (read_fields others text mid).values) at mid next (field_cuts field sound text at value mid h) (again mid e))
    go (refused found) h again e = let z : ◌≡◌ {A = ℕ} 0 1 = cc in absurd (omega arith)

pub read_is_written_back : ReadIsWrittenBack
read_is_written_back A fields text at next sounds e =
    let cut = fields_cut fields text at next sounds e in
    rw cut.0 (take_at (write_fields fields (read_fields fields text at).values) (drop next text) (next - at) (omega arith))

pub one_text : OneText
one_text A fields one other sounds e f same =
    sym (whole one) ∙ read_is_written_back A fields one 0 (length one) sounds e ∙ ap (write_fields fields) same ∙
    sym (read_is_written_back A fields other 0 (length other) sounds f) ∙ whole other
  where
    whole : (text : List ℕ) → part text 0 (length text) ≡ text
    whole text = rw (sub-zero (length text)) (take-length text)
