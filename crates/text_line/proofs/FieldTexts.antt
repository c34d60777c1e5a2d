-- Laws of a line of any kind of value: as it is written and as it is read, cut off, in a part of the text, and the number of its refusal.
use Prim.Native.Nat.{ℕ, ◌+◌, ◌≤◌, ◌<◌}
use native.Mathlib.Omega.{arith}
use mathlib.Core.List.{List, [], ◌∷◌, ◌++◌}
use mathlib.Core.Path.{◌≡◌, refl, sym, ap, ◌∙◌}
use lib.ListN.{length, drop, length-append, length-drop}
use lib.Seq.{drop-append_seam, drop-drop}
use Rattle.text_refusal.specs.Refusal.{fault}
use Rattle.text_refusal.specs.declared.refusal.Fault.{Fault}
use Rattle.text_line.specs.Judged.{Judged, good, bad}
use Rattle.text_line.specs.Line.{line_length, OneLine, line_in}
use Rattle.text_line.specs.Field.{Field, LineAnswer, got, refused, judged, next_at, value_in, field_at}
use Rattle.text_line.proofs.Fields.{LineIs, valued, unended, other, empty, line_is}
use Rattle.text_line.proofs.LineBytes.{line_written, line_read, line_unended, line_alone}

module _ {A : Type 0} (field : Field A) where
  -- ---- as it is written and as it is read

  -- a value that is written on one line and read back is got, wherever the line stands
  pub field_written :
      (value : A) (before after : List ℕ) → OneLine field.key → OneLine (field.write value) → 0 < length (field.write value) →
      field.read (field.write value) ≡ good value →
      field_at field (before ++ ((field.key ++ field.write value) ++ (10 ∷ after))) (length before) ≡ got value (next_at (length before) field.key (field.write value))
  unfolding field_at
  field_written value before after key_line Value-line some_bytes back =
      rw (drop-append_seam before ((field.key ++ field.write value) ++ (10 ∷ after)), line_written field.key (field.write value) after key_line Value-line some_bytes, back)

  module _ (text : List ℕ) (at : ℕ) where
    -- a value that was got: the bytes it was read from, which stand behind the key and before byte 10
    pub record FieldRead (value : A) (next : ℕ) : Type 0 where
      pub bytes : List ℕ
      pub some_bytes : 0 < length bytes
      pub reads : field.read bytes ≡ good value
      pub next_is : next ≡ next_at at field.key bytes
      pub within : next ≤ length text
      pub there : drop at text ≡ (field.key ++ bytes) ++ (10 ∷ drop next text)

    pub field_read : {value : A} {next : ℕ} → field_at field text at ≡ got value next → FieldRead value next
    unfolding field_at
    field_read {value} {next} e = go (line_in field.key (drop at text)) refl (line_is field.key (drop at text)) e
      where
        read : (bytes : List ℕ) (after : ℕ) (found : Judged A) → judged at after found ≡ got value next → (found ≡ good value) × (after ≡ next)
        read bytes after (good v) e = (cc, cc)
        read bytes after (bad number) e = let z : ◌≡◌ {A = ℕ} 0 1 = cc in absurd (omega arith)

        go : (found : Judged (List ℕ)) → line_in field.key (drop at text) ≡ found → LineIs field.key (drop at text) found → value_in field at found ≡ got value next → FieldRead value next
        go (good bytes) h (valued some_bytes within long begun is) e =
            let told = read bytes (next_at at field.key bytes) (field.read bytes) e in
            let here : next ≡ next_at at field.key bytes = sym told.1 in
            let size : at + (length (field.key ++ bytes) + 1) ≡ next = omega (arith, here, length-append field.key bytes) in
            record {
              bytes = bytes;
              some_bytes = some_bytes;
              reads = told.0;
              next_is = here;
              within = omega (arith, here, length-drop at text);
              there =
                  line_read field.key (drop at text) bytes h
                  ∙ ap (λ (rest : List ℕ). (field.key ++ bytes) ++ (10 ∷ rest)) (drop-drop (length (field.key ++ bytes) + 1) at text ∙ ap (λ (n : ℕ). drop n text) size);
            }
        go (bad number) h line e = let z : ◌≡◌ {A = ℕ} 0 1 = cc in absurd (omega arith)

  -- ---- a line cut off, and alone

  pub field_unended : (line : List ℕ) → OneLine line → field_at field line 0 ≡ refused (fault 3 0)
  unfolding field_at
  field_unended line e = rw (line_unended field.key line e)

  pub field_alone : (line more : List ℕ) → OneLine line → field_at field (line ++ (10 ∷ more)) 0 ≡ field_at field (line ++ (10 ∷ [])) 0
  unfolding field_at
  field_alone line more e = rw (line_alone field.key line more e)

-- ---- a refused line

-- the number of a refused line is one of 1 to 9
abbrev pub OfLines : ℕ → Type 0
OfLines number = (1 ≤ number) × (number ≤ 9)

abbrev pub JudgedNumbered : {A : Type 0} → Judged A → Type 0
JudgedNumbered (good value) = Unit
JudgedNumbered (bad number) = OfLines number

abbrev pub LineNumbered : {A : Type 0} → LineAnswer A → Type 0
LineNumbered (got value next) = Unit
LineNumbered (refused found) = OfLines found.number

abbrev pub FieldNumbered : {A : Type 0} → Field A → Type 0
FieldNumbered field = (value : List ℕ) → JudgedNumbered (field.read value)

module _ {A : Type 0} (field : Field A) (text : List ℕ) (at : ℕ) where
  pub field_numbered : FieldNumbered field → LineNumbered (field_at field text at)
  unfolding field_at
  field_numbered n = go (line_in field.key (drop at text)) (line_is field.key (drop at text))
    where
      judge : (next : ℕ) (found : Judged A) → JudgedNumbered found → LineNumbered (judged at next found)
      judge next (good value) n = tt
      judge next (bad number) n = n

      go : (found : Judged (List ℕ)) → LineIs field.key (drop at text) found → LineNumbered (value_in field at found)
      go (good value) line = judge (next_at at field.key value) (field.read value) (n value)
      go (bad number) unended = (omega arith, omega arith)
      go (bad number) other = (omega arith, omega arith)
      go (bad number) empty = (omega arith, omega arith)

  -- after a line that was read the next one starts past its byte 10
  pub field_next : {value : A} {next : ℕ} → field_at field text at ≡ got value next → next ≡ at + line_length (drop at text) + 1
  unfolding field_at
  field_next {value} {next} e = go (line_in field.key (drop at text)) (line_is field.key (drop at text)) e
    where
      judge : (bytes : List ℕ) (found : Judged A) → judged at (next_at at field.key bytes) found ≡ got value next → next ≡ next_at at field.key bytes
      judge bytes (good said) e = cc
      judge bytes (bad number) e = let z : ◌≡◌ {A = ℕ} 0 1 = cc in absurd (omega arith)

      go : (found : Judged (List ℕ)) → LineIs field.key (drop at text) found → value_in field at found ≡ got value next → next ≡ at + line_length (drop at text) + 1
      go (good bytes) (valued some within whole begun is) e = omega (arith, judge bytes (field.read bytes) e, whole)
      go (bad number) line e = let z : ◌≡◌ {A = ℕ} 0 1 = cc in absurd (omega arith)

  -- a refusal is of the line that was due
  pub field_refused_at : {found : Fault} → field_at field text at ≡ refused found → found.at ≡ at
  unfolding field_at
  field_refused_at {found} e = go (line_in field.key (drop at text)) e
    where
      judge : (next : ℕ) (value : Judged A) → judged at next value ≡ refused found → found.at ≡ at
      judge next (good value) e = let z : ◌≡◌ {A = ℕ} 0 1 = cc in absurd (omega arith)
      judge next (bad number) e = let same : found ≡ fault number at = cc in ap (λ (f : Fault). f.at) same

      go : (line : Judged (List ℕ)) → value_in field at line ≡ refused found → found.at ≡ at
      go (good value) e = judge (next_at at field.key value) (field.read value) e
      go (bad number) e = let same : found ≡ fault number at = cc in ap (λ (f : Fault). f.at) same

-- ---- a line of one kind of value read as another under the same key

module _ {A B : Type 0} (field : Field A) (other : Field B) (text : List ℕ) (at : ℕ) where
  pub field_as :
      other.key ≡ field.key → {value : A} {next : ℕ} → field_at field text at ≡ got value next → {said : B} →
      ((bytes : List ℕ) → field.read bytes ≡ good value → other.read bytes ≡ good said) → field_at other text at ≡ got said next
  unfolding field_at
  field_as keys {value} {next} e {said} also = ap (λ (key : List ℕ). value_in other at (line_in key (drop at text))) keys ∙ go (line_in field.key (drop at text)) e
    where
      judge :
          (bytes : List ℕ) (found : Judged A) → field.read bytes ≡ found → judged at (next_at at field.key bytes) found ≡ got value next →
          judged at (next_at at other.key bytes) (other.read bytes) ≡ got said next
      judge bytes (good v) h e =
          let same : v ≡ value = cc in
          let here : next_at at field.key bytes ≡ next = cc in
          rw (also bytes (h ∙ ap good same), keys, here)
      judge bytes (bad number) h e = let z : ◌≡◌ {A = ℕ} 0 1 = cc in absurd (omega arith)

      go : (found : Judged (List ℕ)) → value_in field at found ≡ got value next → value_in other at found ≡ got said next
      go (good bytes) e = judge bytes (field.read bytes) refl e
      go (bad number) e = let z : ◌≡◌ {A = ℕ} 0 1 = cc in absurd (omega arith)

-- ---- in a part of the text: every position moved by where the part starts

abbrev pub moved_fault : ℕ → Fault → Fault
moved_fault k found = fault found.number (k + found.at)

abbrev pub moved_answer : {A : Type 0} → ℕ → LineAnswer A → LineAnswer A
moved_answer k (got value next) = got value (k + next)
moved_answer k (refused found) = refused (moved_fault k found)

-- where reading goes on, or the refused line starts
abbrev pub answer_position : {A : Type 0} → LineAnswer A → ℕ
answer_position (got value next) = next
answer_position (refused found) = found.at

module _ {A : Type 0} (field : Field A) (text : List ℕ) where
  pub field_moved : (k at : ℕ) → field_at field text (k + at) ≡ moved_answer k (field_at field (drop k text) at)
  unfolding field_at
  field_moved k at = rw (drop-drop at k text) (go (line_in field.key (drop (k + at) text)))
    where
      judged_moved : (next : ℕ) (value : Judged A) → judged (k + at) (k + next) value ≡ moved_answer k (judged at next value)
      judged_moved next (good value) = refl
      judged_moved next (bad number) = refl

      go : (found : Judged (List ℕ)) → value_in field (k + at) found ≡ moved_answer k (value_in field at found)
      go (good value) =
          let next : next_at (k + at) field.key value ≡ k + next_at at field.key value = omega arith in
          rw next (judged_moved (next_at at field.key value) (field.read value))
      go (bad number) = refl

  pub field_position : (at : ℕ) → at ≤ length text → answer_position (field_at field text at) ≤ length text
  field_position at h = go (field_at field text at) refl
    where
      by : (found : Fault) → field_at field text at ≡ refused found → found.at ≤ length text
      by found e = omega (arith, field_refused_at field text at e)

      go : (answer : LineAnswer A) → field_at field text at ≡ answer → answer_position answer ≤ length text
      go (got value next) e = (field_read field text at e).within
      go (refused found) e = by found e
