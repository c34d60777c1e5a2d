-- Laws on words: a value against one word; against the words of a list, one after the other; and a line that holds a word.
use Prim.Native.Nat.{ℕ, zero, suc, ◌+◌, ◌≤◌, ◌<◌}
use native.Mathlib.Nat.{add-zero, zero-add}
use native.Mathlib.Omega.{arith}
use mathlib.Core.Bool.{Bool, true, false, ◌&&◌, cond}
use mathlib.Core.List.{List, [], ◌∷◌}
use mathlib.Core.Path.{◌≡◌, refl, sym, ap, ap₂, ◌∙◌}
use lib.Dec.{eqb}
use lib.ListN.{length}
use borrow.Author.Tests.{eq-eqb, eqb-true}
use Rattle.std.specs.Cmp.Lexicographic.{pointwise}
use Rattle.std.specs.Prelude.{Option, Some, None}
use Rattle.text_line.specs.Judged.{good}
use Rattle.text_line.specs.Line.{OneLine, value_at, value_fault}
use Rattle.text_line.specs.Field.{got, refused, next_at, field_at}
use Rattle.text_line.proofs.Fields.{NoneEmpty, field_got, field_within, field_refused}
use Rattle.text_line.proofs.FieldTexts.{JudgedNumbered, FieldNumbered}
use Rattle.text_line.proofs.LineBytes.{one_line_none, EachOneLine}
use Rattle.text_word.specs.Word.{same_bytes, word_among, word_in, judged_word, written_word, word_field}

-- ---- the same bytes

pub same_self : (bytes : List ℕ) → same_bytes bytes bytes ≡ true
unfolding same_bytes
same_self [] = refl
same_self (byte ∷ bytes) = rw (eq-eqb byte byte refl) (same_self bytes)

pub same_is : (bytes others : List ℕ) → same_bytes bytes others ≡ true → bytes ≡ others
unfolding same_bytes
same_is [] [] e = refl
same_is [] (other ∷ others) e = cc
same_is (byte ∷ bytes) [] e = cc
same_is (byte ∷ bytes) (other ∷ others) e = go (eqb byte other) refl e (same_is bytes others)
  where
    go : (t : Bool) → eqb byte other ≡ t → cond t (same_bytes bytes others) false ≡ true → (same_bytes bytes others ≡ true → bytes ≡ others) → byte ∷ bytes ≡ other ∷ others
    go true h e again = ap₂ ◌∷◌ (eqb-true byte other h) (again e)
    go false h e again = cc

pub same_other : (bytes others : List ℕ) → (bytes ≡ others → ⊥) → same_bytes bytes others ≡ false
same_other bytes others n = go (same_bytes bytes others) refl
  where
    go : (t : Bool) → same_bytes bytes others ≡ t → t ≡ false
    go true e = absurd (n (same_is bytes others e))
    go false e = refl

pub same_length : (bytes others : List ℕ) → (length bytes ≡ length others → ⊥) → false ≡ same_bytes bytes others
same_length bytes others n = sym (same_other bytes others (λ e. n (ap length e)))

-- as `==` compares them
pub same_pointwise : (bytes others : List ℕ) → same_bytes bytes others ≡ pointwise eqb bytes others
unfolding same_bytes
same_pointwise [] [] = refl
same_pointwise [] (other ∷ others) = refl
same_pointwise (byte ∷ bytes) [] = refl
same_pointwise (byte ∷ bytes) (other ∷ others) = rw (same_pointwise bytes others) (go (eqb byte other))
  where
    go : (t : Bool) → cond t (pointwise eqb bytes others) false ≡ (t && pointwise eqb bytes others)
    go true = refl
    go false = refl

-- ---- the words of a list, one after the other

module _ (index : ℕ) (known : List ℕ) (words : List (List ℕ)) (value : List ℕ) {test : Bool} (is : test ≡ same_bytes value known) where
  pub word_hit : test ≡ true → word_among index (known ∷ words) value ≡ Some index
  unfolding word_among
  word_hit told = rw (sym is ∙ told)

  pub word_miss : test ≡ false → word_among index (known ∷ words) value ≡ word_among (suc index) words value
  unfolding word_among
  word_miss told = rw (sym is ∙ told)

pub word_none : (index : ℕ) (value : List ℕ) → word_among index [] value ≡ None
unfolding word_among
word_none index value = refl

-- a list that is written out: the tests one after the other, computed
abbrev pub computed_word : ℕ → List (List ℕ) → List ℕ → Option ℕ
computed_word index [] value = None
computed_word index (known ∷ words) value = cond (same_bytes value known) (Some index) (computed_word (suc index) words value)

among_computed : (index : ℕ) (words : List (List ℕ)) (value : List ℕ) → word_among index words value ≡ computed_word index words value
unfolding word_among
among_computed index [] value = refl
among_computed index (known ∷ words) value = rw (among_computed (suc index) words value)

pub words_computed : (words : List (List ℕ)) (value : List ℕ) → word_in words value ≡ computed_word 0 words value
words_computed words value = among_computed 0 words value

-- a list with no empty word, as a computed test
abbrev pub none_empty : List (List ℕ) → Bool
none_empty [] = true
none_empty ([] ∷ words) = false
none_empty ((byte ∷ known) ∷ words) = none_empty words

pub empty_unknown : (index : ℕ) (words : List (List ℕ)) → none_empty words ≡ true → word_among index words [] ≡ None
unfolding word_among same_bytes
empty_unknown index [] e = refl
empty_unknown index ([] ∷ words) e = cc
empty_unknown index ((byte ∷ known) ∷ words) e = empty_unknown (suc index) words e

-- the index of a word is below the number of words
among_below : (from : ℕ) (words : List (List ℕ)) (value : List ℕ) {index : ℕ} → word_among from words value ≡ Some index → index < from + length words
unfolding word_among
among_below from [] value e = let z : ◌≡◌ {A = ℕ} 0 1 = cc in absurd (omega arith)
among_below from (known ∷ words) value {index} e = go (same_bytes value known) e (among_below (suc from) words value)
  where
    go : (t : Bool) → cond t (Some from) (word_among (suc from) words value) ≡ Some index → (word_among (suc from) words value ≡ Some index → index < suc from + length words) → index < from + suc (length words)
    go true e again = let same : from ≡ index = cc in omega arith
    go false e again = omega (arith, again e)

pub word_below : (words : List (List ℕ)) (value : List ℕ) {index : ℕ} → word_in words value ≡ Some index → index < length words
word_below words value e = omega (arith, among_below 0 words value e)

-- ---- a line that holds a word

module _ (key : List ℕ) (words : List (List ℕ)) (some_bytes : none_empty words ≡ true) where
  pub word_none_empty : NoneEmpty (word_field key words)
  word_none_empty index e = let f = rw (empty_unknown 0 words some_bytes) at e in let z : ◌≡◌ {A = ℕ} 0 1 = cc in omega arith

  -- what the reader of words said of the line's value, and what the line gives
  module _ (text : List ℕ) (at : ℕ) {value : List ℕ} {w : Option ℕ} (same : value ≡ value_at key text at) (is : w ≡ word_in words value) where
    judged_is : {said : Option ℕ} → w ≡ said → (word_field key words).read (value_at key text at) ≡ judged_word said
    judged_is told = ap judged_word (ap (word_in words) (sym same) ∙ sym is ∙ told)

    pub word_got : {index : ℕ} → w ≡ Some index → got index (next_at at key value) ≡ field_at (word_field key words) text at
    word_got told = rw same (field_got (word_field key words) text at word_none_empty (judged_is told))

    pub word_within : {index : ℕ} → w ≡ Some index → next_at at key value ≤ length text
    word_within told = rw same (field_within (word_field key words) text at word_none_empty (judged_is told)).0

    pub word_refused : w ≡ None → refused (value_fault key text at 6) ≡ field_at (word_field key words) text at
    word_refused told = field_refused (word_field key words) text at (judged_is told)

pub word_numbered : (key : List ℕ) (words : List (List ℕ)) → FieldNumbered (word_field key words)
word_numbered key words value = go (word_in words value)
  where
    go : (found : Option ℕ) → JudgedNumbered (judged_word found)
    go (Some index) = tt
    go None = (omega arith, omega arith)

-- ---- a word as it is written

-- the word found among words is written as the value
among_written : (words : List (List ℕ)) (base index : ℕ) (value : List ℕ) → word_among base words value ≡ Some index → (k : ℕ) × (base + k ≡ index) × (written_word words k ≡ value)
unfolding word_among written_word
among_written [] base index value e = let z : ◌≡◌ {A = ℕ} 0 1 = cc in absurd (omega arith)
among_written (known ∷ words) base index value e = go (same_bytes value known) refl (among_written words (suc base) index value) e
  where
    go : (b : Bool) → same_bytes value known ≡ b → (word_among (suc base) words value ≡ Some index → (k : ℕ) × (suc base + k ≡ index) × (written_word words k ≡ value)) → cond b (Some base) (word_among (suc base) words value) ≡ Some index → (k : ℕ) × (base + k ≡ index) × (written_word (known ∷ words) k ≡ value)
    go true h again e = let same : base ≡ index = cc in (0, omega arith, sym (same_is value known h))
    go false h again e = let found = again e in let fact : suc base + found.0 ≡ index = found.1 in (suc found.0, omega arith, found.2)

pub word_written : (key : List ℕ) (words : List (List ℕ)) (bytes : List ℕ) (index : ℕ) → (word_field key words).read bytes ≡ good index → written_word words index ≡ bytes
word_written key words bytes index e = go (word_in words bytes) refl e
  where
    go : (read : Option ℕ) → word_in words bytes ≡ read → judged_word read ≡ good index → written_word words index ≡ bytes
    go (Some found) h e =
        let same : found ≡ index = cc in
        let at = among_written words 0 found bytes h in
        let here : at.0 ≡ index = (let fact : 0 + at.0 ≡ found = at.1 in omega arith) in
        rw (← here) at.2
    go None h e = cc

-- past the last word no bytes are written
pub word_past : (words : List (List ℕ)) (index : ℕ) → length words ≤ index → written_word words index ≡ []
unfolding written_word
word_past [] index h = refl
word_past (known ∷ words) zero h = absurd (omega arith)
word_past (known ∷ words) (suc index) h = word_past words index (omega arith)

-- the words of a list that is written out, computed
abbrev pub listed_word : List (List ℕ) → ℕ → List ℕ
listed_word [] index = []
listed_word (known ∷ words) zero = known
listed_word (known ∷ words) (suc index) = listed_word words index

pub written_listed : (words : List (List ℕ)) (index : ℕ) → written_word words index ≡ listed_word words index
unfolding written_word
written_listed [] index = refl
written_listed (known ∷ words) zero = refl
written_listed (known ∷ words) (suc index) = written_listed words index

pub word_one_line : (words : List (List ℕ)) → EachOneLine words → (index : ℕ) → OneLine (written_word words index)
unfolding written_word
word_one_line [] each index = one_line_none
word_one_line (known ∷ words) each zero = each.0
word_one_line (known ∷ words) each (suc index) = word_one_line words each.1 index

pub word_some : (words : List (List ℕ)) → none_empty words ≡ true → (index : ℕ) → index < length words → 0 < length (written_word words index)
unfolding written_word
word_some [] e index h = absurd (omega arith)
word_some ([] ∷ words) e index h = let z : ◌≡◌ {A = ℕ} 0 1 = cc in absurd (omega arith)
word_some ((byte ∷ known) ∷ words) e zero h = omega arith
word_some ((byte ∷ known) ∷ words) e (suc index) h = word_some words e index (omega arith)

-- ---- a list with no word twice, as a computed test: each word is found at its own index

abbrev same_computed : List ℕ → List ℕ → Bool
same_computed [] [] = true
same_computed [] (byte ∷ others) = false
same_computed (byte ∷ bytes) [] = false
same_computed (byte ∷ bytes) (other ∷ others) = cond (eqb byte other) (same_computed bytes others) false

same_computed_lem : (bytes others : List ℕ) → same_bytes bytes others ≡ same_computed bytes others
unfolding same_bytes
same_computed_lem [] [] = refl
same_computed_lem [] (byte ∷ others) = refl
same_computed_lem (byte ∷ bytes) [] = refl
same_computed_lem (byte ∷ bytes) (other ∷ others) = rw (same_computed_lem bytes others)

-- no word of the list is these bytes
abbrev apart : List ℕ → List (List ℕ) → Bool
apart known [] = true
apart known (other ∷ words) = cond (same_computed other known) false (apart known words)

abbrev pub distinct : List (List ℕ) → Bool
distinct [] = true
distinct (known ∷ words) = cond (apart known words) (distinct words) false

apart_other : (known : List ℕ) (words : List (List ℕ)) → apart known words ≡ true → (index : ℕ) → index < length words → same_bytes (written_word words index) known ≡ false
unfolding written_word
apart_other known [] e index h = absurd (omega arith)
apart_other known (other ∷ words) e zero h = same_computed_lem other known ∙ go (same_computed other known) e
  where
    go : (b : Bool) → cond b false (apart known words) ≡ true → b ≡ false
    go true e = cc
    go false e = refl
apart_other known (other ∷ words) e (suc index) h = apart_other known words (go (same_computed other known) e) index (omega arith)
  where
    go : (b : Bool) → cond b false (apart known words) ≡ true → apart known words ≡ true
    go true e = cc
    go false e = e

among_itself : (words : List (List ℕ)) (base : ℕ) → distinct words ≡ true → (index : ℕ) → index < length words → word_among base words (written_word words index) ≡ Some (base + index)
unfolding word_among written_word
among_itself [] base e index h = absurd (omega arith)
among_itself (known ∷ words) base e zero h = rw (same_self known, add-zero base)
among_itself (known ∷ words) base e (suc index) h =
    let both = split (apart known words) e in
    let place : base + suc index ≡ suc base + index = omega arith in
    rw (apart_other known words both.0 index (omega arith), place) (among_itself words (suc base) both.1 index (omega arith))
  where
    split : (b : Bool) → cond b (distinct words) false ≡ true → (b ≡ true) × (distinct words ≡ true)
    split true e = (refl, e)
    split false e = let z : ◌≡◌ {A = ℕ} 0 1 = cc in absurd (omega arith)

pub word_itself : (words : List (List ℕ)) → distinct words ≡ true → (index : ℕ) → index < length words → word_in words (written_word words index) ≡ Some index
word_itself words e index h = among_itself words 0 e index h ∙ ap Some (zero-add index)
