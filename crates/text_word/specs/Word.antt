-- Words: a value that is no listed word is refused by 6.
use Rattle.std.specs.Prelude.{ℕ, zero, suc, Bool, true, false, cond, List, [], ◌∷◌, eqb, Option, Some, None}
use Rattle.text_line.specs.Judged.{Judged, good, bad}
use Rattle.text_line.specs.Field.{Field}

-- whether two byte strings are the same bytes
unfoldable pub same_bytes : List ℕ → List ℕ → Bool
same_bytes [] [] = true
same_bytes [] (byte ∷ others) = false
same_bytes (byte ∷ bytes) [] = false
same_bytes (byte ∷ bytes) (other ∷ others) = cond (eqb byte other) (same_bytes bytes others) false

-- which word of a list a value is, `index` words standing before; none where it is no word of the list
unfoldable pub word_among : ℕ → List (List ℕ) → List ℕ → Option ℕ
word_among index [] value = None
word_among index (known ∷ words) value = cond (same_bytes value known) (Some index) (word_among (suc index) words value)

abbrev pub word_in : List (List ℕ) → List ℕ → Option ℕ
word_in words value = word_among 0 words value

-- document 01's number for each case: a value that is no listed word is refused by 6; 0 is no refusal
abbrev pub word_refusal : Option ℕ → ℕ
word_refusal (Some index) = 0
word_refusal None = 6

abbrev pub judged_word : Option ℕ → Judged ℕ
judged_word (Some index) = good index
judged_word None = bad (word_refusal None)

-- a word by its index; no bytes where there is no such word
unfoldable pub written_word : List (List ℕ) → ℕ → List ℕ
written_word [] index = []
written_word (known ∷ words) zero = known
written_word (known ∷ words) (suc index) = written_word words index

-- a word of a list under a key
abbrev pub word_field : List ℕ → List (List ℕ) → Field ℕ
word_field key words =
    record {
      key = key;
      read = λ value. judged_word (word_in words value);
      write = written_word words;
    }
