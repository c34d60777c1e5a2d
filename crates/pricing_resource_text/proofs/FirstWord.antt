-- Which word of a list a value is: the first that it equals.
use Prim.Native.Nat.{ℕ, suc}
use native.Mathlib.Numerals.{add-one}
use mathlib.Core.List.{List, [], ◌∷◌}
use mathlib.Core.Path.{◌≡◌, refl, ◌∙◌}
use Rattle.std.specs.Prelude.{position}
use Rattle.std.specs.List.{position_from}
use Rattle.std.proofs.lemmas.Iterator.Adapters.{position_from-zero}
use Rattle.text_word.specs.Word.{same_bytes, word_among, word_in}

word_from : (index : ℕ) (words : List (List ℕ)) (value : List ℕ) → position_from (λ (word : List ℕ). same_bytes value word) index words ≡ word_among index words value
unfolding word_among
word_from index [] value = refl
word_from index (word ∷ words) value = rw (add-one, word_from (suc index) words value)

pub first_word : (words : List (List ℕ)) (value : List ℕ) → position (λ (word : List ℕ). same_bytes value word) words ≡ word_in words value
first_word words value = position_from-zero (λ (word : List ℕ). same_bytes value word) words ∙ word_from 0 words value
