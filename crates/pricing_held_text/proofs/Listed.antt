-- Words by their place in a list, and how many bytes a word has at most.
use Prim.Native.Nat.{ℕ, zero, suc, ◌≤◌, ◌<◌}
use native.Mathlib.Omega.{arith}
use denote.Bor.{Bor}
use mathlib.Core.Bool.{Bool, true, ◌&&◌}
use mathlib.Core.List.{List, [], ◌∷◌, map}
use mathlib.Core.Path.{◌≡◌, refl, sym, ap, ◌∙◌}
use borrow.Author.Tests.{leb-true}
use lib.Dec.{leb}
use lib.ListN.{length, get_or, length-map}
use Rattle.text_refusal.proofs.Choices.{and_left, and_right}
use Rattle.text_word.specs.Word.{written_word}
use Rattle.text_word.proofs.Words.{listed_word, written_listed, word_past}
use Rattle.pricing_resource_text.specs.Resource.{kind_words}

-- ---- a word by its place in a list that is lent

module _ (words : List (Bor (List ℕ))) (place : ℕ) where
  pub word_here : (other : Bor (List ℕ)) {word : Bor (List ℕ)} → place < length words → word ≡ get_or words place other → word.now ≡ written_word (map (λ (w : Bor (List ℕ)). w.now) words) place
  word_here other within is = ap (λ (w : Bor (List ℕ)). w.now) is ∙ go words place within ∙ sym (written_listed (map (λ (w : Bor (List ℕ)). w.now) words) place)
    where
      go : (words : List (Bor (List ℕ))) (place : ℕ) → place < length words → (get_or words place other).now ≡ listed_word (map (λ (w : Bor (List ℕ)). w.now) words) place
      go [] place h = absurd (omega arith)
      go (known ∷ words) zero h = refl
      go (known ∷ words) (suc place) h = go words place (omega arith)

  pub word_none : length words ≤ place → ◌≡◌ {A = List ℕ} [] (written_word (map (λ (w : Bor (List ℕ)). w.now) words) place)
  word_none past = sym (word_past (map (λ (w : Bor (List ℕ)). w.now) words) place (simp length-map past))

-- ---- how long it is

-- for words that are written out, the argument is refl
abbrev pub all_within : ℕ → List (List ℕ) → Bool
all_within most [] = true
all_within most (known ∷ words) = leb (length known) most && all_within most words

pub word_short : (most : ℕ) (words : List (List ℕ)) → all_within most words ≡ true → (index : ℕ) → length (written_word words index) ≤ most
word_short most words all index = rw (written_listed words index) (go words index all)
  where
    go : (words : List (List ℕ)) (index : ℕ) → all_within most words ≡ true → length (listed_word words index) ≤ most
    go [] index all = omega arith
    go (known ∷ words) zero all = leb-true (length known) most (and_left (leb (length known) most) (all_within most words) all)
    go (known ∷ words) (suc index) all = go words index (and_right (leb (length known) most) (all_within most words) all)

pub kind_short : (place : ℕ) → length (written_word kind_words place) ≤ 4
kind_short place = word_short 4 kind_words refl place
