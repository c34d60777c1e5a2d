-- A kind and a status that were read, told by a few of their letters.
use Prim.Native.Nat.{ℕ, zero, suc, ◌+◌, ◌*◌, ◌<◌, ◌≤◌}
use native.Mathlib.Omega.{arith}
use mathlib.Core.Bool.{Bool, true, false, cond}
use mathlib.Core.List.{List, [], ◌∷◌, ◌++◌}
use mathlib.Core.Path.{◌≡◌, refl}
use lib.Dec.{T, eqb, leb, lit≤}
use lib.ListN.{length, get_or}
use mir.Val.{bool_byte}
use Rattle.std.specs.Prelude.{Some}
use Rattle.text_refusal.specs.Bytes.{bytes}
use Rattle.text_line.specs.Judged.{good}
use Rattle.text_line.specs.Field.{got, field_at}
use Rattle.text_line.proofs.FieldTexts.{field_read}
use Rattle.text_word.specs.Word.{same_bytes, judged_word, word_field}
use Rattle.text_word.proofs.Words.{same_is, computed_word, words_computed}
use Rattle.pricing_resource_text.specs.Resource.{kind_words, kind_field, status_words, status_field}
use Rattle.pricing_held_reading.specs.internal.Laying.{Got, Stands}
use Rattle.pricing_held_reading.proofs.Standing.{stands_within, ended_at, byte_at, line_stands}

-- ---- a word that was read, by its place

record WordPlace (words : List (List ℕ)) (k : ℕ) (bytes : List ℕ) : Type 0 where
  below : k < length words
  is : bytes ≡ get_or words k []

listed_from : (words : List (List ℕ)) (base k : ℕ) (bytes : List ℕ) → judged_word (computed_word base words bytes) ≡ good k → (i : ℕ) × (base + i ≡ k) × WordPlace words i bytes
listed_from [] base k bytes e = let z : ◌≡◌ {A = ℕ} 0 1 = cc in absurd (omega arith)
listed_from (known ∷ words) base k bytes e = go (same_bytes bytes known) refl (listed_from words (suc base) k bytes) e
  where
    go : (b : Bool) → same_bytes bytes known ≡ b → (judged_word (computed_word (suc base) words bytes) ≡ good k → (i : ℕ) × (suc base + i ≡ k) × WordPlace words i bytes) → judged_word (cond b (Some base) (computed_word (suc base) words bytes)) ≡ good k → (i : ℕ) × (base + i ≡ k) × WordPlace (known ∷ words) i bytes
    go true same others e = let here : base ≡ k = cc in (0, omega arith, record { below = omega arith; is = same_is bytes known same })
    go false same others e =
        let found = others e in
        let place : suc base + found.0 ≡ k = found.1 in
        (suc found.0, omega arith, record { below = omega (arith, found.2.below); is = found.2.is })

-- its line, the word being known by its place
pub word_line : (key : List ℕ) (words : List (List ℕ)) (text : List ℕ) (at : ℕ) {k next : ℕ} → field_at (word_field key words) text at ≡ got k next → (k < length words) × Stands text at (key ++ get_or words k []) next
word_line key words text at {k} {next} e =
    let read = field_read (word_field key words) text at e in
    let found = listed_from words 0 k read.bytes (rw (words_computed words read.bytes) at read.reads) in
    let here : found.0 ≡ k = (let place : 0 + found.0 ≡ k = found.1 in omega arith) in
    let is : read.bytes ≡ get_or words k [] = rw here at found.2.is in
    (omega (arith, here, found.2.below), rw (← is) (line_stands (word_field key words) text at e))

-- ---- sums of tests, as the code has them

abbrev bit : ℕ → ℕ → ℕ
bit byte letter = bool_byte (eqb byte letter)

-- a kind by its first two letters, and where its line ends
abbrev kind_index : ℕ → ℕ → ℕ
kind_index first second = bit first 119 + 2 * bit first 105 + 3 * bit first 110 + 4 * bit first 99 + 2 * bit second 99

abbrev kind_next : ℕ → ℕ → ℕ
kind_next at first = at + 9 + bit first 119 + bit first 110

pub record KindTold (text : List ℕ) (at first second : ℕ) : Type 0 where
  pub is : field_at kind_field text at ≡ got (kind_index first second) (kind_next at first)
  pub few : kind_index first second < 6
  pub within : kind_next at first ≤ length text

pub kind_told : (text : List ℕ) (at : ℕ) → Got (field_at kind_field text at) → KindTold text at (get_or text (at + 5) 0) (get_or text (at + 6) 0)
kind_told text at found = let line = word_line (bytes "kind=") kind_words text at found.is in go found.value line.0 line.1 found.is
  where
    Told : Type 0
    Told = KindTold text at (get_or text (at + 5) 0) (get_or text (at + 6) 0)

    told :
        {k next : ℕ} (line : List ℕ) → Stands text at line next → k < 6 → T (leb 7 (length line)) → kind_index (get_or line 5 0) (get_or line 6 0) ≡ k →
        kind_next 0 (get_or line 5 0) ≡ length line + 1 → field_at kind_field text at ≡ got k next → Told
    told {k} {next} line stands few long index size e =
        let enough : 7 ≤ length line = lit≤ long in
        let ends : kind_next at (get_or line 5 0) ≡ next = omega (arith, size, stands.next_is) in
        rw (byte_at stands 5 (omega arith), byte_at stands 6 (omega arith))
        (record { is = rw (index, ends) e; few = omega (arith, index); within = omega (arith, ends, stands_within stands) })

    go : {next : ℕ} (k : ℕ) → k < 6 → Stands text at (bytes "kind=" ++ get_or kind_words k []) next → field_at kind_field text at ≡ got k next → Told
    go zero h s e = told (bytes "kind=gen") s h tt refl refl e
    go (suc zero) h s e = told (bytes "kind=wind") s h tt refl refl e
    go (suc (suc zero)) h s e = told (bytes "kind=irr") s h tt refl refl e
    go (suc (suc (suc zero))) h s e = told (bytes "kind=nuke") s h tt refl refl e
    go (suc (suc (suc (suc zero)))) h s e = told (bytes "kind=clr") s h tt refl refl e
    go (suc (suc (suc (suc (suc zero))))) h s e = told (bytes "kind=nclr") s h tt refl refl e
    go (suc (suc (suc (suc (suc (suc k)))))) h s e = absurd (omega arith)

-- a status by its second to fourth letter, and where its line ends
abbrev status_index : ℕ → ℕ → ℕ → ℕ
status_index second third fourth =
    bit second 70 + bit second 70 * bit fourth 78 + 3 * (bit second 78 * bit third 84) + 4 * bit second 84 + 5 * bit second 72 + 6 * bit second 85

abbrev status_next : ℕ → ℕ → ℕ → ℕ → ℕ
status_next at second third fourth =
    at + 10 + bit second 70 + 2 * (bit second 70 * bit fourth 78) + 4 * (bit second 78 * bit third 84) + 5 * bit second 84 + 6 * bit second 72
    + bit second 85

pub record StatusTold (text : List ℕ) (at second third fourth : ℕ) : Type 0 where
  pub is : field_at status_field text at ≡ got (status_index second third fourth) (status_next at second third fourth)
  pub few : status_index second third fourth < 7
  pub within : status_next at second third fourth ≤ length text

pub status_told : (text : List ℕ) (at : ℕ) → Got (field_at status_field text at) → StatusTold text at (get_or text (at + 8) 0) (get_or text (at + 9) 0) (get_or text (at + 10) 0)
status_told text at found = let line = word_line (bytes "status=") status_words text at found.is in go found.value line.0 line.1 found.is
  where
    Told : Type 0
    Told = StatusTold text at (get_or text (at + 8) 0) (get_or text (at + 9) 0) (get_or text (at + 10) 0)

    -- the fourth byte stands behind the line of `ON`, where it does not matter
    told :
        {k next : ℕ} (line : List ℕ) → Stands text at line next → k < 7 → T (leb 9 (length line)) →
        status_index (get_or line 8 0) (get_or (line ++ (10 ∷ [])) 9 0) (get_or text (at + 10) 0) ≡ k →
        status_next 0 (get_or line 8 0) (get_or (line ++ (10 ∷ [])) 9 0) (get_or text (at + 10) 0) ≡ length line + 1 →
        field_at status_field text at ≡ got k next → Told
    told {k} {next} line stands few long index size e =
        let enough : 9 ≤ length line = lit≤ long in
        let ends : status_next at (get_or line 8 0) (get_or (line ++ (10 ∷ [])) 9 0) (get_or text (at + 10) 0) ≡ next = omega (arith, size, stands.next_is) in
        rw (byte_at stands 8 (omega arith), ended_at stands 9 enough)
        (record { is = rw (index, ends) e; few = omega (arith, index); within = omega (arith, ends, stands_within stands) })

    go : {next : ℕ} (k : ℕ) → k < 7 → Stands text at (bytes "status=" ++ get_or status_words k []) next → field_at status_field text at ≡ got k next → Told
    go zero h s e = told {k = 0} (bytes "status=ON") s h tt (omega arith) (omega arith) e
    go (suc zero) h s e = told {k = 1} (bytes "status=OFF") s h tt (rw (ended_at s 10 (lit≤ tt))) (rw (ended_at s 10 (lit≤ tt))) e
    go (suc (suc zero)) h s e = told {k = 2} (bytes "status=OFFNS") s h tt (rw (ended_at s 10 (lit≤ tt))) (rw (ended_at s 10 (lit≤ tt))) e
    go (suc (suc (suc zero))) h s e = told {k = 3} (bytes "status=ONTEST") s h tt (omega arith) (omega arith) e
    go (suc (suc (suc (suc zero)))) h s e = told {k = 4} (bytes "status=STARTUP") s h tt (omega arith) (omega arith) e
    go (suc (suc (suc (suc (suc zero))))) h s e = told {k = 5} (bytes "status=SHUTDOWN") s h tt (omega arith) (omega arith) e
    go (suc (suc (suc (suc (suc (suc zero)))))) h s e = told {k = 6} (bytes "status=OUT") s h tt (omega arith) (omega arith) e
    go (suc (suc (suc (suc (suc (suc (suc k))))))) h s e = absurd (omega arith)
