-- Laws on the slot of an id: the hash of an id, and the slots one after the other.
use Prim.Native.Nat.{ℕ, zero, suc, ◌+◌, ◌-◌, ◌*◌, ◌/◌, ◌%◌, ◌≤◌, ◌<◌}
use native.Mathlib.Numerals.{add-one}
use native.Mathlib.Nat.{mod-lt}
use native.Mathlib.Omega.{arith}
use mathlib.Core.Path.{◌≡◌, refl, sym, ◌∙◌}
use mathlib.Core.Bool.{Bool, true, false}
use mathlib.Core.List.{List, [], ◌∷◌}
use borrow.Author.Tests.{eq-eqb, ne_eqb, eqb-true, eqb-false}
use lib.Arith.{digits_mod}
use lib.Dec.{eqb}
use lib.ListN.{length, take, drop, get_or, drop_of_length-le, get_or-eq_default}
use lib.Seq.{drop-cons, take_all}
use Rattle.text_word.specs.Word.{same_bytes}
use Rattle.text_id_table.specs.Table.{hash_from, hash_of, bucket_of, slot_from, slot_of}
use Rattle.text_id_table.specs.internal.Kept.{id_in}

-- ---- the hash of an id

-- two steps at once
two_steps : (hash a b : ℕ) → (hash * 1640493009 + (a * 1640493009 + b * 40503)) % 4294967296 ≡ ((hash + a) * 40503 % 4294967296 + b) * 40503 % 4294967296
two_steps hash a b =
    let first : ℕ = (hash + a) * 40503 in
    let second : ℕ = (first % 4294967296 + b) * 40503 in
    let turns : ℕ = first / 4294967296 * 40503 + second / 4294967296 in
    let whole : hash * 1640493009 + (a * 1640493009 + b * 40503) ≡ turns * 4294967296 + second % 4294967296 = omega arith in
    rw whole (digits_mod turns (omega arith))

pub hash_two :
    (hash : ℕ) (s : List ℕ) → 2 ≤ length s →
    hash_from ((hash * 1640493009 + (get_or s 0 0 * 1640493009 + get_or s 1 0 * 40503)) % 4294967296) (take (length s - 2) (drop 2 s)) ≡ hash_from hash s
unfolding hash_from
hash_two hash [] h = absurd (omega arith)
hash_two hash (first ∷ []) h = absurd (omega arith)
hash_two hash (first ∷ second ∷ rest) h = rw (take_all (suc (suc (length rest)) - 2) rest (omega arith), two_steps hash first second)

-- the last byte, and none
pub hash_last : (hash : ℕ) (s : List ℕ) → length s ≡ 1 → (hash + get_or s 0 0) * 40503 % 4294967296 ≡ hash_from hash s
unfolding hash_from
hash_last hash [] h = absurd (omega arith)
hash_last hash (byte ∷ []) h = refl
hash_last hash (byte ∷ other ∷ rest) h = absurd (omega arith)

pub hash_none : (hash : ℕ) (s : List ℕ) → length s < 1 → hash ≡ hash_from hash s
unfolding hash_from
hash_none hash [] h = refl
hash_none hash (byte ∷ rest) h = absurd (omega arith)

-- ---- the slots from one on

-- one slot: past the last, empty, of the same id, of another
module _ (mark : ℕ) (bytes starts id : List ℕ) (slot : ℕ) where
  walk_over : length starts ≤ slot → slot_from mark bytes id slot (drop slot starts) ≡ slot
  unfolding slot_from
  walk_over h = rw (drop_of_length-le starts {i = slot} h)

  module _ (within : slot < length starts) where
    walk_empty : get_or starts slot 0 ≡ 0 → slot_from mark bytes id slot (drop slot starts) ≡ slot
    unfolding slot_from
    walk_empty none = rw (drop-cons starts slot 0 within, eq-eqb (get_or starts slot 0) 0 none)

    module _ (some : get_or starts slot 0 ≡ 0 → ⊥) where
      walk_same : same_bytes id (id_in mark bytes starts slot) ≡ true → slot_from mark bytes id slot (drop slot starts) ≡ slot
      unfolding slot_from
      walk_same same = rw (drop-cons starts slot 0 within, ne_eqb (get_or starts slot 0) 0 some, same)

      walk_on : same_bytes id (id_in mark bytes starts slot) ≡ false → slot_from mark bytes id slot (drop slot starts) ≡ slot_from mark bytes id (suc slot) (drop (suc slot) starts)
      unfolding slot_from
      walk_on other = rw (drop-cons starts slot 0 within, ne_eqb (get_or starts slot 0) 0 some, other)

pub bucket_below : (starts id : List ℕ) → 0 < length starts / 2 → bucket_of starts id < length starts / 2
bucket_below starts id some = mod-lt (hash_of id) some

-- ---- where the walk starts

module _ (mark : ℕ) (bytes starts id : List ℕ) where
  pub slot_past : length starts / 2 ≡ 0 → length starts ≡ slot_of mark bytes starts id
  unfolding slot_of
  slot_past none = rw (eq-eqb (length starts / 2) 0 none)

  walk_start : 0 < length starts / 2 → slot_of mark bytes starts id ≡ slot_from mark bytes id (bucket_of starts id) (drop (bucket_of starts id) starts)
  unfolding slot_of
  walk_start some = rw (ne_eqb (length starts / 2) 0 (λ none. omega arith))

-- ---- the walk as the code goes

pub record SlotFrom (mark : ℕ) (bytes starts id : List ℕ) (slot : ℕ) : Type 0 where
  pub within : slot ≤ length starts
  pub rest : slot_of mark bytes starts id ≡ slot_from mark bytes id slot (drop slot starts)

pub slot_start : (mark : ℕ) (bytes starts id : List ℕ) → 0 < length starts / 2 → SlotFrom mark bytes starts id (bucket_of starts id)
slot_start mark bytes starts id some = record { within = omega (arith, bucket_below starts id some); rest = walk_start mark bytes starts id some }

module _ {mark : ℕ} {bytes starts id : List ℕ} {slot : ℕ} (from : SlotFrom mark bytes starts id slot) where
  pub slot_over : length starts ≤ slot → slot ≡ slot_of mark bytes starts id
  slot_over h = sym (from.rest ∙ walk_over mark bytes starts id slot h)

  module _ (within : slot < length starts) where
    pub slot_none : get_or starts slot 0 ≡ 0 → slot ≡ slot_of mark bytes starts id
    slot_none none = sym (from.rest ∙ walk_empty mark bytes starts id slot within none)

    module _ (some : get_or starts slot 0 ≡ 0 → ⊥) where
      pub slot_same : same_bytes id (id_in mark bytes starts slot) ≡ true → slot ≡ slot_of mark bytes starts id
      slot_same same = sym (from.rest ∙ walk_same mark bytes starts id slot within some same)

      pub slot_more : same_bytes id (id_in mark bytes starts slot) ≡ false → SlotFrom mark bytes starts id (slot + 1)
      slot_more other = record { within = omega arith; rest = rw add-one (from.rest ∙ walk_on mark bytes starts id slot within some other) }

-- ---- what the walk from a slot on finds

-- the slots passed are filled with other ids; the slot found is empty, past the last, or leads to the same id
pub record SlotIs (mark : ℕ) (bytes starts id : List ℕ) (from slot : ℕ) : Type 0 where
  pub behind : from ≤ slot
  pub within : slot ≤ length starts
  pub filled : (k : ℕ) → from ≤ k → k < slot → 0 < get_or starts k 0
  pub others : (k : ℕ) → from ≤ k → k < slot → same_bytes id (id_in mark bytes starts k) ≡ false
  pub same : 0 < get_or starts slot 0 → same_bytes id (id_in mark bytes starts slot) ≡ true

module _ (mark : ℕ) (bytes starts id : List ℕ) where
  here : (slot : ℕ) → slot ≤ length starts → (0 < get_or starts slot 0 → same_bytes id (id_in mark bytes starts slot) ≡ true) → SlotIs mark bytes starts id slot slot
  here slot within same =
      record {
        behind = omega arith;
        within = within;
        filled = λ k from up_to_lem. absurd (omega arith);
        others = λ k from up_to_lem. absurd (omega arith);
        same = same;
      }

  further : (slot : ℕ) {found : ℕ} → 0 < get_or starts slot 0 → same_bytes id (id_in mark bytes starts slot) ≡ false → SlotIs mark bytes starts id (suc slot) found → SlotIs mark bytes starts id slot found
  further slot {found} some other next =
      record {
        behind = omega (arith, next.behind);
        within = next.within;
        filled = λ k from up_to_lem. fill k from up_to_lem (eqb k slot) refl;
        others = λ k from up_to_lem. differ k from up_to_lem (eqb k slot) refl;
        same = next.same;
      }
    where
      fill : (k : ℕ) → slot ≤ k → k < found → (b : Bool) → eqb k slot ≡ b → 0 < get_or starts k 0
      fill k from up_to_lem true p = rw (eqb-true k slot p) some
      fill k from up_to_lem false p = let d = eqb-false k slot p in next.filled k (omega arith) up_to_lem

      differ : (k : ℕ) → slot ≤ k → k < found → (b : Bool) → eqb k slot ≡ b → same_bytes id (id_in mark bytes starts k) ≡ false
      differ k from up_to_lem true p = rw (eqb-true k slot p) other
      differ k from up_to_lem false p = let d = eqb-false k slot p in next.others k (omega arith) up_to_lem

  walk : (left slot : ℕ) → slot + left ≡ length starts → SlotIs mark bytes starts id slot (slot_from mark bytes id slot (drop slot starts))
  walk zero slot e =
      let past : length starts ≤ slot = omega arith in
      rw (walk_over mark bytes starts id slot past) (here slot (omega arith) (λ some. let none = get_or-eq_default starts 0 {n = slot} past in absurd (omega arith)))
  walk (suc left) slot e = go (eqb (get_or starts slot 0) 0) refl (same_bytes id (id_in mark bytes starts slot)) refl (walk left (suc slot) (omega arith))
    where
      within : slot < length starts
      within = omega arith

      go :
          (none : Bool) → eqb (get_or starts slot 0) 0 ≡ none → (same : Bool) → same_bytes id (id_in mark bytes starts slot) ≡ same →
          SlotIs mark bytes starts id (suc slot) (slot_from mark bytes id (suc slot) (drop (suc slot) starts)) →
          SlotIs mark bytes starts id slot (slot_from mark bytes id slot (drop slot starts))
      go true p same q again =
          let none = eqb-true (get_or starts slot 0) 0 p in
          rw (walk_empty mark bytes starts id slot within none) (here slot (omega arith) (λ some. absurd (omega arith)))
      go false p true q again = rw (walk_same mark bytes starts id slot within (eqb-false (get_or starts slot 0) 0 p) q) (here slot (omega arith) (λ some. q))
      go false p false q again =
          let some = eqb-false (get_or starts slot 0) 0 p in
          rw (walk_on mark bytes starts id slot within some q) (further slot (omega arith) q again)

  pub slot_is : 0 < length starts / 2 → SlotIs mark bytes starts id (bucket_of starts id) (slot_of mark bytes starts id)
  slot_is some =
      let low = bucket_below starts id some in
      rw (walk_start mark bytes starts id some) (walk (length starts - bucket_of starts id) (bucket_of starts id) (omega arith))
