-- Laws on the table of the ids above: empty, what the slot of an id tells, and with one id more.
use Prim.Native.Nat.{ℕ, zero, suc, ◌+◌, ◌-◌, ◌*◌, ◌/◌, ◌≤◌, ◌<◌}
use native.Mathlib.Omega.{arith}
use mathlib.Core.Path.{◌≡◌, refl, ap}
use mathlib.Core.Bool.{Bool, true, false, ◌||◌}
use mathlib.Core.List.{List, [], ◌∷◌}
use borrow.Author.Tests.{eqb-true, eqb-false, ltb-true, ltb-false}
use lib.Dec.{eqb, ltb}
use lib.ListN.{length, get_or, set, replicate, length-set, length-replicate}
use lib.Seq.{get_or-set_same, get_or-set_other}
use Rattle.text_word.specs.Word.{same_bytes}
use Rattle.text_word.proofs.Words.{same_self, same_is}
use Rattle.text_id_table.specs.Ids.{id_at, stands_in}
use Rattle.text_id_table.specs.Table.{bucket_of, slot_of}
use Rattle.text_id_table.specs.internal.Kept.{id_in, Held, IdTable, RoomForOne, Room}
use Rattle.text_id_table.proofs.Ids.{stands_none, stands_more}
use Rattle.text_id_table.proofs.Slots.{SlotIs, bucket_below, slot_is}

-- ---- a table with no ids

none_filled : (long slot : ℕ) → ◌≡◌ {A = ℕ} (get_or (replicate long 0) slot 0) 0
none_filled zero slot = refl
none_filled (suc long) zero = refl
none_filled (suc long) (suc slot) = none_filled long slot

pub table_none : (mark : ℕ) (bytes : List ℕ) (long : ℕ) → 2 ≤ long → IdTable mark bytes (replicate long 0) []
table_none mark bytes long h =
    record {
      buckets = simp length-replicate (omega arith);
      known = λ slot some. absurd (omega (arith, none_filled long slot));
      held = λ id e. let none = stands_none id in let z : ◌≡◌ {A = ℕ} 0 1 = cc in absurd (omega arith);
      empty = λ slot far. none_filled long slot;
    }

-- ---- room for as many ids as are due

pub room : (count most long : ℕ) → count ≤ most → most ≤ 4096 → 2 * most ≤ long → Room count (replicate long 0)
room count most long h few l = record { few = omega arith; slots = simp length-replicate (omega arith) }

pub table_room :
    {mark : ℕ} {bytes starts : List ℕ} {above : List (List ℕ)} {count : ℕ} →
    IdTable mark bytes starts above → Room count starts → length above < count → RoomForOne starts above
table_room table room more = omega (arith, room.slots)

-- ---- the slot of an id in the table of those above, which has room for one more

or_right : (a b : Bool) → b ≡ true → a || b ≡ true
or_right true b e = refl
or_right false b e = e

module _
    {mark : ℕ} {bytes starts : List ℕ} {above : List (List ℕ)} (table : IdTable mark bytes starts above) (one : RoomForOne starts above)
    (id : List ℕ) {slot : ℕ} (is : slot ≡ slot_of mark bytes starts id) where
  its : SlotIs mark bytes starts id (bucket_of starts id) slot
  its = rw is (slot_is mark bytes starts id table.buckets)

  -- the slots from as many on as there are buckets and ids are empty, so the slot is none of those behind the first of them
  slot_low : slot ≤ length starts / 2 + length above
  slot_low = go (ltb (length starts / 2 + length above) slot) refl
    where
      go : (b : Bool) → ltb (length starts / 2 + length above) slot ≡ b → slot ≤ length starts / 2 + length above
      go true p =
          let far = ltb-true (length starts / 2 + length above) slot p in
          let some = its.filled (length starts / 2 + length above) (omega (arith, bucket_below starts id table.buckets)) far in
          let none = table.empty (length starts / 2 + length above) (omega arith) in
          absurd (omega arith)
      go false p = ltb-false (length starts / 2 + length above) slot p

  pub slot_within : slot < length starts
  slot_within = omega (arith, slot_low)

  -- an id whose slot is filled stands above
  pub slot_filled : 0 < get_or starts slot 0 → stands_in id above ≡ true
  slot_filled some = rw (same_is id (id_in mark bytes starts slot) (its.same some)) (table.known slot some)

  module _ (none : get_or starts slot 0 ≤ 0) where
    -- any other does not
    pub slot_empty : stands_in id above ≡ false
    slot_empty = go (stands_in id above) refl
      where
        held : Held mark bytes starts id → ⊥
        held h = at (ltb h.slot slot) refl
          where
            at : (b : Bool) → ltb h.slot slot ≡ b → ⊥
            at true p =
                let other = its.others h.slot h.behind (ltb-true h.slot slot p) in
                let same : same_bytes id (id_in mark bytes starts h.slot) ≡ true = rw h.same (same_self id) in
                let z : ◌≡◌ {A = ℕ} 0 1 = cc in
                omega arith
            at false p = let some = h.filled slot its.behind (ltb-false h.slot slot p) in omega arith

        go : (b : Bool) → stands_in id above ≡ b → b ≡ false
        go true e = absurd (held (table.held id e))
        go false e = refl

    -- it is kept there
    module _ (start : ℕ) (stands : id_at mark bytes start ≡ id) where
      abbrev starts' : List ℕ
      starts' = set starts slot (start + 1)

      here : get_or starts' slot 0 ≡ start + 1
      here = get_or-set_same starts slot (start + 1) 0 slot_within

      elsewhere : (k : ℕ) → (k ≡ slot → ⊥) → get_or starts' k 0 ≡ get_or starts k 0
      elsewhere k d = get_or-set_other starts slot k (start + 1) 0 d

      long : length starts' ≡ length starts
      long = length-set starts slot (start + 1)

      here_is : id_in mark bytes starts' slot ≡ id
      here_is = let back : get_or starts' slot 0 - 1 ≡ start = omega (arith, here) in rw back stands

      -- what was filled is filled
      apart : (k : ℕ) → 0 < get_or starts k 0 → k ≡ slot → ⊥
      apart k h e = omega (arith, ap (λ (j : ℕ). get_or starts j 0) e)

      still : (k : ℕ) → 0 < get_or starts k 0 → 0 < get_or starts' k 0
      still k h = rw (elsewhere k (apart k h)) h

      -- the new id and the earlier ones are found
      new_held : Held mark bytes starts' id
      new_held =
          record {
            slot = slot;
            filled = λ k from before_i. fill k (rw long at from) before_i (eqb k slot) refl;
            behind = rw long its.behind;
            same = here_is;
          }
        where
          fill : (k : ℕ) → bucket_of starts id ≤ k → k ≤ slot → (b : Bool) → eqb k slot ≡ b → 0 < get_or starts' k 0
          fill k from before_i true p = rw (eqb-true k slot p, here) (omega arith)
          fill k from before_i false p = let d = eqb-false k slot p in still k (its.filled k from (omega arith))

      old_held : {other : List ℕ} → Held mark bytes starts other → Held mark bytes starts' other
      old_held h =
          record {
            slot = h.slot;
            filled = λ k from before_i. still k (h.filled k (rw long at from) before_i);
            behind = rw long h.behind;
            same = rw (elsewhere h.slot (apart h.slot (h.filled h.slot h.behind (omega arith)))) h.same;
          }

      -- and what a slot leads to stands among them
      new_known : (k : ℕ) → 0 < get_or starts' k 0 → stands_in (id_in mark bytes starts' k) (id ∷ above) ≡ true
      new_known k = rw (stands_more (id_in mark bytes starts' k) id above) (go (eqb k slot) refl)
        where
          go : (b : Bool) → eqb k slot ≡ b → 0 < get_or starts' k 0 → same_bytes (id_in mark bytes starts' k) id || stands_in (id_in mark bytes starts' k) above ≡ true
          go true p = rw (eqb-true k slot p, here_is, same_self id) (λ some. refl)
          go false p = rw (elsewhere k (eqb-false k slot p)) (λ some. or_right (same_bytes (id_in mark bytes starts k) id) (stands_in (id_in mark bytes starts k) above) (table.known k some))

      pub table_more : IdTable mark bytes starts' (id ∷ above)
      table_more =
          record {
            buckets = rw long table.buckets;
            known = new_known;
            held = λ other e. held other (same_bytes other id) refl (rw (stands_more other id above) at e);
            empty = λ k far. rw (elsewhere k (λ e. omega (arith, slot_low, long))) (table.empty k (omega (arith, long)));
          }
        where
          held : (other : List ℕ) (b : Bool) → same_bytes other id ≡ b → b || stands_in other above ≡ true → Held mark bytes starts' other
          held other true p e = rw (same_is other id p) new_held
          held other false p e = old_held (table.held other e)
