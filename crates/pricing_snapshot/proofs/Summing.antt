-- Laws on the resources one after the other: the tally so far and the resources that are left make up the whole.
use Prim.Native.Nat.{ℕ, suc, ◌+◌, ◌-◌, ◌*◌, ◌≤◌, ◌<◌}
use native.Mathlib.Omega.{arith}
use mathlib.Core.Path.{◌≡◌, refl, ap, sym, ◌∙◌}
use mathlib.Core.List.{List, [], ◌∷◌}
use lib.ListN.{length}
use Rattle.std.specs.Prelude.{Result, Ok, Err}
use Rattle.text_refusal.specs.declared.refusal.Fault.{Fault}
use Rattle.text_line.specs.Field.{LineAnswer, got, refused}
use Rattle.text_refusal.specs.Bytes.{bytes}
use Rattle.text_line.specs.Line.{value_at}
use Rattle.text_id_table.specs.internal.Kept.{IdTable, Room}
use Rattle.text_id_table.proofs.Table.{table_room}
use Rattle.pricing_resource_text.specs.Resource.{after_answer, resource_at}
use Rattle.pricing_sums.specs.internal.Range.{SumsWithin}
use Rattle.pricing_snapshot.specs.Snapshot.{Entry, new_id_at, with_entry, resources_at, resources_of}
use Rattle.pricing_snapshot.specs.internal.Ids.{RoomLeft, IdKept}
use Rattle.pricing_snapshot.specs.internal.Tallied.{no_tally, tally_with, tallied}
use Rattle.pricing_resource.specs.declared.Resource.{Resource}
use Rattle.pricing_snapshot.specs.declared.resources.Tally.{Tally}
use Rattle.pricing_sums.proofs.Parts.{part-within, plus-within, none_within, within_more}
use Rattle.pricing_resource_text.proofs.Readings.{resource_read}
use Rattle.pricing_resource.proofs.Suspects.{count_few}
use Rattle.pricing_snapshot.proofs.Tallies.{tally_with_lem, tally_none, tally_more}

-- one more resource is taken into the tally, and then the others
tallied_more :
    (tally : Tally) (id : List ℕ) (one : Resource) (a : LineAnswer (List Entry)) →
    tallied tally (after_answer a (λ others last. got (with_entry id one others) last)) ≡ tallied (tally_with tally one) a
tallied_more tally id one (got others last) = rw (tally_more tally one (resources_of others))
tallied_more tally id one (refused found) = refl

-- ---- the resources under way

-- so many of them are left, due at a position: the tally of the others, and their ids in the table
pub record Summing (text : List ℕ) (at count : ℕ) (starts₀ starts : List ℕ) (tally : Tally) (next left : ℕ) : Type 0 where
  pub due : left ≤ count
  pub room : Room count starts
  pub long : length starts ≡ length starts₀
  pub above : List (List ℕ)
  pub counted : length above + left ≡ count
  pub table : IdTable 10 text starts above
  pub within : SumsWithin (length above) tally.sums
  pub lines : tally.lines ≤ 8 + 9 * length above
  pub rest : tallied no_tally (resources_at resource_at count [] text at) ≡ tallied tally (resources_at resource_at left above text next)

pub summing_start : (text : List ℕ) (at count : ℕ) {starts : List ℕ} → IdTable 10 text starts [] → Room count starts → Summing text at count starts starts no_tally at count
summing_start text at count table room =
    record {
      due = omega arith;
      room = room;
      long = refl;
      above = [];
      counted = omega arith;
      table = table;
      within = none_within;
      lines = omega arith;
      rest = refl;
    }

module _
    {text : List ℕ} {at count : ℕ} {starts₀ starts : List ℕ} {tally : Tally} {next left : ℕ} (so_far : Summing text at count starts₀ starts tally next left) where
  pub summing_over : left ≤ 0 → got tally next ≡ tallied no_tally (resources_at resource_at count [] text at)
  unfolding resources_at
  summing_over h = let z : left ≡ 0 = omega arith in rw (so_far.rest, z, tally_none)

  module _ (more : 0 < left) where
    -- there is room for one more id
    abbrev pub summing_room : RoomLeft text starts
    summing_room = record { above = so_far.above; table = so_far.table; one = table_room so_far.table so_far.room (omega (arith, so_far.counted)) }

    -- and for what it adds
    pub summing_within : SumsWithin 4095 tally.sums
    summing_within = let few = so_far.room.few in within_more (omega arith) so_far.within

    pub summing_lines : tally.lines ≤ 36863
    summing_lines = omega (arith, so_far.room.few, so_far.lines)

    one_due :
        tallied no_tally (resources_at resource_at count [] text at) ≡
        tallied tally (after_answer (new_id_at so_far.above text next)
        (λ id after. after_answer (resource_at text after)
        (λ one last. after_answer (resources_at resource_at (left - 1) (id ∷ so_far.above) text last)
        (λ others end. got (with_entry id one others) end))))
    unfolding resources_at
    one_due = let e : left ≡ suc (left - 1) = omega arith in so_far.rest ∙ ap (λ (k : ℕ). tallied tally (resources_at resource_at k so_far.above text next)) e

    module _ {starts' : List ℕ} {found : Result ℕ Fault} (kept : IdKept text next starts starts' found) where
      -- the id's line is refused, or the id stands above
      pub summing_no_id : {told : Fault} → found ≡ Err told → refused told ≡ tallied no_tally (resources_at resource_at count [] text at)
      summing_no_id is = rw (one_due, ← kept.answers summing_room, is)

      module _ {after : ℕ} (id_told : found ≡ Ok after) where
        resource_due :
            tallied no_tally (resources_at resource_at count [] text at) ≡
            tallied tally (after_answer (resource_at text after)
            (λ one last. after_answer (resources_at resource_at (left - 1) (value_at (bytes "id=") text next ∷ so_far.above) text last)
            (λ others end'. got (with_entry (value_at (bytes "id=") text next) one others) end')))
        resource_due = rw (one_due, ← kept.answers summing_room, id_told)

        -- a line of the resource is refused
        pub summing_refused : {told : Fault} → refused told ≡ resource_at text after → refused told ≡ tallied no_tally (resources_at resource_at count [] text at)
        summing_refused is = rw (resource_due, ← is)

        -- one more resource is read
        pub summing_next :
            {one : Resource} {tally' : Tally} {last : ℕ} → got one last ≡ resource_at text after → tally' ≡ tally_with tally one → length starts' ≡ length starts →
            Summing text at count starts₀ starts' tally' last (left - 1)
        summing_next {one} {tally'} {last} is s l =
            record {
              due = omega arith;
              room = record { few = so_far.room.few; slots = omega (arith, l, so_far.room.slots) };
              long = l ∙ so_far.long;
              above = value_at (bytes "id=") text next ∷ so_far.above;
              counted = omega (arith, so_far.counted);
              table = kept.table summing_room after id_told;
              within = rw (s, tally_with_lem tally one) (within_more (omega arith) (plus-within (length so_far.above) 1 so_far.within (part-within one (resource_read text after (sym is)))));
              lines = rw (s, tally_with_lem tally one) (omega (arith, so_far.lines, count_few one));
              rest =
                  resource_due
                  ∙ rw (← is, s)
                  (tallied_more tally (value_at (bytes "id=") text next) one (resources_at resource_at (left - 1) (value_at (bytes "id=") text next ∷ so_far.above) text last));
            }
