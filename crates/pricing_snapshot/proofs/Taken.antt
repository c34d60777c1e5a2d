-- Laws on taking in an id: a refused line, an id that stands above, and a new one.
use Prim.Native.Nat.{ℕ, ◌+◌, ◌≤◌, ◌<◌}
use native.Mathlib.Omega.{arith}
use mathlib.Core.Path.{◌≡◌, ap, sym, ◌∙◌}
use mathlib.Core.Bool.{Bool, true, false}
use mathlib.Core.List.{List}
use lib.ListN.{get_or, set}
use Rattle.text_refusal.specs.Bytes.{bytes}
use Rattle.text_refusal.specs.Refusal.{fault}
use Rattle.text_refusal.specs.declared.refusal.Fault.{Fault}
use Rattle.text_line.specs.Line.{value_at, value_fault}
use Rattle.text_line.specs.Field.{next_at}
use Rattle.text_id.specs.Id.{is_id, judged_id}
use Rattle.std.specs.Prelude.{Ok, Err}
use Rattle.text_id.proofs.Ids.{id_got, id_is, id_refused}
use Rattle.text_id_table.specs.Ids.{id_at}
use Rattle.text_id_table.specs.Table.{slot_of}
use Rattle.text_id_table.proofs.Ids.{id_in_line}
use Rattle.text_id_table.proofs.Table.{slot_filled, slot_empty, table_more}
use Rattle.pricing_snapshot.specs.internal.Ids.{IdKept}

module _ (text : List ℕ) (at : ℕ) {value : List ℕ} {found : Bool} (same : value ≡ value_at (bytes "id=") text at) (is : found ≡ is_id value) where
  pub taken_refused : {starts starts' : List ℕ} {told : Fault} → found ≡ false → told ≡ value_fault (bytes "id=") text at 6 → IdKept text at starts starts' (Err told)
  taken_refused malformed told_is =
      record {
        answers = λ left. rw (told_is, ← id_refused (bytes "id=") text at same is malformed);
        table = λ left next e. let z : ◌≡◌ {A = ℕ} 0 1 = cc in absurd (omega arith);
      }

  id_stands : found ≡ true → id_at 10 text (at + 3) ≡ value
  id_stands valid = rw same (id_in_line (bytes "id=") text at (rw same at (id_is (bytes "id=") value value (ap (judged_id value) (sym is ∙ valid))).1))

  module _ {starts : List ℕ} {slot : ℕ} (valid : found ≡ true) (its : slot ≡ slot_of 10 text starts value) where
    pub taken_repeated : {starts' : List ℕ} → 0 < get_or starts slot 0 → IdKept text at starts starts' (Err (fault 8 at))
    taken_repeated some =
        record {
          answers = λ left. rw (← id_got (bytes "id=") text at same is valid, slot_filled left.table left.one value its some);
          table = λ left next e. let z : ◌≡◌ {A = ℕ} 0 1 = cc in absurd (omega arith);
        }

    pub taken_new : {next : ℕ} → get_or starts slot 0 ≤ 0 → next ≡ next_at at (bytes "id=") value → IdKept text at starts (set starts slot (at + 4)) (Ok next)
    taken_new none next_is =
        let one_more : at + 4 ≡ at + 3 + 1 = omega arith in
        record {
          answers = λ left. rw (← same, next_is, ← id_got (bytes "id=") text at same is valid, slot_empty left.table left.one value its none);
          table = λ left next e. rw (← same, one_more) (table_more left.table left.one value its none (at + 3) (id_stands valid));
        }
