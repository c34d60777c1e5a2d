-- How reading ends: refused as the snapshot is, by 14 where the rows are too few, or laid.
use Prim.Native.Nat.{ℕ, ◌≤◌, ◌<◌}
use native.Mathlib.Omega.{arith}
use mathlib.Core.List.{List}
use mathlib.Core.Path.{◌≡◌, sym, ap, ◌∙◌}
use lib.IntN.{ℤ, nat_abs}
use lib.ListN.{length}
use borrow.Author.Tests.{le-leb, lt-leb}
use Rattle.std.specs.Prelude.{Result, Ok, Err}
use Rattle.text_refusal.specs.Answer.{refusal}
use Rattle.text_refusal.specs.declared.refusal.Refusal.{Refusal}
use Rattle.pricing_snapshot.specs.Snapshot.{Entry, SnapshotAnswer, read, refused_by, snapshot_in, snapshot_sums}
use Rattle.pricing_snapshot.specs.declared.Snapshot.{Snapshot}
use Rattle.pricing_snapshot.proofs.Readings.{snapshot_read}
use Rattle.pricing_held.specs.Rows.{held_count}
use Rattle.pricing_held.proofs.Counts.{held_ids, held_numbers}
use Rattle.pricing_held_reading.specs.Reading.{reading_held, HeldRead}
use Rattle.pricing_held_reading.specs.internal.Laying.{SnapshotRoom, SnapshotLaid}

-- what the answer with the sums tells of the one with the resources
sums_refused : (a : SnapshotAnswer) {found : Refusal} → snapshot_sums a ≡ Err found → a ≡ refused_by found
sums_refused (refused_by other) e = cc
sums_refused (read h entries) e = cc

sums_read : (a : SnapshotAnswer) {said : Snapshot} → snapshot_sums a ≡ Ok said → (entries : List Entry) × (a ≡ read said.header entries)
sums_read (refused_by other) e = let z : ◌≡◌ {A = ℕ} 0 1 = cc in absurd (omega arith)
sums_read (read other entries) {said} e = (entries, go e)
  where
    go : {made : Snapshot} → ◌≡◌ {A = Result Snapshot Refusal} (Ok made) (Ok said) → read made.header entries ≡ read said.header entries
    go {made} f = let same : made ≡ said = cc in ap (λ (one : Snapshot). read one.header entries) same

module _ (text : List ℕ) (header : List ℤ) (ids : List ℕ) (numbers : List ℤ) {told : Result Snapshot Refusal} (is : told ≡ snapshot_sums (snapshot_in text)) where
  pub held_refused : {found : Refusal} → told ≡ Err found → HeldRead text header ids numbers header ids numbers (Err found)
  unfolding reading_held
  held_refused refused =
      let e = sums_refused (snapshot_in text) (sym is ∙ refused) in
      record { ends = rw e; header_is = rw e; ids_are = rw e; numbers_are = rw e }

  module _ {said : Snapshot} (accepted : told ≡ Ok said) {count : ℕ} (counted : count ≡ nat_abs said.header.count) where
    found : (entries : List Entry) × (snapshot_in text ≡ read said.header entries)
    found = sums_read (snapshot_in text) (sym is ∙ accepted)

    many : length found.0 ≡ count
    many = (snapshot_read text found.1).resources.counted ∙ sym counted

    pub rows_few : held_count ids numbers < count → HeldRead text header ids numbers header ids numbers (refusal 14 0)
    unfolding reading_held
    rows_few few =
        let e = found.1 in
        let short = lt-leb (length found.0) (held_count ids numbers) (omega (arith, many)) in
        record { ends = rw (e, short); header_is = rw (e, short); ids_are = rw (e, short); numbers_are = rw (e, short) }

    module _ (enough : count ≤ held_count ids numbers) where
      pub held_room : SnapshotRoom (snapshot_in text) count ids numbers
      held_room =
          record {
            header = said.header;
            entries = found.0;
            is = found.1;
            counted = counted;
            id_room = omega (arith, held_ids ids numbers);
            number_room = omega (arith, held_numbers ids numbers);
          }

      pub held_laid :
          {header' : List ℤ} {ids' : List ℕ} {numbers' : List ℤ} → SnapshotLaid (snapshot_in text) ids numbers header' ids' numbers' →
          HeldRead text header ids numbers header' ids' numbers' (Ok tt)
      unfolding reading_held
      held_laid laid =
          let e = found.1 in
          let fits = le-leb (length found.0) (held_count ids numbers) (omega (arith, many)) in
          record {
            ends = rw (e, fits);
            header_is = laid.header_is ∙ rw (e, fits);
            ids_are = laid.ids_are ∙ rw (e, fits);
            numbers_are = laid.numbers_are ∙ rw (e, fits);
          }
