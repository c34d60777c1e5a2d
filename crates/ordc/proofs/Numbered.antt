-- No refusal has the number 0, by which hosts know an accepted call.
use Prim.Native.Nat.{ℕ, ◌≤◌}
use native.Mathlib.Omega.{arith}
use mathlib.Core.Bool.{Bool, true, false, cond}
use mathlib.Core.List.{List}
use mathlib.Core.Path.{◌≡◌, refl}
use borrow.Author.Tests.{ne_eqb}
use lib.Dec.{eqb, leb}
use lib.IntN.{ℤ}
use lib.ListN.{length}
use Rattle.std.specs.Prelude.{Ok, Err}
use Rattle.text_refusal.specs.Answer.{Answer, answer_of, refusal, followed_by}
use Rattle.text_schema.specs.Checked.{first_refused}
use Rattle.text_schema.proofs.Checked.{first_numbered}
use Rattle.curve_text.specs.CurveText.{read_curves, writing_curves, writing_answer}
use Rattle.curve_text.specs.Length.{curves_length}
use Rattle.curve_page.specs.Page.{writing_page}
use Rattle.curve_settling.specs.Settle.{settled}
use Rattle.curve_booking.specs.Booking.{booked}
use Rattle.curve.proofs.Numbered.{AnswerNumbered, booked_numbered, settled_numbered, AnswerListed, curves_listed, length_numbered, writing_numbered, page_numbered}
use Rattle.pricing.specs.Pricing.{priced}
use Rattle.pricing.proofs.Numbered.{SnapshotListed, snapshot_listed, PricingListed, pricing_listed}
use Rattle.pricing_resource.specs.Suspect.{suspect_line}
use Rattle.pricing_snapshot.specs.Snapshot.{resources_of, SnapshotAnswer, read, refused_by, snapshot_in}
use Rattle.pricing_held.specs.Rows.{held_count, contents_held}
use Rattle.pricing_held.specs.Lines.{held_lines, suspect_answer, held_answer, held_text}
use Rattle.pricing_held.proofs.Definitions.{held_answer_is}
use Rattle.pricing_held_reading.specs.Reading.{reading_answer}
use Rattle.pricing_held_reading.proofs.Definitions.{reading_held_is}
use Rattle.pricing_held_text.proofs.Cases.{writing_held_is}
use Rattle.pricing_adder.specs.Price.{Pricing}
use Rattle.ordc.specs.Price.{pricing_answer}
use Rattle.ordc.specs.Promises.{Numbered, RefusalsAreNumbered}

not_none : (n : ℕ) → 1 ≤ n → eqb n 0 ≡ false
not_none n some = ne_eqb n 0 (λ e. omega arith)

numbered : (found : Answer) → AnswerNumbered found → Numbered found
numbered (Ok accepted) n = tt
numbered (Err found) n = not_none found.number n.0

listed : (text : List ℕ) (found : Answer) → AnswerListed text found → Numbered found
listed text (Ok accepted) n = tt
listed text (Err found) n = not_none found.number n.least

listed_pricing : (text : List ℕ) (found : Pricing) → PricingListed text found → Numbered (pricing_answer found)
listed_pricing text (Ok prices) n = tt
listed_pricing text (Err found) n = not_none found.number n.least

-- nothing, or too little room
room_numbered : (b : Bool) → Numbered (cond b (Ok tt) (refusal 14 0))
room_numbered true = tt
room_numbered false = refl

listed_reading : (text : List ℕ) (rows : ℕ) (found : SnapshotAnswer) → SnapshotListed text found → Numbered (reading_answer rows found)
listed_reading text rows (refused_by found) n = not_none found.number n.least
listed_reading text rows (read h entries) n = room_numbered (leb (length entries) rows)

-- the first line that a mark turns back, or none
suspect_numbered : (b : Bool) (line : ℕ) → Numbered (cond b (Ok tt) (refusal 15 line))
suspect_numbered true line = tt
suspect_numbered false line = refl

held_numbered : (header : List ℤ) (ids : List ℕ) (numbers : List ℤ) → Numbered (held_answer header ids numbers)
held_numbered header ids numbers = rw (held_answer_is header ids numbers) (go (first_refused 1 (held_lines header ids numbers)) refl)
  where
    line : ℕ
    line = suspect_line (resources_of (contents_held header ids numbers).entries)

    go : (found : Answer) → first_refused 1 (held_lines header ids numbers) ≡ found → Numbered (followed_by found (suspect_answer line))
    go (Ok accepted) e = suspect_numbered (eqb line 0) line
    go (Err found) e = first_numbered 1 (held_lines header ids numbers) e

followed_numbered : (found : Answer) (room : Bool) → Numbered found → Numbered (followed_by found (cond room (Ok tt) (refusal 14 0)))
followed_numbered (Ok accepted) room n = room_numbered room
followed_numbered (Err found) room n = n

pub refusals_are_numbered : RefusalsAreNumbered
refusals_are_numbered =
    record {
      booking = λ history text. numbered (answer_of (booked history text)) (booked_numbered history text);
      settling = λ history voll floor. numbered (answer_of (settled history voll floor)) (settled_numbered history voll floor);
      reading = λ text. listed text (answer_of (read_curves text)) (curves_listed text);
      measuring_curves = λ curves. numbered (writing_answer (curves_length curves)) (length_numbered curves);
      writing = λ curves buffer. numbered (writing_answer (writing_curves curves buffer)) (writing_numbered curves buffer);
      page = λ curves buffer. numbered (writing_page curves buffer) (page_numbered curves buffer);
      pricing = λ curves text. listed_pricing text (priced curves text) (pricing_listed curves text);
      reading_snapshot =
          λ text ids numbers. rw (reading_held_is text ids numbers) (listed_reading text (held_count ids numbers) (snapshot_in text) (snapshot_listed text));
      snapshot_length = held_numbered;
      writing_snapshot =
          λ header ids numbers buffer. rw (writing_held_is header ids numbers buffer)
          (followed_numbered (held_answer header ids numbers) (leb (length (held_text header ids numbers)) (length buffer)) (held_numbered header ids numbers));
    }
