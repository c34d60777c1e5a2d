-- Demand 1 for the operations on history and curves: each test is made in checking order, and each outcome is one case of the list.
use Prim.Native.Nat.{ℕ, zero, suc, ◌≤◌, ◌<◌}
use native.Mathlib.Omega.{arith}
use mathlib.Core.Bool.{Bool, true, false}
use mathlib.Core.List.{List}
use mathlib.Core.Logic.{◌⊎◌, inl, inr}
use mathlib.Core.Path.{◌≡◌, refl, sym, ap, ap₂, ◌∙◌}
use borrow.Author.Tests.{ltb-true, ltb-false, leb-true, leb-false, eqb-true, eqb-false}
use lib.Dec.{ltb, leb, eqb}
use lib.IntN.{ℤ, nat_abs}
use lib.ListN.{length}
use Rattle.std.specs.Prelude.{Result, Ok, Err}
use Rattle.text_refusal.specs.declared.refusal.Fault.{Fault}
use Rattle.text_refusal.specs.Answer.{Answer}
use Rattle.text_refusal.specs.declared.refusal.Refusal.{Refusal}
use Rattle.curve_set.specs.Curves.{voll_in_range, floor_in_range, curves_in_range}
use Rattle.curve_set.specs.declared.CurveSet.{CurveSet}
use Rattle.curve_text.specs.CurveText.{curve_lines, curve_text, read_curves, writing_curves, written_buffer, writing_answer, written_length}
use Rattle.curve_text.specs.Length.{curves_length}
use Rattle.curve_text.proofs.CurveCases as curve-cases
use Rattle.curve_text.proofs.Lengths as lengths
use Rattle.curve_page.specs.Page.{writing_page, page_buffer}
use Rattle.curve_page.proofs.PageCases as page-cases
use Rattle.curve_hour.specs.Hour.{HourAnswer, hour_in, error_answer, own_lines, run_lines}
use Rattle.curve_hour.specs.declared.read.HourlyError.{HourlyError}
use Rattle.curve_hour.proofs.HourCases as hour-cases
use Rattle.curve_record.specs.Record.{group_at}
use Rattle.curve_record.specs.Possible.{record_possible}
use Rattle.curve_record.specs.declared.Record.{Record}
use Rattle.curve_booking.specs.Booking.{kept, book_error, booked}
use Rattle.curve_booking.proofs.Booked.{answer_refused, answer_error, error_full, error_far, error_accepted, booked_impossible}
use Rattle.curve_settling.specs.Settle.{spread_of, Faultless, settled}
use Rattle.curve_settling.proofs.Settled.{settled_impossible, settled_voll, settled_floor, settled_few, settled_flat, settled_accepted}
use Rattle.curve.specs.FirstRefusal.{
  hour_answer,
  HourCase,
  hour_too_long,
  hour_line_refused,
  run_line_refused,
  bytes_after_hour,
  hour_read,
  BookingCase,
  record_impossible,
  hour_is_refused,
  group_full,
  error_too_large,
  hour_booked,
  SettlingCase,
  unsettled_record,
  voll_outside,
  floor_outside,
  too_few_hours,
  no_spread,
  record_settled,
  ReadingCurvesCase,
  curves_too_long,
  curve_line_refused,
  bytes_after_curves,
  curves_read,
  Writing,
  WritingCurvesCase,
  set_impossible,
  buffer_short,
  text_written,
  CurvesLengthCase,
  length_impossible,
  length_known,
  PageWriting,
  WritingPageCase,
  page_impossible,
  page_buffer_short,
  page_written,
}
use Rattle.curve.specs.Promises.{ReadingHoursIsRefusedFirst, BookingIsRefusedFirst, SettlingIsRefusedFirst, ReadingCurvesIsRefusedFirst, WritingCurvesIsRefusedFirst, CurvesLengthIsRefusedFirst, WritingPagesIsRefusedFirst}

-- ---- an hour's text

module _ (text : List ℕ) where
  answer_is : {answer : HourAnswer} → hour_in text ≡ answer → HourCase text (error_answer answer) → HourCase text (error_answer (hour_in text))
  answer_is e found = rw e found

  module _ (short : length text ≤ 65536) where
    hour_end : (at : ℕ) → (own_lines text).end ≡ Ok at → (next : ℕ) → (run_lines text at).end ≡ Ok next → (more : Bool) → ltb next (length text) ≡ more
        → HourCase text (error_answer (hour_in text))
    hour_end at own next runs true e =
        let follow = ltb-true next (length text) e in
        answer_is (hour-cases.hour_bytes_follow text short at own next runs follow) (bytes_after_hour short at own next runs follow)
    hour_end at own next runs false e =
        let over = ltb-false next (length text) e in
        answer_is (hour-cases.hour_whole text short at own next runs over) (hour_read short at own next runs over)

    hour_runs : (at : ℕ) → (own_lines text).end ≡ Ok at → (ended : Result ℕ Fault) → (run_lines text at).end ≡ ended → HourCase text (error_answer (hour_in text))
    hour_runs at own (Err found) e = answer_is (hour-cases.run_line_refused text short at own found e) (run_line_refused short at own found e)
    hour_runs at own (Ok next) e = hour_end at own next e (ltb next (length text)) refl

    hour_lines : (ended : Result ℕ Fault) → (own_lines text).end ≡ ended → HourCase text (error_answer (hour_in text))
    hour_lines (Err found) e = answer_is (hour-cases.hour_line_refused text short found e) (hour_line_refused short found e)
    hour_lines (Ok at) e = hour_runs at e (run_lines text at).end refl

hour_applies : (text : List ℕ) → HourCase text (error_answer (hour_in text))
hour_applies text = go (ltb 65536 (length text)) refl
  where
    go : (long : Bool) → ltb 65536 (length text) ≡ long → HourCase text (error_answer (hour_in text))
    go true e = let long = ltb-true 65536 (length text) e in answer_is text (hour-cases.hour_too_long_lem text long) (hour_too_long long)
    go false e = hour_lines text (ltb-false 65536 (length text) e) (own_lines text).end refl

hour_only : (text : List ℕ) (other : Result HourlyError Refusal) → HourCase text other → other ≡ error_answer (hour_in text)
hour_only text other (hour_too_long long) = sym (ap error_answer (hour-cases.hour_too_long_lem text long))
hour_only text other (hour_line_refused short found e) = sym (ap error_answer (hour-cases.hour_line_refused text short found e))
hour_only text other (run_line_refused short at own found e) = sym (ap error_answer (hour-cases.run_line_refused text short at own found e))
hour_only text other (bytes_after_hour short at own next runs more) = sym (ap error_answer (hour-cases.hour_bytes_follow text short at own next runs more))
hour_only text other (hour_read short at own next runs over) = sym (ap error_answer (hour-cases.hour_whole text short at own next runs over))

pub reading_hours_is_refused_first : ReadingHoursIsRefusedFirst
reading_hours_is_refused_first text = record { applies = hour_applies text; only = hour_only text }

-- ---- booking

module _ (history : Record) (text : List ℕ) (possible : record_possible history ≡ true) where
  module _ (hourly : HourlyError) (reading : HourCase text (Ok hourly)) where
    booked_is : booked history text ≡ book_error history hourly.group hourly.error
    booked_is = answer_error history text hourly possible (sym (hour_only text (Ok hourly) reading))

    by_size : (group_at history hourly.group).count < 1000 → (near : Bool) → leb (nat_abs hourly.error) 20000000 ≡ near → BookingCase history text (booked history text)
    by_size room true s =
        let near = leb-true (nat_abs hourly.error) 20000000 s in
        rw (booked_is, error_accepted history hourly.group hourly.error room near) (hour_booked possible hourly reading room near)
    by_size room false s =
        let far = leb-false (nat_abs hourly.error) 20000000 s in
        rw (booked_is, error_far history hourly.group hourly.error room far) (error_too_large possible hourly reading room far)

    by_count : (full : Bool) → leb 1000 (group_at history hourly.group).count ≡ full → BookingCase history text (booked history text)
    by_count true c =
        let full = leb-true 1000 (group_at history hourly.group).count c in
        rw (booked_is, error_full history hourly.group hourly.error full) (group_full possible hourly reading full)
    by_count false c = by_size (leb-false 1000 (group_at history hourly.group).count c) (leb (nat_abs hourly.error) 20000000) refl

  refused_is : (found : Refusal) → HourCase text (Err found) → booked history text ≡ kept found.number found.line
  refused_is found reading = answer_refused history text found possible (sym (hour_only text (Err found) reading))

  by_hour : (answer : Result HourlyError Refusal) → HourCase text answer → BookingCase history text (booked history text)
  by_hour (Err found) reading = rw (refused_is found reading) (hour_is_refused possible (Err found) reading found refl)
  by_hour (Ok hourly) reading = by_count hourly reading (leb 1000 (group_at history hourly.group).count) refl

-- an hour refused by its reader's answer
refused_by : (history : Record) (text : List ℕ) → record_possible history ≡ true → (hour : Result HourlyError Refusal) → HourCase text hour → (found : Refusal) →
    hour_answer hour ≡ Err found → booked history text ≡ kept found.number found.line
refused_by history text p (Err other) reading found e =
    let same : other ≡ found = cc in
    refused_is history text p other reading ∙ ap (λ (f : Refusal). kept f.number f.line) same
refused_by history text p (Ok hourly) reading found e = let z : ◌≡◌ {A = ℕ} 0 1 = cc in absurd (omega arith)

booking_applies : (history : Record) (text : List ℕ) → BookingCase history text (booked history text)
booking_applies history text = go (record_possible history) refl
  where
    go : (possible : Bool) → record_possible history ≡ possible → BookingCase history text (booked history text)
    go false e = rw (booked_impossible history text e) (record_impossible e)
    go true e = by_hour history text e (error_answer (hour_in text)) (hour_applies text)

booking_only : (history : Record) (text : List ℕ) (other : Result Record Refusal) → BookingCase history text other → other ≡ booked history text
booking_only history text other (record_impossible p) = sym (booked_impossible history text p)
booking_only history text other (hour_is_refused p hour reading found e) = sym (refused_by history text p hour reading found e)
booking_only history text other (group_full p hourly reading full) = sym (booked_is history text p hourly reading ∙ error_full history hourly.group hourly.error full)
booking_only history text other (error_too_large p hourly reading room far) = sym (booked_is history text p hourly reading ∙ error_far history hourly.group hourly.error room far)
booking_only history text other (hour_booked p hourly reading room near) = sym (booked_is history text p hourly reading ∙ error_accepted history hourly.group hourly.error room near)

pub booking_is_refused_first : BookingIsRefusedFirst
booking_is_refused_first history text = record { applies = booking_applies history text; only = booking_only history text }

-- ---- settling

-- the first faulty group among the first n
record FirstFaulty (history : Record) (n : ℕ) : Type 0 where
  group : ℕ
  below : group < n
  earlier : (g : ℕ) → g < group → Faultless (group_at history g)
  faulty : ((group_at history group).count < 2) ⊎ ((2 ≤ (group_at history group).count) × (spread_of (group_at history group) ≡ 0))

first_faulty : (history : Record) (n : ℕ) → ((g : ℕ) → g < n → Faultless (group_at history g)) ⊎ FirstFaulty history n
first_faulty history zero = inl (λ g h. absurd (omega arith))
first_faulty history (suc n) = go (first_faulty history n)
  where
    none_before : {A : Type 0} → (g : ℕ) → g < n ⊎ (g ≡ n) → ((h : g < n) → A) → (g ≡ n → A) → A
    none_before g (inl h) below here = below h
    none_before g (inr e) below here = here e

    split : (g : ℕ) → g < suc n → (below : Bool) → ltb g n ≡ below → (g < n) ⊎ (g ≡ n)
    split g h true e = inl (ltb-true g n e)
    split g h false e = let over = ltb-false g n e in inr (omega arith)

    go : ((g : ℕ) → g < n → Faultless (group_at history g)) ⊎ FirstFaulty history n → ((g : ℕ) → g < suc n → Faultless (group_at history g)) ⊎ FirstFaulty history (suc n)
    go (inr found) = inr (record { group = found.group; below = (let l = found.below in omega arith); earlier = found.earlier; faulty = found.faulty })
    go (inl fine) = by_hours (ltb (group_at history n).count 2) refl
      where
        by_spread : 2 ≤ (group_at history n).count → (flat : Bool) → eqb (spread_of (group_at history n)) 0 ≡ flat
            → ((g : ℕ) → g < suc n → Faultless (group_at history g)) ⊎ FirstFaulty history (suc n)
        by_spread enough true e = inr (record { group = n; below = omega arith; earlier = fine; faulty = inr (enough, eqb-true (spread_of (group_at history n)) 0 e) })
        by_spread enough false e =
            inl (λ g h. none_before g (split g h (ltb g n) refl) (λ l. fine g l) (λ same. rw same (enough, eqb-false (spread_of (group_at history n)) 0 e)))

        by_hours : (few : Bool) → ltb (group_at history n).count 2 ≡ few → ((g : ℕ) → g < suc n → Faultless (group_at history g)) ⊎ FirstFaulty history (suc n)
        by_hours true e = inr (record { group = n; below = omega arith; earlier = fine; faulty = inl (ltb-true (group_at history n).count 2 e) })
        by_hours false e = by_spread (ltb-false (group_at history n).count 2 e) (eqb (spread_of (group_at history n)) 0) refl

module _ (history : Record) (voll floor : ℤ) (possible : record_possible history ≡ true) where
  module _ (voll_in : voll_in_range voll ≡ true) where
    module _ (floor_in : floor_in_range floor ≡ true) where
      by_fault : (found : FirstFaulty history 24)
          → ((group_at history found.group).count < 2) ⊎ ((2 ≤ (group_at history found.group).count) × (spread_of (group_at history found.group) ≡ 0))
          → SettlingCase history voll floor (settled history voll floor)
      by_fault found (inl few) =
          rw (settled_few history voll floor possible voll_in floor_in found.group found.below found.earlier few)
          (too_few_hours possible voll_in floor_in found.group found.below found.earlier few)
      by_fault found (inr flat) =
          rw (settled_flat history voll floor possible voll_in floor_in found.group found.below found.earlier flat.0 flat.1)
          (no_spread possible voll_in floor_in found.group found.below found.earlier flat.0 flat.1)

      by_groups : ((g : ℕ) → g < 24 → Faultless (group_at history g)) ⊎ FirstFaulty history 24 → SettlingCase history voll floor (settled history voll floor)
      by_groups (inl fine) = rw (settled_accepted history voll floor possible voll_in floor_in fine) (record_settled possible voll_in floor_in fine)
      by_groups (inr found) = by_fault found found.faulty

    by_floor : (inside : Bool) → floor_in_range floor ≡ inside → SettlingCase history voll floor (settled history voll floor)
    by_floor false e = rw (settled_floor history voll floor possible voll_in e) (floor_outside possible voll_in e)
    by_floor true e = by_groups e (first_faulty history 24)

  by_voll : (inside : Bool) → voll_in_range voll ≡ inside → SettlingCase history voll floor (settled history voll floor)
  by_voll false e = rw (settled_voll history voll floor possible e) (voll_outside possible e)
  by_voll true e = by_floor e (floor_in_range floor) refl

settling_applies : (history : Record) (voll floor : ℤ) → SettlingCase history voll floor (settled history voll floor)
settling_applies history voll floor = go (record_possible history) refl
  where
    go : (possible : Bool) → record_possible history ≡ possible → SettlingCase history voll floor (settled history voll floor)
    go false e = rw (settled_impossible history voll floor e) (unsettled_record e)
    go true e = by_voll history voll floor e (voll_in_range voll) refl

settling_only : (history : Record) (voll floor : ℤ) (other : Result CurveSet Refusal) → SettlingCase history voll floor other → other ≡ settled history voll floor
settling_only history voll floor other (unsettled_record p) = sym (settled_impossible history voll floor p)
settling_only history voll floor other (voll_outside p v) = sym (settled_voll history voll floor p v)
settling_only history voll floor other (floor_outside p v f) = sym (settled_floor history voll floor p v f)
settling_only history voll floor other (too_few_hours p v f g below earlier few) = sym (settled_few history voll floor p v f g below earlier few)
settling_only history voll floor other (no_spread p v f g below earlier enough flat) = sym (settled_flat history voll floor p v f g below earlier enough flat)
settling_only history voll floor other (record_settled p v f fine) = sym (settled_accepted history voll floor p v f fine)

pub settling_is_refused_first : SettlingIsRefusedFirst
settling_is_refused_first history voll floor = record { applies = settling_applies history voll floor; only = settling_only history voll floor }

-- ---- curve texts

curves_apply : (text : List ℕ) → ReadingCurvesCase text (read_curves text)
curves_apply text = by_length (ltb 4096 (length text)) refl
  where
    by_end : length text ≤ 4096 → (next : ℕ) → (curve_lines text).end ≡ Ok next → (more : Bool) → ltb next (length text) ≡ more → ReadingCurvesCase text (read_curves text)
    by_end short next e true m =
        let follow = ltb-true next (length text) m in
        rw (curve-cases.text_bytes_follow text short next e follow) (bytes_after_curves short next e follow)
    by_end short next e false m =
        let over = ltb-false next (length text) m in
        rw (curve-cases.text_read text short next e over) (curves_read short next e over)

    by_lines : length text ≤ 4096 → (ended : Result ℕ Fault) → (curve_lines text).end ≡ ended → ReadingCurvesCase text (read_curves text)
    by_lines short (Err found) e = rw (curve-cases.text_line_refused text short found e) (curve_line_refused short found e)
    by_lines short (Ok next) e = by_end short next e (ltb next (length text)) refl

    by_length : (long : Bool) → ltb 4096 (length text) ≡ long → ReadingCurvesCase text (read_curves text)
    by_length true e = let long = ltb-true 4096 (length text) e in rw (curve-cases.text_too_long text long) (curves_too_long long)
    by_length false e = by_lines (ltb-false 4096 (length text) e) (curve_lines text).end refl

curves_only : (text : List ℕ) (other : Result CurveSet Refusal) → ReadingCurvesCase text other → other ≡ read_curves text
curves_only text other (curves_too_long long) = sym (curve-cases.text_too_long text long)
curves_only text other (curve_line_refused short found e) = sym (curve-cases.text_line_refused text short found e)
curves_only text other (bytes_after_curves short next e more) = sym (curve-cases.text_bytes_follow text short next e more)
curves_only text other (curves_read short next e over) = sym (curve-cases.text_read text short next e over)

pub reading_curves_is_refused_first : ReadingCurvesIsRefusedFirst
reading_curves_is_refused_first text = record { applies = curves_apply text; only = curves_only text }

-- what writing gives
abbrev given : CurveSet → List ℕ → Writing
given curves buffer =
    record {
      answer = writing_answer (writing_curves curves buffer);
      length = written_length (writing_curves curves buffer);
      buffer = written_buffer curves buffer;
    }

abbrev written_as : Result ℕ Refusal → List ℕ → Writing
written_as found after = record { answer = writing_answer found; length = written_length found; buffer = after }

writing_applies : (curves : CurveSet) (buffer : List ℕ) → WritingCurvesCase curves buffer (given curves buffer)
writing_applies curves buffer = by_range (curves_in_range curves) refl
  where
    by_room : curves_in_range curves ≡ true → (room : Bool) → leb (length (curve_text curves)) (length buffer) ≡ room → WritingCurvesCase curves buffer (given curves buffer)
    by_room inside true e =
        let room = leb-true (length (curve_text curves)) (length buffer) e in
        rw (curve-cases.text_written curves buffer inside room, curve-cases.text_laid curves buffer inside room) (text_written inside room)
    by_room inside false e =
        let short = leb-false (length (curve_text curves)) (length buffer) e in
        rw (curve-cases.short_refused curves buffer inside short, curve-cases.short_stays curves buffer inside short) (buffer_short inside short)

    by_range : (inside : Bool) → curves_in_range curves ≡ inside → WritingCurvesCase curves buffer (given curves buffer)
    by_range false e = rw (curve-cases.impossible_refused curves buffer e, curve-cases.impossible_stays curves buffer e) (set_impossible e)
    by_range true e = by_room e (leb (length (curve_text curves)) (length buffer)) refl

writing_only : (curves : CurveSet) (buffer : List ℕ) (other : Writing) → WritingCurvesCase curves buffer other → other ≡ given curves buffer
writing_only curves buffer other (set_impossible out) =
    sym (ap₂ written_as (curve-cases.impossible_refused curves buffer out) (curve-cases.impossible_stays curves buffer out))
writing_only curves buffer other (buffer_short inside short) =
    sym (ap₂ written_as (curve-cases.short_refused curves buffer inside short) (curve-cases.short_stays curves buffer inside short))
writing_only curves buffer other (text_written inside room) =
    sym (ap₂ written_as (curve-cases.text_written curves buffer inside room) (curve-cases.text_laid curves buffer inside room))

pub writing_curves_is_refused_first : WritingCurvesIsRefusedFirst
writing_curves_is_refused_first curves buffer = record { applies = writing_applies curves buffer; only = writing_only curves buffer }

-- ---- the length of a curve text

pub curves_length_is_refused_first : CurvesLengthIsRefusedFirst
curves_length_is_refused_first curves = record { applies = by_range (curves_in_range curves) refl; only = only }
  where
    by_range : (inside : Bool) → curves_in_range curves ≡ inside → CurvesLengthCase curves (curves_length curves)
    by_range false e = rw (lengths.curves_length_refused curves e) (length_impossible e)
    by_range true e = rw (lengths.curves_length_told curves e) (length_known e)

    only : (other : Result ℕ Refusal) → CurvesLengthCase curves other → other ≡ curves_length curves
    only other (length_impossible out) = sym (lengths.curves_length_refused curves out)
    only other (length_known inside) = sym (lengths.curves_length_told curves inside)

-- ---- pages

abbrev page_given : Answer → List ℕ → PageWriting
page_given found after = record { answer = found; buffer = after }

module _ (curves : CurveSet) (buffer : List ℕ) where
  abbrev page : PageWriting
  page = page_given (writing_page curves buffer) (page_buffer curves buffer)

  page_applies : WritingPageCase curves buffer page
  page_applies = by_range (curves_in_range curves) refl
    where
      by_room : curves_in_range curves ≡ true → (room : Bool) → leb 1728 (length buffer) ≡ room → WritingPageCase curves buffer page
      by_room inside true e =
          let room = leb-true 1728 (length buffer) e in
          rw (page-cases.page_written curves buffer inside room, page-cases.page_laid curves buffer inside room) (page_written inside room)
      by_room inside false e =
          let short = leb-false 1728 (length buffer) e in
          rw (page-cases.short_refused curves buffer inside short, page-cases.short_stays curves buffer inside short) (page_buffer_short inside short)

      by_range : (inside : Bool) → curves_in_range curves ≡ inside → WritingPageCase curves buffer page
      by_range false e = rw (page-cases.impossible_refused curves buffer e, page-cases.impossible_stays curves buffer e) (page_impossible e)
      by_range true e = by_room e (leb 1728 (length buffer)) refl

  page_only : (other : PageWriting) → WritingPageCase curves buffer other → other ≡ page
  page_only other (page_impossible out) =
      sym (ap₂ page_given (page-cases.impossible_refused curves buffer out) (page-cases.impossible_stays curves buffer out))
  page_only other (page_buffer_short inside short) =
      sym (ap₂ page_given (page-cases.short_refused curves buffer inside short) (page-cases.short_stays curves buffer inside short))
  page_only other (page_written inside room) =
      sym (ap₂ page_given (page-cases.page_written curves buffer inside room) (page-cases.page_laid curves buffer inside room))

pub writing_pages_is_refused_first : WritingPagesIsRefusedFirst
writing_pages_is_refused_first curves buffer = record { applies = page_applies curves buffer; only = page_only curves buffer }

-- a refused page leaves the buffer
pub page_refused_leaves : (curves : CurveSet) (buffer : List ℕ) {found : Refusal} → writing_page curves buffer ≡ Err found → page_buffer curves buffer ≡ buffer
page_refused_leaves curves buffer {found} = go (page_applies curves buffer)
  where
    go : {after : PageWriting} → WritingPageCase curves buffer after → after.answer ≡ Err found → after.buffer ≡ buffer
    go (page_impossible out) e = refl
    go (page_buffer_short inside short) e = refl
    go (page_written inside room) e = let z : ◌≡◌ {A = ℕ} 0 1 = cc in absurd (omega arith)
