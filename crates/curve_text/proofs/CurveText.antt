-- The schema of a curve text, and what reading and writing by it give.
use Prim.Native.Nat.{ℕ, zero, suc, ◌+◌, ◌≤◌}
use native.Mathlib.Omega.{arith}
use mathlib.Core.Bool.{true, false, cond}
use mathlib.Core.List.{List, [], ◌++◌, append-nil}
use mathlib.Core.Path.{◌≡◌, refl, sym, ap, subst, ◌∙◌}
use lib.Dec.{leb}
use lib.IntN.{ℤ}
use lib.ListN.{length, drop_of_length-le}
use lib.Seq.{take_all}
use borrow.Author.Tests.{le-ltb}
use Rattle.std.specs.Prelude.{Result, Ok, Err, Option, Some, None}
use Rattle.text_refusal.specs.Bytes.{bytes}
use Rattle.text_refusal.specs.Refusal.{refusal_of}
use Rattle.text_line.specs.Lines.{end_at}
use Rattle.text_refusal.specs.declared.refusal.Fault.{Fault}
use Rattle.text_refusal.proofs.Choices.{chosen, passed_over}
use Rattle.text_line.specs.Field.{Field}
use Rattle.text_schema.specs.Schema.{read_fields, write_fields, number_fields, keys_of, laid_over, placed_fields, LinesRead}
use Rattle.text_schema.proofs.Fields.{keys_computed, schema_computed, repeated_computed}
use Rattle.text_schema.proofs.Readings.{reading_length}
use Rattle.text_writer.specs.Write.{written_numbers, laid_at, TextWritten, LinesWritten}
use Rattle.text_writer.proofs.BySchema.{written_by_schema}
use Rattle.curve_set.specs.Curves.{voll_range, floor_range, mean_range, spread_range, curves_in_range, even_curves}
use Rattle.curve_text.specs.CurveText.{pair_fields, curve_fields, curve_lines, end_of_lines, after_curves, read_curves, curve_text, writing_curves, written_buffer, CurvesWritten}
use Rattle.curve_text.specs.internal.CurveLines.{values_at_end, line_values}
use Rattle.curve_set.specs.CurveValues.{curve_values, curves_of}
use Rattle.curve_set.proofs.CurveValues.{even_values_lem, values_length}
use Rattle.curve_set.specs.declared.CurveSet.{CurveSet}

-- ---- the schema, as the code holds it

abbrev copies : ℕ → List ℕ → List ℕ
copies zero part = []
copies (suc n) part = part ++ copies n part

abbrev pub curve_keys : List ℕ
curve_keys = bytes "voll=floor=" ++ copies 24 (bytes "mu=sigma=")

abbrev pub curve_lows : List ℤ
curve_lows = curve_values (even_curves voll_range.low floor_range.low mean_range.low spread_range.low)

abbrev pub curve_highs : List ℤ
curve_highs = curve_values (even_curves voll_range.high floor_range.high mean_range.high spread_range.high)

pub curve_schema : number_fields (keys_of curve_keys) curve_lows curve_highs ≡ curve_fields
unfolding curve_fields
curve_schema =
    schema_computed curve_keys curve_lows curve_highs ∙
    rw (
      repeated_computed pair_fields 24,
      even_values_lem voll_range.low floor_range.low mean_range.low spread_range.low,
      even_values_lem voll_range.high floor_range.high mean_range.high spread_range.high,
    )

pub fifty_keys : length (keys_of curve_keys) ≡ 50
fifty_keys = ap length (keys_computed curve_keys)

fifty_lows : length curve_lows ≡ 50
fifty_lows = values_length (even_curves voll_range.low floor_range.low mean_range.low spread_range.low) refl

fifty_highs : length curve_highs ≡ 50
fifty_highs = values_length (even_curves voll_range.high floor_range.high mean_range.high spread_range.high) refl

pub fifty_lines : length curve_fields ≡ 50
unfolding curve_fields
fifty_lines = rw (repeated_computed pair_fields 24)

-- ---- reading

-- the lines of a text were read as the schema says
pub record CurveLinesRead (text : List ℕ) (values : List ℤ) (ended : Result ℕ Fault) : Type 0 where
  pub ends : ended ≡ (read_fields curve_fields text 0).end
  pub read : (next : ℕ) → ended ≡ Ok next → values ≡ (read_fields curve_fields text 0).values

pub curve_lines_read :
    {text : List ℕ} {lows highs places values : List ℤ} {ended : Result ℕ Fault} → LinesRead text 0 curve_keys lows highs places values ended →
    lows ≡ curve_lows → highs ≡ curve_highs → length places ≡ 50 → CurveLinesRead text values ended
curve_lines_read {text} {lows} {highs} {places} {values} {ended} given lows_are highs_are fifty =
    let placed : placed_fields curve_keys lows highs places ≡ curve_fields = rw (lows_are, highs_are, fifty, curve_schema) (take_all 50 curve_fields (omega (arith, fifty_lines))) in
    let ends : ended ≡ (read_fields curve_fields text 0).end = given.ends ∙ ap (λ (fields : List (Field ℤ)). (read_fields fields text 0).end) placed in
    let read : List ℤ = (read_fields curve_fields text 0).values in
    let filled : values ≡ laid_over read places = given.filled ∙ ap (λ (fields : List (Field ℤ)). laid_over (read_fields fields text 0).values places) placed in
    record {
      ends = ends;
      read = λ next e.
          (let count : length read ≡ 50 = reading_length curve_fields text 0 next (sym ends ∙ e) ∙ fifty_lines in
          filled ∙ rw (drop_of_length-le places {i = length read} (omega arith), append-nil));
    }

-- a refused line, bytes behind the last line, or the values of all lines
module _ {text : List ℕ} {values : List ℤ} {ended : Result ℕ Fault} (given : CurveLinesRead text values ended) where
  pub line_refused : {found : Fault} → ended ≡ Err found → Err found ≡ line_values text
  line_refused told = rw (sym given.ends ∙ told)

  module _ {next : ℕ} (told : ended ≡ Ok next) where
    pub end_refused : {found : Fault} → end_at text next ≡ Err found → Err found ≡ line_values text
    end_refused at_end = rw (sym given.ends ∙ told, at_end)

    pub lines_read : {stop : ℕ} → end_at text next ≡ Ok stop → Ok values ≡ line_values text
    lines_read at_end = rw (sym given.ends ∙ told, at_end, given.read next told)

-- the curve set of such values
module _ (text : List ℕ) (short : length text ≤ 4096) {read : Result (List ℤ) Fault} (given : read ≡ line_values text) where
  decided : (ended : Result ℕ Fault) → end_of_lines text (curve_lines text).end ≡ ended → read_curves text ≡ after_curves text (curve_lines text).values ended
  unfolding read_curves
  decided ended e = rw (le-ltb 4096 (length text) short, e)

  pub text_refused : {found : Fault} → read ≡ Err found → Err (refusal_of text found) ≡ read_curves text
  text_refused {found} told = go (end_of_lines text (curve_lines text).end) refl (sym told ∙ given)
    where
      go : (ended : Result ℕ Fault) → end_of_lines text (curve_lines text).end ≡ ended → Err found ≡ values_at_end (curve_lines text).values ended → Err (refusal_of text found) ≡ read_curves text
      go (Ok stop) e same = cc
      go (Err other) e same = let one : found ≡ other = cc in rw (decided (Err other) e, one)

  pub text_accepted : {values : List ℤ} → read ≡ Ok values → Ok (curves_of values) ≡ read_curves text
  text_accepted {values} told = go (end_of_lines text (curve_lines text).end) refl (sym told ∙ given)
    where
      go : (ended : Result ℕ Fault) → end_of_lines text (curve_lines text).end ≡ ended → Ok values ≡ values_at_end (curve_lines text).values ended → Ok (curves_of values) ≡ read_curves text
      go (Ok stop) e same = let one : values ≡ (curve_lines text).values = cc in rw (decided (Ok stop) e, one)
      go (Err other) e same = cc

-- ---- writing

-- by the keys that the code holds
pub written_by_keys : (values : List ℤ) → written_numbers (keys_of curve_keys) values ≡ write_fields curve_fields values
written_by_keys values =
    sym (written_by_schema (keys_of curve_keys) curve_lows curve_highs values (omega (arith, fifty_keys, fifty_lows)) (omega (arith, fifty_keys, fifty_highs))) ∙
    ap (λ (fields : List (Field ℤ)). write_fields fields values) curve_schema

pub curves_laid :
    {values : List ℤ} {buffer after : List ℕ} {ended : Option ℕ} (curves : CurveSet) → LinesWritten curve_keys values buffer 0 after ended →
    values ≡ curve_values curves → TextWritten (curve_text curves) buffer 0 after ended
unfolding curve_text
curves_laid {buffer} {after} {ended} curves given values_are =
    subst (λ text. TextWritten text buffer 0 after ended) (ap (written_numbers (keys_of curve_keys)) values_are ∙ written_by_keys (curve_values curves)) given

module _ (curves : CurveSet) where
  pub set_refused : (buffer : List ℕ) → curves_in_range curves ≡ false → CurvesWritten curves buffer buffer (Err (record { number = 1; line = 0 }))
  unfolding writing_curves written_buffer
  set_refused buffer e = record { ends = rw e; bytes = rw e }

  module _ {buffer after : List ℕ} {ended : Option ℕ} (given : TextWritten (curve_text curves) buffer 0 after ended) (possible : curves_in_range curves ≡ true) where
    abbrev text : List ℕ
    text = curve_text curves

    ends : ended ≡ cond (leb (length text) (length buffer)) (Some (length text)) None
    ends = let whole : 0 + length text ≡ length text = omega arith in given.ends ∙ rw whole

    lies : after ≡ cond (leb (length text) (length buffer)) (laid_at buffer 0 text) buffer
    lies = let whole : 0 + length text ≡ length text = omega arith in given.bytes ∙ rw whole

    pub text_stands : {next : ℕ} → ended ≡ Some next → CurvesWritten curves buffer after (Ok next)
    unfolding writing_curves written_buffer
    text_stands {next} e =
        let not_short : ◌≡◌ {A = Option ℕ} None (Some next) → ⊥ = λ w. (let z : ◌≡◌ {A = ℕ} 0 1 = cc in omega arith) in
        let room = chosen (leb (length text) (length buffer)) (Some next) (sym ends ∙ e) not_short in
        let same : next ≡ length text = let told = room.1 in cc in
        record { ends = rw (possible, room.0, same); bytes = rw (possible, room.0) (lies ∙ rw room.0) }

    pub text_short : ended ≡ None → CurvesWritten curves buffer after (Err (record { number = 14; line = 0 }))
    unfolding writing_curves written_buffer
    text_short e =
        let not_ended : ◌≡◌ {A = Option ℕ} (Some (length text)) None → ⊥ = λ w. (let z : ◌≡◌ {A = ℕ} 0 1 = cc in omega arith) in
        let room = passed_over (leb (length text) (length buffer)) None (sym ends ∙ e) not_ended in
        record { ends = rw (possible, room.0); bytes = rw (possible, room.0) (lies ∙ rw room.0) }
