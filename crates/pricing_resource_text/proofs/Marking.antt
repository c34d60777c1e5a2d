-- Laws on lines of numbers that may be marked, read by keys and bounds: reading line by line into places.
use Prim.Native.Nat.{ℕ, zero, suc, ◌+◌, ◌-◌, ◌*◌, ◌^◌, ◌≤◌, ◌<◌}
use native.Mathlib.Nat.{sub-zero, add-zero, pow-succ'}
use native.Mathlib.Numerals.{add-one}
use native.Mathlib.Omega.{arith}
use mathlib.Core.Bool.{Bool, true, false, cond}
use mathlib.Core.List.{List, [], ◌∷◌, ◌++◌, append_assoc, append-nil, map-append}
use mathlib.Core.Path.{◌≡◌, refl, sym, ap, ◌∙◌}
use lib.Dec.{eqb}
use lib.IntN.{ℤ, pos}
use lib.ListN.{length, drop, get_or, set, drop_of_length-le, length-append, length-set, length-map}
use lib.Seq.{take_all, drop-cons, set_at}
use Rattle.text_refusal.specs.declared.refusal.Fault.{Fault}
use Rattle.text_line.specs.Judged.{good}
use Rattle.text_line.specs.Line.{value_at, value_fault}
use Rattle.text_line.specs.Piece.{part, piece_length}
use Rattle.text_line.specs.Field.{Field, LineAnswer, got, refused, next_at, field_at}
use Rattle.std.specs.Prelude.{Result, Ok, Err}
use Rattle.text_line.proofs.Pieces.{piece_none, piece_next}
use Rattle.text_number.specs.Number.{number_refusal}
use Rattle.text_number.specs.Marked.{plain_number, judged_marked, numbers_of, marks_of}
use Rattle.text_number.specs.declared.marked.Marked.{Marked}
use Rattle.text_number.specs.declared.NumberError.{NumberError}
use Rattle.text_number.specs.declared.NumberError.TheVariants as error
use Rattle.text_number.proofs.Numbers.{number_none}
use Rattle.text_number.specs.Field.{number_field}
use Rattle.text_number.proofs.Marks.{by_numbers, by_no_marks, marked_none, marked_got, marked_within, marked_turned, marks_none, marks_last, marks_few}
use Rattle.text_schema.specs.Schema.{Reading, value, and_then, read_fields, keys_of, number_fields, placed_fields, LinesRead}
use Rattle.text_schema.proofs.Readings.{reading_none, reading_first, lines_ends, lines_values}
use Rattle.text_schema.proofs.Fields.{numbers_first, numbers_no_keys}
use Rattle.text_schema.proofs.Schemas.{no_lows, no_highs}
use Rattle.text_schema.proofs.Marks.{LineBeside, Beside, none_beside, one_beside, marked_line, unmarked_line, plain_read}
use Rattle.pricing_resource_text.specs.Resource.{with_marks, lines_as}
use Rattle.pricing_resource_text.specs.internal.Marks.{marked_or_flag, line_field, fields_of, FewLines, MarksRead}
use Rattle.pricing_resource_text.specs.declared.marks.MarkedLines.{MarkedLines}

-- ---- one value

-- a value that is no number is refused
refused_some : (n : Result Marked NumberError) → ((m : Marked) → n ≡ Ok m → ⊥) → number_refusal n ≡ 0 → ⊥
refused_some (Ok m) not_taken e = not_taken m refl
refused_some (Err error.Outside) not_taken e = let z : ◌≡◌ {A = ℕ} 7 0 = e in omega arith
refused_some (Err error.Malformed) not_taken e = let z : ◌≡◌ {A = ℕ} 6 0 = e in omega arith

value_empty : (flag : Bool) (low high : ℤ) → marked_or_flag flag low high [] ≡ Err error.Malformed
value_empty true low high = ap plain_number (sym (number_none low high [] refl))
value_empty false low high = sym (marked_none low high [] refl)

-- ---- reading is under way

abbrev pub before : List Marked → Reading Marked → Reading Marked
before values reading = record { values = values ++ reading.values; end = reading.end }

-- the values so far stand in the first places, and the lines from the next key on are due at the position
pub record MarkedFrom (flag : ℕ) (text : List ℕ) (at : ℕ) (keys : List ℕ) (lows highs places out : List ℤ) (next from marks mark i : ℕ) : Type 0 where
  pub values : List Marked
  pub counted : length values ≡ i
  pub within : i ≤ length places
  pub long : length out ≡ length places
  pub laid : out ≡ numbers_of values ++ drop i places
  pub marked : marks ≡ marks_of values
  pub weight : mark ≡ 2 ^ i
  pub keys_left : length (keys_of (drop from keys)) ≡ length places - i
  pub rest :
      read_fields (fields_of flag 0 (keys_of keys) lows highs) text at ≡
      before values (read_fields (fields_of flag i (keys_of (drop from keys)) (drop i lows) (drop i highs)) text next)

pub marked_start :
    (flag : ℕ) (text : List ℕ) (at : ℕ) (keys : List ℕ) (lows highs places : List ℤ) → FewLines keys lows highs places →
    MarkedFrom flag text at keys lows highs places places at 0 0 1 0
marked_start flag text at keys lows highs places few =
    record {
      values = [];
      counted = refl;
      within = omega arith;
      long = refl;
      laid = refl;
      marked = sym marks_none;
      weight = refl;
      keys_left = few.keys_are ∙ sym (sub-zero (length places));
      rest = refl;
    }

module _
    {flag : ℕ} {text : List ℕ} {at : ℕ} {keys : List ℕ} {lows highs places out : List ℤ} {next from marks mark i : ℕ} (few : FewLines keys lows highs places)
    (so_far : MarkedFrom flag text at keys lows highs places out next from marks mark i) where
  -- the marks so far are small
  pub marks_small : (marks < mark) × (mark ≤ 256)
  marks_small =
      let less : marks < 2 ^ i = rw (so_far.marked, ← so_far.counted) (marks_few so_far.values) in
      (omega (arith, less, so_far.weight), rw so_far.weight (powers i (omega (arith, so_far.within, few.few))))
    where
      powers : (i : ℕ) → i ≤ 8 → 2 ^ i ≤ 256
      powers zero h = omega arith
      powers (suc zero) h = omega arith
      powers (suc (suc zero)) h = omega arith
      powers (suc (suc (suc zero))) h = omega arith
      powers (suc (suc (suc (suc zero)))) h = omega arith
      powers (suc (suc (suc (suc (suc zero))))) h = omega arith
      powers (suc (suc (suc (suc (suc (suc zero)))))) h = omega arith
      powers (suc (suc (suc (suc (suc (suc (suc zero))))))) h = omega arith
      powers (suc (suc (suc (suc (suc (suc (suc (suc zero)))))))) h = omega arith
      powers (suc (suc (suc (suc (suc (suc (suc (suc (suc n))))))))) h = absurd (omega arith)

  pub marked_over : length places ≤ i → MarksRead (fields_of flag 0 (keys_of keys) lows highs) text at out (Ok (record { marks = marks; next = next }))
  unfolding fields_of
  marked_over h =
      let none : fields_of flag i (keys_of (drop from keys)) (drop i lows) (drop i highs) ≡ [] = no_keys (keys_of (drop from keys)) (omega (arith, so_far.keys_left)) in
      let all : read_fields (fields_of flag 0 (keys_of keys) lows highs) text at ≡ record { values = so_far.values; end = Ok next } =
      so_far.rest ∙ rw (none, reading_none {A = Marked}, append-nil) in
      record {
        taken = λ found e.
            let same : (marks ≡ found.marks) × (next ≡ found.next) = (cc, cc) in
            rw (all) (rw same.1, (rw (← same.0) so_far.marked, rw (so_far.laid, drop_of_length-le places {i = i} h) (append-nil (numbers_of so_far.values))));
        refused = λ found e. let z : ◌≡◌ {A = ℕ} 0 1 = cc in absurd (omega arith);
      }
    where
      no_keys : (left : List (List ℕ)) → length left ≡ 0 → fields_of flag i left (drop i lows) (drop i highs) ≡ []
      no_keys [] e = refl
      no_keys (key ∷ left) e = absurd (omega arith)

  -- one more line is due, and its value is read
  module _ {end : ℕ} (ends : end ≡ from + piece_length 61 (drop from keys)) (more : i < length places) where
    pub key_some : end ≡ from → ⊥
    key_some e = omega (arith, so_far.keys_left, ap length (piece_none 61 keys from end ends e))

    fields_next :
        fields_of flag i (keys_of (drop from keys)) (drop i lows) (drop i highs) ≡
        line_field (eqb i flag) (part keys from end) (value lows i) (value highs i) ∷ fields_of flag (suc i) (keys_of (drop end keys)) (drop (suc i) lows) (drop (suc i) highs)
    unfolding fields_of
    fields_next =
        rw (piece_next 61 keys from end ends key_some, drop-cons lows i (pos 0) (omega (arith, few.lows_are)), drop-cons highs i (pos 0) (omega (arith, few.highs_are)))

    module _
        {key bytes : List ℕ} {n : Result Marked NumberError} (key_is : key ≡ part keys from end) (bytes_are : bytes ≡ value_at key text next)
        (is : n ≡ marked_or_flag (eqb i flag) (value lows i) (value highs i) bytes) where
      due :
          (answer : LineAnswer Marked) → answer ≡ field_at (line_field (eqb i flag) key (value lows i) (value highs i)) text next →
          read_fields (fields_of flag 0 (keys_of keys) lows highs) text at ≡
          before so_far.values (and_then answer (λ after. read_fields (fields_of flag (suc i) (keys_of (drop end keys)) (drop (suc i) lows) (drop (suc i) highs)) text after))
      due answer answers =
          so_far.rest
          ∙ rw (fields_next, reading_first (line_field (eqb i flag) (part keys from end) (value lows i) (value highs i)) (fields_of flag (suc i) (keys_of (drop end keys)) (drop (suc i) lows) (drop (suc i) highs)) text next, ← key_is, ← answers)

      pub marked_stop :
          ((m : Marked) → n ≡ Ok m → ⊥) → {k : ℕ} → k ≡ number_refusal n → {found : Fault} → found ≡ value_fault key text next k →
          {after : List ℤ} → MarksRead (fields_of flag 0 (keys_of keys) lows highs) text at after (Err found)
      marked_stop not_taken {k} refusal_is {found} fault_is =
          let told : refused found ≡ field_at (line_field (eqb i flag) key (value lows i) (value highs i)) text next =
          rw (fault_is, refusal_is) (marked_turned key text next (marked_or_flag (eqb i flag) (value lows i) (value highs i)) (value_empty (eqb i flag) (value lows i) (value highs i)) bytes_are is (refused_some n not_taken)) in
          let all = due (refused found) told in
          record {
            taken = λ read e. let z : ◌≡◌ {A = ℕ} 0 1 = cc in absurd (omega arith);
            refused = λ other e. let same : found ≡ other = cc in rw (all, same);
          }

      module _ {m : Marked} (taken : n ≡ Ok m) where
        pub marked_fits : next_at next key bytes ≤ length text
        marked_fits =
            let told : judged_marked n ≡ good m = rw taken in
            marked_within key text next (marked_or_flag (eqb i flag) (value lows i) (value highs i)) (value_empty (eqb i flag) (value lows i) (value highs i)) bytes_are is told

        pub marked_more :
            {after : ℕ} → after ≡ next_at next key bytes → {more_marks : ℕ} → more_marks ≡ cond m.suspect (marks + mark) marks →
            MarkedFrom flag text at keys lows highs places (set out i m.number) after end more_marks (mark * 2) (i + 1)
        marked_more {after} after_is {more_marks} marks_are =
            let all = due (got m after) (rw after_is (marked_got key text next (marked_or_flag (eqb i flag) (value lows i) (value highs i)) (value_empty (eqb i flag) (value lows i) (value highs i)) bytes_are is (rw taken))) in
            record {
              values = so_far.values ++ (m ∷ []);
              counted = length-append so_far.values (m ∷ []) ∙ ap (λ (k : ℕ). k + 1) so_far.counted;
              within = omega arith;
              long = length-set out i m.number ∙ so_far.long;
              laid =
                  rw (
                    so_far.laid,
                    drop-cons places i (pos 0) (omega arith),
                    set_at (numbers_of so_far.values) (get_or places i (pos 0)) (drop (suc i) places) m.number i (length-map so_far.values (λ (one : Marked). one.number) ∙ so_far.counted),
                    map-append (λ (one : Marked). one.number) so_far.values (m ∷ []),
                    append_assoc,
                    add-one,
                  );
              marked = marks_are ∙ with_one m.suspect ∙ rw (so_far.marked, so_far.weight, ← so_far.counted) (sym (marks_last so_far.values m));
              weight = omega (arith, so_far.weight, ap (λ (k : ℕ). 2 ^ k) (add-one i), pow-succ' 2 i);
              keys_left = omega (arith, so_far.keys_left, ap length (piece_next 61 keys from end ends key_some));
              rest = rw (all, append_assoc, add-one);
            }
          where
            with_one : (suspect : Bool) → cond suspect (marks + mark) marks ≡ marks + cond suspect mark 0
            with_one true = refl
            with_one false = sym (add-zero marks)

-- ---- lines without marks

line_beside : (flag : Bool) (key : List ℕ) (low high : ℤ) → LineBeside (line_field flag key low high) (number_field key low high)
line_beside true key low high = unmarked_line key low high
line_beside false key low high = marked_line key low high

pub fields_beside : (flag i : ℕ) (keys : List (List ℕ)) (lows highs : List ℤ) → Beside (fields_of flag i keys lows highs) (number_fields keys lows highs)
unfolding fields_of
fields_beside flag i [] lows highs = rw (numbers_no_keys lows highs) none_beside
fields_beside flag i (key ∷ keys) [] highs = rw (no_lows (key ∷ keys) highs) none_beside
fields_beside flag i (key ∷ keys) (low ∷ lows) [] = rw (no_highs (key ∷ keys) (low ∷ lows)) none_beside
fields_beside flag i (key ∷ keys) (low ∷ lows) (high ∷ highs) =
    rw (numbers_first key keys low lows high highs) (one_beside (line_beside (eqb i flag) key low high) (fields_beside flag (suc i) keys lows highs))

numbers_length : (keys : List (List ℕ)) (lows highs : List ℤ) → length lows ≡ length keys → length highs ≡ length keys → length (number_fields keys lows highs) ≡ length keys
numbers_length [] lows highs l h = ap length (numbers_no_keys lows highs)
numbers_length (key ∷ keys) [] highs l h = absurd (omega arith)
numbers_length (key ∷ keys) (low ∷ lows) [] l h = absurd (omega arith)
numbers_length (key ∷ keys) (low ∷ lows) (high ∷ highs) l h =
    ap length (numbers_first key keys low lows high highs) ∙ ap suc (numbers_length keys lows highs (omega arith) (omega arith))

-- lines that were read as numbers alone
pub marked_unmarked :
    (flag : ℕ) {text : List ℕ} {at : ℕ} {keys : List ℕ} {lows highs places after : List ℤ} {ended : Result ℕ Fault} → FewLines keys lows highs places →
    LinesRead text at keys lows highs places after ended → {next : ℕ} → ended ≡ Ok next →
    MarksRead (fields_of flag 0 (keys_of keys) lows highs) text at after (Ok (record { marks = 0; next = next }))
marked_unmarked flag {text} {at} {keys} {lows} {highs} {places} {after} few read {next} told =
    let plain : List (Field ℤ) = number_fields (keys_of keys) lows highs in
    let long : length plain ≡ length places =
    numbers_length (keys_of keys) lows highs (few.lows_are ∙ sym few.keys_are) (few.highs_are ∙ sym few.keys_are) ∙ few.keys_are in
    let schema : placed_fields keys lows highs places ≡ plain = take_all (length places) plain (omega arith) in
    let ends : (read_fields plain text at).end ≡ Ok next = sym (lines_ends plain schema long read) ∙ told in
    let all = plain_read (fields_beside flag 0 (keys_of keys) lows highs) text at next ends in
    record {
      taken = λ found e.
          let same : (0 ≡ found.marks) × (next ≡ found.next) = (cc, cc) in
          rw all (rw same.1, (rw (← same.0) (sym (by_no_marks (read_fields plain text at).values)), lines_values plain schema long read next told ∙ sym (by_numbers 0 (read_fields plain text at).values)));
      refused = λ found e. let z : ◌≡◌ {A = ℕ} 0 1 = cc in absurd (omega arith);
    }

-- ---- a resource made of them

-- the same lines, by another list of the same fields
pub read_as :
    {fields same : List (Field Marked)} {text : List ℕ} {at : ℕ} {after : List ℤ} {ended : Result MarkedLines Fault} → fields ≡ same →
    MarksRead fields text at after ended → MarksRead same text at after ended
read_as e read = rw e at read

module _ {A : Type 0} (make : ℕ → List ℤ → A) {fields : List (Field Marked)} {text : List ℕ} {at : ℕ} {after : List ℤ} {ended : Result MarkedLines Fault} (read : MarksRead fields text at after ended) where
  pub made_read : {found : MarkedLines} {one : A} → ended ≡ Ok found → one ≡ make found.marks after → got one found.next ≡ lines_as (with_marks make) fields text at
  made_read {found} told is =
      let has = read.taken found told in
      rw (has.0, is, has.1.0, has.1.1)

  pub made_refused : {found : Fault} → ended ≡ Err found → refused found ≡ lines_as (with_marks make) fields text at
  made_refused {found} told = rw (read.refused found told)
