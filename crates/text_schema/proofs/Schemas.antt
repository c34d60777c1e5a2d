-- Laws on schemas of numbers: the next line, and reading line by line into places.
use Prim.Native.Nat.{ℕ, suc, ◌+◌, ◌-◌, ◌≤◌, ◌<◌, min}
use native.Mathlib.Nat.{sub-zero}
use native.Mathlib.Numerals.{add-one}
use native.Mathlib.Omega.{arith}
use mathlib.Core.Bool.{Bool, true, false}
use mathlib.Core.List.{List, [], ◌∷◌, ◌++◌, append_assoc, append-nil}
use mathlib.Core.Path.{◌≡◌, refl, ap, ◌∙◌}
use lib.Dec.{leb}
use lib.IntN.{ℤ, pos}
use lib.ListN.{length, take, drop, get_or, set, drop_of_length-le, length-append, length-set}
use lib.Seq.{take-nil, drop-cons, set_at}
use borrow.Author.Tests.{leb-true, leb-false}
use Rattle.std.specs.Prelude.{Result, Ok, Err}
use Rattle.text_number.specs.declared.NumberError.{NumberError}
use Rattle.text_refusal.specs.declared.refusal.Fault.{Fault}
use Rattle.text_line.specs.Line.{value_at, value_fault}
use Rattle.text_line.specs.Piece.{part, piece_length}
use Rattle.text_line.specs.Field.{Field, LineAnswer, got, refused, next_at, field_at}
use Rattle.text_line.proofs.Pieces.{piece_none, piece_next}
use Rattle.text_number.specs.Number.{number_in, number_refusal}
use Rattle.text_number.specs.Field.{number_field}
use Rattle.text_number.proofs.Fields.{number_got, number_within, number_refused}
use Rattle.text_schema.specs.Schema.{Reading, value, and_then, read_fields, number_fields, keys_of, placed_fields, LinesRead}

-- the lines of a schema from a key on, i lines standing before
abbrev pub fields_from : List ℕ → List ℤ → List ℤ → ℕ → ℕ → List (Field ℤ)
fields_from keys lows highs from i = number_fields (keys_of (drop from keys)) (drop i lows) (drop i highs)

pub no_lows : (keys : List (List ℕ)) (highs : List ℤ) → number_fields keys [] highs ≡ []
unfolding number_fields
no_lows [] highs = refl
no_lows (key ∷ keys) highs = refl

pub no_highs : (keys : List (List ℕ)) (lows : List ℤ) → number_fields keys lows [] ≡ []
unfolding number_fields
no_highs [] lows = refl
no_highs (key ∷ keys) [] = refl
no_highs (key ∷ keys) (low ∷ lows) = refl

module _ (keys : List ℕ) (lows highs : List ℤ) (from i : ℕ) where
  pub fields_lows : length lows ≤ i → fields_from keys lows highs from i ≡ []
  fields_lows h = rw (drop_of_length-le lows {i = i} h) (no_lows (keys_of (drop from keys)) (drop i highs))

  pub fields_highs : length highs ≤ i → fields_from keys lows highs from i ≡ []
  fields_highs h = rw (drop_of_length-le highs {i = i} h) (no_highs (keys_of (drop from keys)) (drop i lows))

  module _ (end : ℕ) (ends : end ≡ from + piece_length 61 (drop from keys)) where
    pub fields_keys : end ≡ from → fields_from keys lows highs from i ≡ []
    unfolding number_fields
    fields_keys e = rw (piece_none 61 keys from end ends e)

    pub fields_next :
        (end ≡ from → ⊥) → i < length lows → i < length highs →
        fields_from keys lows highs from i ≡ number_field (part keys from end) (value lows i) (value highs i) ∷ fields_from keys lows highs end (i + 1)
    unfolding number_fields
    fields_next n l h = rw (piece_next 61 keys from end ends n, drop-cons lows i (pos 0) l, drop-cons highs i (pos 0) h, add-one)

-- values read before a reading
abbrev pub in_front : List ℤ → Reading ℤ → Reading ℤ
in_front values reading = record { values = values ++ reading.values; end = reading.end }

-- reading is under way: the values so far stand in the first places, and the lines from the next key on are due at the position
pub record LinesFrom (text : List ℕ) (at : ℕ) (keys : List ℕ) (lows highs places out : List ℤ) (next from i : ℕ) : Type 0 where
  pub values : List ℤ
  pub counted : length values ≡ i
  pub long : length out ≡ length places
  pub laid : out ≡ values ++ drop i places
  pub rest :
      read_fields (placed_fields keys lows highs places) text at ≡
      in_front values (read_fields (take (length places - i) (fields_from keys lows highs from i)) text next)

pub lines_start :
    (text : List ℕ) (at : ℕ) (keys : List ℕ) (lows highs places : List ℤ) → LinesFrom text at keys lows highs places places at 0 0
lines_start text at keys lows highs places = record { values = []; counted = refl; long = refl; laid = refl; rest = rw sub-zero }

module _
    {text : List ℕ} {at : ℕ} {keys : List ℕ} {lows highs places out : List ℤ} {next from i : ℕ}
    (so_far : LinesFrom text at keys lows highs places out next from i) where
  lines_over : take (length places - i) (fields_from keys lows highs from i) ≡ [] → LinesRead text at keys lows highs places out (Ok next)
  unfolding read_fields
  lines_over e = record { ends = rw (so_far.rest, e); filled = rw (so_far.rest, e, append-nil, so_far.counted) so_far.laid }

  -- the places, the lower or the upper bounds have run out
  pub lines_full : min (length places) (min (length lows) (length highs)) ≤ i → LinesRead text at keys lows highs places out (Ok next)
  lines_full h = lines_over (go (leb (length places) i) refl (leb (length lows) i) refl)
    where
      go :
          (p : Bool) → leb (length places) i ≡ p → (l : Bool) → leb (length lows) i ≡ l → take (length places - i) (fields_from keys lows highs from i) ≡ []
      go true p l e = let none : length places - i ≡ 0 = omega (arith, leb-true (length places) i p) in rw none
      go false p true e = rw (fields_lows keys lows highs from i (leb-true (length lows) i e), take-nil)
      go false p false e =
          rw (fields_highs keys lows highs from i (omega (arith, leb-false (length places) i p, leb-false (length lows) i e)), take-nil)

  module _ {end : ℕ} (ends : end ≡ from + piece_length 61 (drop from keys)) where
    pub lines_keys : end ≡ from → LinesRead text at keys lows highs places out (Ok next)
    lines_keys e = lines_over (rw (fields_keys keys lows highs from i end ends e, take-nil))

    -- one more line is due, and its value is read as a number within its bounds
    module _
        {key bytes : List ℕ} {n : Result ℤ NumberError} (some : end ≡ from → ⊥) (left : i < min (length places) (min (length lows) (length highs)))
        (key_is : key ≡ part keys from end) (bytes_are : bytes ≡ value_at key text next) (is : n ≡ number_in (value lows i) (value highs i) bytes) where
      due :
          (answer : LineAnswer ℤ) → answer ≡ field_at (number_field key (value lows i) (value highs i)) text next →
          read_fields (placed_fields keys lows highs places) text at ≡
          in_front so_far.values (and_then answer (λ after. read_fields (take (length places - (i + 1)) (fields_from keys lows highs end (i + 1))) text after))
      unfolding read_fields
      due answer answers =
          let e : length places - i ≡ suc (length places - (i + 1)) = omega arith in
          rw (so_far.rest, fields_next keys lows highs from i end ends some (omega arith) (omega arith), e, answers, key_is)

      pub lines_refused : ((z : ℤ) → n ≡ Ok z → ⊥) → {k : ℕ} → k ≡ number_refusal n → {found : Fault} → found ≡ value_fault key text next k → LinesRead text at keys lows highs places out (Err found)
      lines_refused not_taken {k} refusal_is {found} fault_is =
          let told : refused found ≡ field_at (number_field key (value lows i) (value highs i)) text next = rw (fault_is, refusal_is) (number_refused key text next (value lows i) (value highs i) bytes_are is not_taken) in
          let all = due (refused found) told in
          record { ends = rw all; filled = rw (all, append-nil, so_far.counted) so_far.laid }

      module _ {z : ℤ} (told : n ≡ Ok z) where
        pub lines_within : next_at next key bytes ≤ length text
        lines_within = number_within key text next (value lows i) (value highs i) bytes_are is told

        pub lines_more : {after : ℕ} → after ≡ next_at next key bytes → LinesFrom text at keys lows highs places (set out i z) after end (i + 1)
        lines_more {after} after_is =
            let all = due (got z after) (rw after_is (number_got key text next (value lows i) (value highs i) bytes_are is told)) in
            record {
              values = so_far.values ++ (z ∷ []);
              counted = length-append so_far.values (z ∷ []) ∙ ap (λ (n : ℕ). n + 1) so_far.counted;
              long = length-set out i z ∙ so_far.long;
              laid =
                  rw (
                    so_far.laid,
                    drop-cons places i (pos 0) (omega arith),
                    set_at so_far.values (get_or places i (pos 0)) (drop (suc i) places) z i so_far.counted,
                    append_assoc,
                    add-one,
                  );
              rest = rw (all, append_assoc);
            }
