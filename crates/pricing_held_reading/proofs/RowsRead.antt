-- The rows of a resource that was read: what stands in the text for each place.
use Prim.Native.Nat.{ℕ, zero, suc, ◌+◌, ◌≤◌, ◌<◌}
use native.Mathlib.Omega.{arith}
use mathlib.Core.List.{List, [], ◌∷◌, ◌++◌}
use mathlib.Core.Path.{◌≡◌, refl, sym, ap, subst, ◌∙◌}
use lib.Dec.{lit≤}
use lib.IntN.{ℤ, pos, neg_ℤ}
use lib.ListN.{length, take, drop, set, replicate}
use Rattle.text_refusal.specs.Bytes.{bytes}
use Rattle.text_line.specs.Field.{got, field_at}
use Rattle.text_line.proofs.Pieces.{computed_pieces}
use Rattle.text_number.specs.Marked.{marked_by}
use Rattle.text_schema.specs.Schema.{read_fields}
use Rattle.text_schema.proofs.Fields.{schema_fields}
use Rattle.text_schema.proofs.Readings.{reading_length}
use Rattle.pricing_resource.specs.declared.Kind.{Kind}
use Rattle.pricing_resource.specs.declared.Kind.TheVariants as kind
use Rattle.pricing_resource.specs.declared.Resource.{Resource}
use Rattle.pricing_resource_text.specs.Resource.{kind_words, kind_field, status_words, status_field, status_of, resource_power, flag, generator_fields, controllable_fields, load_fields, generator_of, controllable_of, load_of, with_marks, lines_as, generator_at, of_kind, resource_at}
use Rattle.pricing_resource_text.proofs.Lines.{generator_parts, controllable_parts, load_parts}
use Rattle.pricing_resource_text.proofs.Readings.{followed, lines_given, resource_followed}
use Rattle.pricing_sums.specs.Header.{header_values}
use Rattle.pricing_sums.specs.declared.header.Header.{Header}
use Rattle.pricing_snapshot.specs.Snapshot.{header_fields, header_of}
use Rattle.pricing_snapshot.proofs.Entries.{header_computed}
use Rattle.pricing_held_reading.specs.Reading.{kind_place, status_place, number_row}
use Rattle.pricing_held_reading.specs.internal.Laying.{NumbersStand}
use Rattle.pricing_held_reading.proofs.Words.{word_line, status_told}
use Rattle.pricing_held_reading.proofs.Numbers.{numbers_inside}
use Rattle.pricing_held_reading.proofs.Readings.{got_same, SmallNumber, marked_small, unmarked_small, plain_stand, RowStands, row_stands, listed}

-- ---- the header, whose numbers carry no marks

pub header_stands :
    (text : List ℕ) {h : Header} {next : ℕ} → lines_as header_of header_fields text 0 ≡ got h next →
    NumbersStand text 0 (6 ∷ 5 ∷ 7 ∷ 7 ∷ 4 ∷ 5 ∷ 6 ∷ 6 ∷ []) (marked_by 0 (header_values h)) next
header_stands text {h} {next} e =
    let lows : List ℤ = pos 1 ∷ pos 0 ∷ neg_ℤ (pos 2000000) ∷ replicate 5 (pos 0) in
    let highs : List ℤ = pos 12 ∷ pos 23 ∷ pos 2000000 ∷ pos 10000 ∷ replicate 3 (pos 200000000) ++ (pos 4096 ∷ []) in
    let keys = bytes "month=hour=lambda=factor=prc=eea1=short=count=" in
    let due = schema_fields keys lows highs in
    let given = lines_given header_of (read_fields due text 0).values (read_fields due text 0).end (rw header_computed at e) in
    let is : (read_fields due text 0).values ≡ header_values h = listed 8 (read_fields due text 0).values (reading_length due text 0 next given.ended) ∙ ap header_values given.made in
    subst (λ (values : List ℤ). NumbersStand text 0 (6 ∷ 5 ∷ 7 ∷ 7 ∷ 4 ∷ 5 ∷ 6 ∷ 6 ∷ []) (marked_by 0 values) next) is
    (plain_stand (computed_pieces 61 [] keys) lows highs refl refl text 0 given.ended)

-- ---- a load

-- the row of a load by its marks and its four numbers
abbrev pub load_row : ℕ → ℕ → List ℤ → List ℤ
load_row k marks numbers = pos k ∷ pos 0 ∷ (numbers ++ (pos 0 ∷ pos 0 ∷ pos marks ∷ []))

-- a number from 0 to 2000000 that may be marked, and a flag
power_small : (key : List ℕ) → SmallNumber (resource_power key)
power_small key = marked_small key (pos 0) (pos 2000000) (lit≤ tt) (lit≤ tt)

flag_small : (key : List ℕ) → SmallNumber (flag key)
flag_small key = unmarked_small key (pos 0) (pos 1) (lit≤ tt) (lit≤ tt)

controllable_stands : (text : List ℕ) (at : ℕ) {one : Resource} {next : ℕ} → lines_as (with_marks controllable_of) controllable_fields text at ≡ got one next → RowStands text at (5 ∷ 4 ∷ 8 ∷ 6 ∷ []) number_row (load_row 4) one next
unfolding number_row
controllable_stands =
    row_stands number_row controllable_of (load_row 4) _ controllable_parts
    (power_small (bytes "base="), (power_small (bytes "lpc="), (power_small (bytes "nonspin="), (power_small (bytes "regup="), tt))))
    (λ marks numbers long. ap (load_row 4 marks) (sym (listed 4 numbers long)))

load_stands : (text : List ℕ) (at : ℕ) {one : Resource} {next : ℕ} → lines_as (with_marks load_of) load_fields text at ≡ got one next → RowStands text at (6 ∷ 4 ∷ 4 ∷ 4 ∷ []) number_row (load_row 5) one next
unfolding number_row
load_stands =
    row_stands number_row load_of (load_row 5) _ load_parts
    (flag_small (bytes "rrsok="), (power_small (bytes "net="), (power_small (bytes "lpc="), (power_small (bytes "rrs="), tt))))
    (λ marks numbers long. ap (load_row 5 marks) (sym (listed 4 numbers long)))

-- ---- a generator

-- its row by its kind, its status, its marks and its six numbers
abbrev pub generator_row : ℤ → ℤ → ℕ → List ℤ → List ℤ
generator_row k s marks numbers = k ∷ s ∷ (numbers ++ (pos marks ∷ []))

pub record GeneratorStands (text : List ℕ) (k at : ℕ) (one : Resource) (next : ℕ) : Type 0 where
  pub status : ℕ
  pub middle : ℕ
  pub status_read : field_at status_field text at ≡ got status middle
  pub status_few : status < 7
  pub status_inside : at + 10 < length text
  pub numbers : RowStands text middle (4 ∷ 4 ∷ 4 ∷ 5 ∷ 8 ∷ 7 ∷ []) number_row (generator_row (pos k) (pos status)) one next

status_place_lem : (s : ℕ) → s < 7 → status_place (status_of s) ≡ pos s
status_place_lem zero h = refl
status_place_lem (suc zero) h = refl
status_place_lem (suc (suc zero)) h = refl
status_place_lem (suc (suc (suc zero))) h = refl
status_place_lem (suc (suc (suc (suc zero)))) h = refl
status_place_lem (suc (suc (suc (suc (suc zero))))) h = refl
status_place_lem (suc (suc (suc (suc (suc (suc zero)))))) h = refl
status_place_lem (suc (suc (suc (suc (suc (suc (suc s))))))) h = absurd (omega arith)

-- its line has ten bytes at least
status_end : (text : List ℕ) (at : ℕ) {s next : ℕ} → field_at status_field text at ≡ got s next → at + 10 ≤ next
status_end text at {s} {next} e = omega (arith, (got_same e (status_told text at (record { value = s; next = next; is = e })).is).1)

numbers_stand :
    (k : Kind) (s : ℕ) (text : List ℕ) (at : ℕ) {one : Resource} {next : ℕ} → lines_as (with_marks (generator_of k (status_of s))) generator_fields text at ≡ got one next →
    RowStands text at (4 ∷ 4 ∷ 4 ∷ 5 ∷ 8 ∷ 7 ∷ []) number_row (generator_row (kind_place k) (status_place (status_of s))) one next
unfolding number_row
numbers_stand k s =
    let row_of = generator_row (kind_place k) (status_place (status_of s)) in
    row_stands number_row (generator_of k (status_of s)) row_of _ generator_parts
    (marked_small (bytes "net=") (neg_ℤ (pos 2000000)) (pos 2000000) (lit≤ tt) (lit≤ tt), (power_small (bytes "lsl="), (power_small (bytes "hsl="), (power_small (bytes "base="), (power_small (bytes "nonspin="), (flag_small (bytes "cold30="), tt))))))
    (λ marks numbers long. ap (row_of marks) (sym (listed 6 numbers long)))

pub generator_stands : (text : List ℕ) (k at : ℕ) → k < 4 → {one : Resource} {next : ℕ} → of_kind text k at ≡ got one next → GeneratorStands text k at one next
generator_stands text k at h {one} {next} e = go k h e
  where
    by : (k : ℕ) (of : Kind) → kind_place of ≡ pos k → generator_at of text at ≡ got one next → GeneratorStands text k at one next
    by k of place e =
        let f = followed (field_at status_field text at) (λ s next. lines_as (with_marks (generator_of of (status_of s))) generator_fields text next) e in
        let numbers = numbers_stand of f.one text f.after f.then in
        let few : f.one < 7 = (word_line (bytes "status=") status_words text at f.given).0 in
        record {
          status = f.one;
          middle = f.after;
          status_read = f.given;
          status_few = few;
          status_inside = omega (arith, status_end text at f.given, numbers_inside text f.after 4 (4 ∷ 4 ∷ 5 ∷ 8 ∷ 7 ∷ []) numbers.values next numbers.stand);
          numbers = rw (← place, ← status_place_lem f.one few) numbers;
        }

    go : (k : ℕ) → k < 4 → of_kind text k at ≡ got one next → GeneratorStands text k at one next
    go zero h e = by 0 kind.Gen refl e
    go (suc zero) h e = by 1 kind.Wind refl e
    go (suc (suc zero)) h e = by 2 kind.Irr refl e
    go (suc (suc (suc zero))) h e = by 3 kind.Nuke refl e
    go (suc (suc (suc (suc k)))) h e = absurd (omega arith)

-- ---- a resource, its kind being known

module _ (text : List ℕ) (at : ℕ) {k start : ℕ} (kind_read : field_at kind_field text at ≡ got k start) where
  pub kind_few : k < 6
  kind_few = (word_line (bytes "kind=") kind_words text at kind_read).0

  module _ {one : Resource} {next : ℕ} (read : resource_at text at ≡ got one next) where
    pub of_kind_lem : of_kind text k start ≡ got one next
    of_kind_lem =
        let f = resource_followed text at read in
        let same = got_same kind_read f.given in
        rw (same.0, same.1) f.then

    pub of_controllable : k ≡ 4 → RowStands text start (5 ∷ 4 ∷ 8 ∷ 6 ∷ []) number_row (load_row k) one next
    of_controllable is = rw is (controllable_stands text start (rw is at of_kind_lem))

    pub of_load : k ≡ 5 → RowStands text start (6 ∷ 4 ∷ 4 ∷ 4 ∷ []) number_row (load_row k) one next
    of_load is = rw is (load_stands text start (rw is at of_kind_lem))

-- ---- the rows of 9 numbers as the code lays them, the marks last

module _ (row numbers : List ℤ) (long : length row ≡ 9) (a b marks : ℤ) where
  pub generator_laid :
      length numbers ≡ 6 → let laid : List ℤ = set (set row 0 a) 1 b in
      set (take 2 laid ++ (numbers ++ drop 6 (drop 2 laid))) 8 marks ≡ a ∷ b ∷ (numbers ++ (marks ∷ []))
  generator_laid six = rw (listed 9 row long, listed 6 numbers six)

  pub load_laid :
      length numbers ≡ 4 → let laid : List ℤ = set (set (set (set row 0 a) 1 b) 6 (pos 0)) 7 (pos 0) in
      set (take 2 laid ++ (numbers ++ drop 4 (drop 2 laid))) 8 marks ≡ a ∷ b ∷ (numbers ++ (pos 0 ∷ pos 0 ∷ marks ∷ []))
  load_laid four = rw (listed 9 row long, listed 4 numbers four)
