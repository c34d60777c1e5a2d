-- Laws on a record's numbers in the order of the layout: group after group, there and back; and what an accepted booking has.
use Prim.Native.Nat.{ℕ, zero, suc, ◌+◌, ◌*◌, ◌<◌}
use native.Mathlib.Numerals.{add-one}
use native.Mathlib.Omega.{arith}
use mathlib.Core.Bool.{Bool, true, false}
use mathlib.Core.List.{List, [], ◌∷◌, ◌++◌, append_assoc}
use mathlib.Core.Path.{◌≡◌, refl, sym, ◌∙◌}
use borrow.Author.Tests.{le-ltb}
use lib.IntN.{ℤ, pos, negsuc}
use lib.ListN.{length, take, drop, get_or, set}
use lib.Seq.{drop-cons, drop-drop, get_or-drop, lt-length-set, take-suc-set}
use Rattle.std.specs.Prelude.{Result, Ok, Err}
use Rattle.text_refusal.specs.declared.refusal.Refusal.{Refusal}
use Rattle.text_schema.specs.Schema.{value}
use Rattle.curve_record.specs.Record.{no_hours}
use Rattle.curve_record.specs.Possible.{possible, record_possible}
use Rattle.curve_record.proofs.RecordGroups.{group_held}
use Rattle.curve_record.proofs.PossibleGroups.{possible_at, possible_is}
use Rattle.curve_booking.specs.Booking.{booked}
use Rattle.curve_booking.proofs.Booked.{booked_impossible}
use Rattle.curve_booking.proofs.Closure.{booked-possible}
use Rattle.curve_record.specs.declared.Group.{Group}
use Rattle.curve_record.specs.declared.Record.{Record}
use Rattle.ordc.specs.Record.{count_of, groups_of, group_values, record_of}
use Rattle.ordc.specs.Promises.{RecordIsReadBack, RecordIsWrittenBack}

-- the group whose numbers start at a place
abbrev pub group_from : List ℤ → ℕ → Group
group_from values place = record { count = count_of (value values place); sum = value values (place + 1); squares = value values (place + 2) }

-- one group more of the numbers
pub groups_more :
    (groups : List Group) (values : List ℤ) (i n : ℕ) → i < length groups →
    take i groups ++ groups_of (suc n) (drop (3 * i) values) ≡ take (i + 1) (set groups i (group_from values (3 * i))) ++ groups_of n (drop (3 * (i + 1)) values)
unfolding groups_of
groups_more groups values i n h =
    let here : 3 * i + 0 ≡ 3 * i = omega arith in
    let next : 3 * (i + 1) ≡ 3 * i + 3 = omega arith in
    rw (
      next,
      add-one i,
      take-suc-set groups i (group_from values (3 * i)) h,
      get_or-drop (3 * i) values 0 (pos 0),
      get_or-drop (3 * i) values 1 (pos 0),
      get_or-drop (3 * i) values 2 (pos 0),
      drop-drop 3 (3 * i) values,
      here,
    ) (simp append_assoc)

-- the numbers of one group more
abbrev pub with_values : List ℤ → ℕ → Group → List ℤ
with_values values place g = set (set (set values place (pos g.count)) (place + 1) g.sum) (place + 2) g.squares

pub values_more :
    (groups : List Group) (values : List ℤ) (i : ℕ) → i < length groups → 3 * i + 2 < length values →
    take (3 * i) values ++ group_values (drop i groups) ≡ take (3 * (i + 1)) (with_values values (3 * i) (get_or groups i no_hours)) ++ group_values (drop (i + 1) groups)
unfolding group_values
values_more groups values i h k =
    let g : Group = get_or groups i no_hours in
    let counted : List ℤ = set values (3 * i) (pos g.count) in
    let summed : List ℤ = set counted (3 * i + 1) g.sum in
    let three : 3 * (i + 1) ≡ suc (3 * i + 2) = omega arith in
    let two : 3 * i + 2 ≡ suc (3 * i + 1) = omega arith in
    let one : 3 * i + 1 ≡ suc (3 * i) = omega arith in
    let first : take (suc (3 * i)) counted ≡ take (3 * i) values ++ (pos g.count ∷ []) = take-suc-set values (3 * i) (pos g.count) (omega arith) in
    let second : take (suc (3 * i + 1)) summed ≡ take (3 * i + 1) counted ++ (g.sum ∷ []) =
    take-suc-set counted (3 * i + 1) g.sum (lt-length-set values (3 * i) (pos g.count) (omega arith)) in
    let third : take (suc (3 * i + 2)) (set summed (3 * i + 2) g.squares) ≡ take (3 * i + 2) summed ++ (g.squares ∷ []) =
    take-suc-set summed (3 * i + 2) g.squares (lt-length-set counted (3 * i + 1) g.sum (lt-length-set values (3 * i) (pos g.count) k)) in
    let fourth : take (3 * i + 2) summed ≡ take (3 * i + 1) counted ++ (g.sum ∷ []) = rw two second in
    let fifth : take (3 * i + 1) counted ≡ take (3 * i) values ++ (pos g.count ∷ []) = rw one first in
    rw (drop-cons groups i no_hours h, three, add-one i, third, fourth, fifth) (simp append_assoc)

-- ---- there and back

groups_of_values : (n : ℕ) (groups : List Group) → length groups ≡ n → groups_of n (group_values groups) ≡ groups
unfolding groups_of group_values
groups_of_values zero [] l = refl
groups_of_values zero (g ∷ groups) l = absurd (omega arith)
groups_of_values (suc n) [] l = absurd (omega arith)
groups_of_values (suc n) (g ∷ groups) l = rw (le-ltb g.count 0 (omega arith), groups_of_values n groups (omega arith))

pub record_is_read_back : RecordIsReadBack
record_is_read_back history l = rw (groups_of_values 24 history.groups l)

count_back : (z squares : ℤ) (sum : ℤ) → possible (record { count = count_of z; sum = sum; squares = squares }) ≡ true → pos (count_of z) ≡ z
count_back (pos n) squares sum e = rw (le-ltb n 0 (omega arith))
count_back (negsuc n) squares sum e = absurd (omega (arith, (possible_is (record { count = 1001; sum = sum; squares = squares }) e).small.count))

values_of_groups :
    (n : ℕ) (values : List ℤ) → length values ≡ 3 * n → ((i : ℕ) → i < n → possible (get_or (groups_of n values) i no_hours) ≡ true) → group_values (groups_of n values) ≡ values
unfolding groups_of group_values
values_of_groups zero [] l each = refl
values_of_groups zero (count ∷ values) l each = absurd (omega arith)
values_of_groups (suc n) [] l each = absurd (omega arith)
values_of_groups (suc n) (count ∷ []) l each = absurd (omega arith)
values_of_groups (suc n) (count ∷ (sum ∷ [])) l each = absurd (omega arith)
values_of_groups (suc n) (count ∷ (sum ∷ (squares ∷ values))) l each = rw (count_back count squares sum (each 0 (omega arith)), values_of_groups n values (omega arith) (λ i h. each (suc i) (omega arith)))

pub record_is_written_back : RecordIsWrittenBack
record_is_written_back values l e = values_of_groups 24 values l (λ i h. rw (group_held (record_of values) i) at (possible_at (record_of values) e i h))

-- an accepted booking has a record that is not impossible
pub accepted_possible : (history : Record) (text : List ℕ) (after : Record) → booked history text ≡ Ok after → record_possible after ≡ true
accepted_possible history text after is = go (record_possible history) refl
  where
    go : (b : Bool) → record_possible history ≡ b → record_possible after ≡ true
    go true e = rw is at (booked-possible history text e)
    go false e =
        let n : ◌≡◌ {A = Result Record Refusal} (Err (record { number = 1; line = 0 })) (Ok after) = sym (booked_impossible history text e) ∙ is in cc
