-- On which units a mark turns the snapshot back: that hangs on kind, status and flags alone; and the first marked number.
use Prim.Native.Nat.{ℕ, zero, suc, ◌+◌, ◌/◌, ◌%◌, ◌≤◌, ◌<◌, min}
use native.Mathlib.Omega.{arith}
use mathlib.Core.Path.{◌≡◌, refl}
use mathlib.Core.Bool.{Bool, true, false, not, ◌&&◌, ◌||◌, cond}
use mathlib.Core.List.{List, [], ◌∷◌}
use lib.Count.{count_trailing_zeros, under}
use lib.Dec.{eqb}
use lib.IntN.{ℤ, pos, ◌*ℤ◌}
use lib.Signed.{le_z, lt_z}
use borrow.Author.Tests.{eq-eqb, ne_eqb, eqb-true, eqb-false}
use Rattle.pricing_resource.specs.Online.{is_gen_or_wind, is_running, counted_online}
use Rattle.pricing_resource.specs.Offline.{counted_offline}
use Rattle.pricing_resource.specs.Suspect.{is_startup, marks_turn_back, marks, resource_line_count, lines_before_numbers, unmarked_before, suspect_place, suspect_from}
use Rattle.pricing_resource.specs.Flag.{is_one}
use Rattle.pricing_resource.specs.internal.Verdict.{verdict}
use Rattle.pricing_resource.specs.declared.Kind.{Kind}
use Rattle.pricing_resource.specs.declared.Status.{Status}
use Rattle.pricing_resource.specs.declared.Status.TheVariants as status
use Rattle.pricing_resource.specs.declared.Generator.{Generator}
use Rattle.pricing_resource.specs.declared.Controllable.{Controllable}
use Rattle.pricing_resource.specs.declared.Load.{Load}
use Rattle.pricing_resource.specs.declared.Resource.{Resource}
use Rattle.pricing_resource.specs.declared.Resource.TheVariants as resource

-- ---- which units

-- the three ways to be among them, of a unit that is on, starting, or neither
on : (known enough : Bool) → (((known && (true && enough)) || false) || (((known && true) || false) || (known && false))) ≡ known
on true true = refl
on true false = refl
on false enough = refl

starting : (known above enough : Bool) → (((known && (above && enough)) || false) || (((known && above) || false) || (known && true))) ≡ known
starting true true true = refl
starting true true false = refl
starting true false enough = refl
starting false above enough = refl

neither : (known off : Bool) → (((known && false) || off) || (((known && false) || off) || (known && false))) ≡ off
neither true true = refl
neither true false = refl
neither false true = refl
neither false false = refl

-- no verdict hangs on a number that may be marked
pub generator_verdict : (g : Generator) → marks_turn_back (resource.Generator g) ≡ verdict g.kind g.status g.cold30
unfolding marks_turn_back counted_online counted_offline
generator_verdict g = go g.status
  where
    go :
        (s : Status) →
        (((is_gen_or_wind g.kind && (is_running s g.nonspin && le_z (pos 95 *ℤ g.lsl) (pos 100 *ℤ g.net))) || counted_offline g.kind s g.cold30)
        || (((is_gen_or_wind g.kind && is_running s g.nonspin) || counted_offline g.kind s g.cold30) || (is_gen_or_wind g.kind && is_startup s))) ≡ verdict g.kind s g.cold30
    go status.On = on (is_gen_or_wind g.kind) (le_z (pos 95 *ℤ g.lsl) (pos 100 *ℤ g.net))
    go status.Off = neither (is_gen_or_wind g.kind) (counted_offline g.kind status.Off g.cold30)
    go status.OffNs = neither (is_gen_or_wind g.kind) true
    go status.OnTest = neither (is_gen_or_wind g.kind) false
    go status.Startup = starting (is_gen_or_wind g.kind) (lt_z (pos 0) g.nonspin) (le_z (pos 95 *ℤ g.lsl) (pos 100 *ℤ g.net))
    go status.Shutdown = neither (is_gen_or_wind g.kind) false
    go status.Out = neither (is_gen_or_wind g.kind) false

pub controllable_verdict : (c : Controllable) → marks_turn_back (resource.Controllable c) ≡ true
unfolding marks_turn_back
controllable_verdict c = refl

pub load_verdict : (l : Load) → marks_turn_back (resource.Load l) ≡ true
unfolding marks_turn_back
load_verdict l = refl

-- a generator that is none of them is counted neither on line nor off line
pub generator_outside : (g : Generator) → marks_turn_back (resource.Generator g) ≡ false → (counted_online g ≡ false) × (counted_offline g.kind g.status g.cold30 ≡ false)
unfolding marks_turn_back
generator_outside g e = go (counted_online g) (counted_offline g.kind g.status g.cold30) _ e
  where
    go : (online offline would : Bool) → ((online || offline) || would) ≡ false → (online ≡ false) × (offline ≡ false)
    go true offline would e = let z : ◌≡◌ {A = ℕ} 0 1 = cc in absurd (omega arith)
    go false true would e = let z : ◌≡◌ {A = ℕ} 0 1 = cc in absurd (omega arith)
    go false false would e = (refl, refl)

-- ---- the first marked number

pub before_none : (marks : ℕ) → unmarked_before 0 marks ≡ 0
unfolding unmarked_before
before_none marks = refl

pub before_here : (n marks : ℕ) → marks % 2 ≡ 1 → unmarked_before (suc n) marks ≡ 0
unfolding unmarked_before
before_here n marks e = rw (eq-eqb (marks % 2) 1 e)

pub before_later : (n marks : ℕ) → (marks % 2 ≡ 1 → ⊥) → unmarked_before (suc n) marks ≡ suc (unmarked_before n (marks / 2))
unfolding unmarked_before
before_later n marks e = rw (ne_eqb (marks % 2) 1 e)

pub before_few : (n marks : ℕ) → unmarked_before n marks ≤ n
unfolding unmarked_before
before_few zero marks = omega arith
before_few (suc n) marks = go (eqb (marks % 2) 1) (before_few n (marks / 2))
  where
    go : (b : Bool) → unmarked_before n (marks / 2) ≤ n → cond b 0 (suc (unmarked_before n (marks / 2))) ≤ suc n
    go true h = omega arith
    go false h = omega arith

pub lines_few : (one : Resource) → lines_before_numbers one ≤ 3
lines_few (resource.Generator g) = omega arith
lines_few (resource.Controllable c) = omega arith
lines_few (resource.Load l) = omega arith

pub count_few : (one : Resource) → resource_line_count one ≤ 9
count_few (resource.Generator g) = omega arith
count_few (resource.Controllable c) = omega arith
count_few (resource.Load l) = omega arith

-- the marked line is one of the resource's
pub place_few : (one : Resource) → suspect_place one ≤ 9
unfolding suspect_place
place_few one = go (marks_turn_back one && not (eqb (marks one) 0))
  where
    go : (b : Bool) → cond b (lines_before_numbers one + unmarked_before 5 (marks one) + 1) 0 ≤ 9
    go true = omega (arith, lines_few one, before_few 5 (marks one))
    go false = omega arith

module _ (one : Resource) where
  pub place_unmarked : marks one ≡ 0 → suspect_place one ≡ 0
  unfolding suspect_place
  place_unmarked e = go (marks_turn_back one)
    where
      go : (b : Bool) → cond (b && not (eqb (marks one) 0)) (lines_before_numbers one + unmarked_before 5 (marks one) + 1) 0 ≡ 0
      go true = rw (eq-eqb (marks one) 0 e)
      go false = refl

  pub place_fine : marks_turn_back one ≡ false → suspect_place one ≡ 0
  unfolding suspect_place
  place_fine e = rw e

  pub place_suspect : marks_turn_back one ≡ true → (marks one ≡ 0 → ⊥) → suspect_place one ≡ lines_before_numbers one + unmarked_before 5 (marks one) + 1
  unfolding suspect_place
  place_suspect e n = rw (e, ne_eqb (marks one) 0 n)

-- those are the zeros below the lowest digit 1 of the marks
before_zeros : (n k marks : ℕ) → n ≤ k → unmarked_before n marks ≡ min (count_trailing_zeros k marks) n
unfolding unmarked_before count_trailing_zeros
before_zeros zero k marks h = omega arith
before_zeros (suc n) zero marks h = absurd (omega arith)
before_zeros (suc n) (suc k) marks h = go (marks % 2) (omega arith) (before_zeros n k (marks / 2) (omega arith))
  where
    go :
        (digit : ℕ) → digit < 2 → unmarked_before n (marks / 2) ≡ min (count_trailing_zeros k (marks / 2)) n →
        cond (eqb digit 1) 0 (suc (unmarked_before n (marks / 2))) ≡ min (under digit (count_trailing_zeros k (marks / 2))) (suc n)
    go zero few later = omega arith
    go (suc zero) few later = omega arith
    go (suc (suc digit)) few later = absurd (omega arith)

pub before_first : (marks : ℕ) → unmarked_before 5 marks ≡ min (count_trailing_zeros 64 marks) 5
before_first marks = before_zeros 5 64 marks (omega arith)

-- ---- what the place and the line hang on

-- a flag that is no 1 is as good as 0
pub verdict-flag : (k : Kind) (s : Status) (one other : ℤ) → is_one one ≡ is_one other → verdict k s one ≡ verdict k s other
unfolding counted_offline
verdict-flag k status.On one other e = refl
verdict-flag k status.Off one other e = rw e
verdict-flag k status.OffNs one other e = refl
verdict-flag k status.OnTest one other e = refl
verdict-flag k status.Startup one other e = refl
verdict-flag k status.Shutdown one other e = refl
verdict-flag k status.Out one other e = refl

-- on kind, status, flag and marks alone
pub generator_place :
    (g h : Generator) → g.kind ≡ h.kind → g.status ≡ h.status → is_one g.cold30 ≡ is_one h.cold30 → g.marks ≡ h.marks →
    suspect_place (resource.Generator g) ≡ suspect_place (resource.Generator h)
unfolding suspect_place
generator_place g h kind status flag marks =
    rw (generator_verdict g, generator_verdict h, verdict-flag g.kind g.status g.cold30 h.cold30 flag, kind, status, marks)

pub controllable_place : (c d : Controllable) → c.marks ≡ d.marks → suspect_place (resource.Controllable c) ≡ suspect_place (resource.Controllable d)
unfolding suspect_place
controllable_place c d marks = rw (controllable_verdict c, controllable_verdict d, marks)

pub load_place : (l m : Load) → l.marks ≡ m.marks → suspect_place (resource.Load l) ≡ suspect_place (resource.Load m)
unfolding suspect_place
load_place l m marks = rw (load_verdict l, load_verdict m, marks)

-- ---- the first line of several resources

pub suspect_none : (before : ℕ) → suspect_from before [] ≡ 0
unfolding suspect_from
suspect_none before = refl

module _ (before : ℕ) (one : Resource) (others : List Resource) where
  pub suspect_more : suspect_from before (one ∷ others) ≡ cond (eqb (suspect_place one) 0) (suspect_from (before + resource_line_count one) others) (before + suspect_place one)
  unfolding suspect_from
  suspect_more = refl

  pub suspect_here : (suspect_place one ≡ 0 → ⊥) → suspect_from before (one ∷ others) ≡ before + suspect_place one
  unfolding suspect_from
  suspect_here e = rw (ne_eqb (suspect_place one) 0 e)

  pub suspect_later : suspect_place one ≡ 0 → suspect_from before (one ∷ others) ≡ suspect_from (before + resource_line_count one) others
  unfolding suspect_from
  suspect_later e = rw (eq-eqb (suspect_place one) 0 e)

-- none of several resources turns the snapshot back
pub suspect_apart : (before : ℕ) (one : Resource) (others : List Resource) → suspect_from before (one ∷ others) ≡ 0 → (suspect_place one ≡ 0) × (suspect_from (before + resource_line_count one) others ≡ 0)
unfolding suspect_from
suspect_apart before one others e = go (eqb (suspect_place one) 0) refl e
  where
    go : (b : Bool) → eqb (suspect_place one) 0 ≡ b → cond b (suspect_from (before + resource_line_count one) others) (before + suspect_place one) ≡ 0 →
        (suspect_place one ≡ 0) × (suspect_from (before + resource_line_count one) others ≡ 0)
    go true h e = (eqb-true (suspect_place one) 0 h, e)
    go false h e = absurd (eqb-false (suspect_place one) 0 h (omega arith))

-- a unit that turns the snapshot back where it is marked, and does not, is unmarked
pub place_none : (one : Resource) → marks_turn_back one ≡ true → suspect_place one ≡ 0 → marks one ≡ 0
place_none one e none = go (eqb (marks one) 0) refl
  where
    go : (b : Bool) → eqb (marks one) 0 ≡ b → marks one ≡ 0
    go true h = eqb-true (marks one) 0 h
    go false h = absurd (omega (arith, none, place_suspect one e (eqb-false (marks one) 0 h)))
