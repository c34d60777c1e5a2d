-- What a resource adds to the sums: raised resources add no less, and a resource whose fields are in range adds no more than its share of the greatest sums.
use Prim.Native.Nat.{ℕ, ◌+◌, ◌≤◌}
use native.Mathlib.Nat.{mul-zero, mul-le-mul_right}
use native.Mathlib.Numerals.{one-add}
use native.Mathlib.Omega.{arith}
use mathlib.Core.Path.{◌≡◌, refl, sym, ◌∙◌}
use mathlib.Core.Bool.{Bool, true, false, cond}
use mathlib.Core.List.{List, [], ◌∷◌}
use lib.Dec.{lit≤}
use lib.IntN.{ℤ, pos, ◌+ℤ◌, ◌-ℤ◌}
use lib.ListN.{length}
use lib.Signed.{◌≤ℤ◌}
use mir.Syntax.{w64}
use mir.Val.{SFits}
use Rattle.integer.proofs.Difference.{view, to_ℕ}
use Rattle.integer.proofs.Ranges.{between_within}
use Rattle.pricing_sums.specs.Sums.{no_sums, plus, sums_possible}
use Rattle.pricing_sums.specs.declared.Sums.{Sums}
use Rattle.pricing_resource.specs.Flag.{is_one}
use Rattle.pricing_resource.specs.Online.{counted_online}
use Rattle.pricing_resource.specs.Offline.{counted_offline}
use Rattle.pricing_resource.specs.Suspect.{without_marks, marks_turn_back}
use Rattle.pricing_resource.proofs.Counted.{counted_online_same}
use Rattle.pricing_resource.proofs.Suspects.{generator_outside, controllable_verdict, load_verdict}
use Rattle.pricing_sums.specs.Part.{part_of, sums_of}
use Rattle.pricing_sums.specs.internal.Range.{Times, SumsWithin}
use Rattle.pricing_resource.specs.internal.Range.{Between, ResourcePower, ResourceInRange}
use Rattle.pricing_resource.specs.declared.Generator.{Generator}
use Rattle.pricing_resource.specs.declared.Controllable.{Controllable}
use Rattle.pricing_resource.specs.declared.Load.{Load}
use Rattle.pricing_resource.specs.declared.Resource.{Resource}
use Rattle.pricing_resource.specs.declared.Resource.TheVariants as resource

-- ---- what each kind of resource adds

-- a unit counted on line
pub part_online :
    (g : Generator) → counted_online g ≡ true →
    part_of (resource.Generator g) ≡
    record { generation = g.hsl -ℤ g.base -ℤ g.nonspin; controllable = pos 0; offline = g.nonspin; validated = pos 0; responsive = pos 0 }
unfolding part_of
part_online g online = rw online

-- a unit counted off line
pub part_offline :
    (g : Generator) → counted_online g ≡ false → counted_offline g.kind g.status g.cold30 ≡ true →
    part_of (resource.Generator g) ≡ record { generation = pos 0; controllable = pos 0; offline = g.hsl; validated = pos 0; responsive = pos 0 }
unfolding part_of
part_offline g online offline = rw (online, offline)

-- any other unit adds nothing
pub part_uncounted :
    (g : Generator) → counted_online g ≡ false → counted_offline g.kind g.status g.cold30 ≡ false → part_of (resource.Generator g) ≡ no_sums
unfolding part_of
part_uncounted g online offline = rw (online, offline)

-- a controllable load
pub part_controllable :
    (c : Controllable) →
    part_of (resource.Controllable c) ≡
    record { generation = pos 0; controllable = c.base -ℤ c.lpc -ℤ c.nonspin +ℤ c.regup; offline = c.nonspin; validated = pos 0; responsive = pos 0 }
unfolding part_of
part_controllable c = refl

-- another load: the net less LPC of a validated one, the RRS of every one
pub part_load :
    (l : Load) →
    part_of (resource.Load l) ≡
    record {
      generation = pos 0;
      controllable = pos 0;
      offline = pos 0;
      validated = cond (is_one l.rrsok) (l.net -ℤ l.lpc) (pos 0);
      responsive = l.rrs;
    }
unfolding part_of
part_load l = refl

-- ---- what resources can add

pub cond_between : (b : Bool) {low high x y : ℤ} → Between low high x → Between low high y → Between low high (cond b x y)
cond_between true h k = h
cond_between false h k = k

less_between : (x y z : ℤ) → ResourcePower x → ResourcePower y → ResourcePower z → Times 1 4000000 2000000 (x -ℤ y -ℤ z)
less_between x y z = rw (view x, view y, view z) (simp to_ℕ (omega arith))

load_between : (x y : ℤ) → ResourcePower x → ResourcePower y → Times 1 2000000 2000000 (x -ℤ y)
load_between x y = rw (view x, view y) (simp to_ℕ (omega arith))

controllable_between : (x y z u : ℤ) → ResourcePower x → ResourcePower y → ResourcePower z → ResourcePower u → Times 1 4000000 4000000 (x -ℤ y -ℤ z +ℤ u)
controllable_between x y z u = rw (view x, view y, view z, view u) (simp to_ℕ (omega arith))

zero_between : (n low high : ℕ) → Times n low high (pos 0)
zero_between n low high = simp to_ℕ (omega arith)

times_plus : (n m low high : ℕ) (x y : ℤ) → Times n low high x → Times m low high y → Times (n + m) low high (x +ℤ y)
times_plus n m low high x y = rw (view x, view y) (simp to_ℕ (omega arith))

times_more : (n m low high : ℕ) (z : ℤ) → n ≤ m → Times n low high z → Times m low high z
times_more n m low high z h = rw (view z) (simp to_ℕ (omega (arith, mul-le-mul_right low h, mul-le-mul_right high h)))

-- a resource in range adds no more than its share
pub part-within : (one : Resource) → ResourceInRange one → SumsWithin 1 (part_of one)
unfolding part_of
part-within (resource.Generator g) r =
    record {
      generation = cond_between (counted_online g) (less_between g.hsl g.base g.nonspin r.hsl r.base r.nonspin) (zero_between 1 4000000 2000000);
      controllable = zero_between 1 4000000 4000000;
      offline = cond_between (counted_online g) r.nonspin (cond_between (counted_offline g.kind g.status g.cold30) r.hsl (zero_between 1 0 2000000));
      validated = zero_between 1 2000000 2000000;
      responsive = zero_between 1 0 2000000;
    }
part-within (resource.Controllable c) r =
    record {
      generation = zero_between 1 4000000 2000000;
      controllable = controllable_between c.base c.lpc c.nonspin c.regup r.base r.lpc r.nonspin r.regup;
      offline = r.nonspin;
      validated = zero_between 1 2000000 2000000;
      responsive = zero_between 1 0 2000000;
    }
part-within (resource.Load l) r =
    record {
      generation = zero_between 1 4000000 2000000;
      controllable = zero_between 1 4000000 4000000;
      offline = zero_between 1 0 2000000;
      validated = cond_between (is_one l.rrsok) (load_between l.net l.lpc r.net r.lpc) (zero_between 1 2000000 2000000);
      responsive = r.rrs;
    }

pub plus-within : (n m : ℕ) {a b : Sums} → SumsWithin n a → SumsWithin m b → SumsWithin (n + m) (plus a b)
unfolding plus
plus-within n m {a} {b} h k =
    record {
      generation = times_plus n m 4000000 2000000 a.generation b.generation h.generation k.generation;
      controllable = times_plus n m 4000000 4000000 a.controllable b.controllable h.controllable k.controllable;
      offline = times_plus n m 0 2000000 a.offline b.offline h.offline k.offline;
      validated = times_plus n m 2000000 2000000 a.validated b.validated h.validated k.validated;
      responsive = times_plus n m 0 2000000 a.responsive b.responsive h.responsive k.responsive;
    }

pub within_more : {n m : ℕ} {s : Sums} → n ≤ m → SumsWithin n s → SumsWithin m s
within_more {n} {m} {s} l h =
    record {
      generation = times_more n m 4000000 2000000 s.generation l h.generation;
      controllable = times_more n m 4000000 4000000 s.controllable l h.controllable;
      offline = times_more n m 0 2000000 s.offline l h.offline;
      validated = times_more n m 2000000 2000000 s.validated l h.validated;
      responsive = times_more n m 0 2000000 s.responsive l h.responsive;
    }

pub none_within : SumsWithin 0 no_sums
none_within =
    record {
      generation = zero_between 0 4000000 2000000;
      controllable = zero_between 0 4000000 4000000;
      offline = zero_between 0 0 2000000;
      validated = zero_between 0 2000000 2000000;
      responsive = zero_between 0 0 2000000;
    }

pub data AllInRange : List Resource → Type 0 where
  none_in_range : AllInRange []
  one_in_range : {one : Resource} {others : List Resource} → ResourceInRange one → AllInRange others → AllInRange (one ∷ others)

-- the sums of resources in range, by their number
pub sums_within : {resources : List Resource} → AllInRange resources → SumsWithin (length resources) (sums_of resources)
unfolding sums_of
sums_within none_in_range = none_within
sums_within (one_in_range {one} {others} r rest) = rw one-add at (plus-within 1 (length others) (part-within one r) (sums_within rest))

pub within-possible : {s : Sums} → SumsWithin 4096 s → sums_possible s ≡ true
unfolding sums_possible
within-possible h =
    rw (
      between_within h.generation,
      between_within h.controllable,
      between_within h.offline,
      between_within h.validated,
      between_within h.responsive,
    )

-- the sums of at most 4096 resources in range are possible, and what is off line is not negative
pub sums_possible_lem : {resources : List Resource} → AllInRange resources → length resources ≤ 4096 → sums_possible (sums_of resources) ≡ true
sums_possible_lem r l = within-possible (within_more l (sums_within r))

pub offline_nonneg : {resources : List Resource} → AllInRange resources → pos 0 ≤ℤ (sums_of resources).offline
offline_nonneg {resources} r = rw (mul-zero (length resources)) at (sums_within r).offline.0

-- the sums of at most 4096 resources fit their width, and so does each number added on the way
times_fits : (low high : ℕ) (z : ℤ) → low ≤ 4000000 → high ≤ 4000000 → Times 4096 low high z → SFits w64 z
times_fits low high z l h = rw (view z) (simp to_ℕ (omega arith))

pub record SumsFit (s : Sums) : Type 0 where
  pub generation : SFits w64 s.generation
  pub controllable : SFits w64 s.controllable
  pub offline : SFits w64 s.offline
  pub validated : SFits w64 s.validated
  pub responsive : SFits w64 s.responsive

pub plus_fits : {a b : Sums} → SumsWithin 4095 a → SumsWithin 1 b → SumsFit (plus a b)
plus_fits {a} {b} h k =
    let s = plus-within 4095 1 h k in
    record {
      generation = times_fits 4000000 2000000 (plus a b).generation (lit≤ tt) (lit≤ tt) s.generation;
      controllable = times_fits 4000000 4000000 (plus a b).controllable (lit≤ tt) (lit≤ tt) s.controllable;
      offline = times_fits 0 2000000 (plus a b).offline (lit≤ tt) (lit≤ tt) s.offline;
      validated = times_fits 2000000 2000000 (plus a b).validated (lit≤ tt) (lit≤ tt) s.validated;
      responsive = times_fits 0 2000000 (plus a b).responsive (lit≤ tt) (lit≤ tt) s.responsive;
    }

-- ---- marks

-- a unit on which no mark turns the snapshot back adds nothing
pub part_outside : (one : Resource) → marks_turn_back one ≡ false → part_of one ≡ no_sums
part_outside (resource.Generator g) e = let none = generator_outside g e in part_uncounted g none.0 none.1
part_outside (resource.Controllable c) e = let both : true ≡ false = sym (controllable_verdict c) ∙ e in let z : ◌≡◌ {A = ℕ} 0 1 = cc in absurd (omega arith)
part_outside (resource.Load l) e = let both : true ≡ false = sym (load_verdict l) ∙ e in let z : ◌≡◌ {A = ℕ} 0 1 = cc in absurd (omega arith)

-- marks add nothing
pub part_unmarked : (one : Resource) → part_of (without_marks one) ≡ part_of one
unfolding part_of
part_unmarked (resource.Generator g) =
    let plain : Generator = record { kind = g.kind; status = g.status; net = g.net; lsl = g.lsl; hsl = g.hsl; base = g.base; nonspin = g.nonspin; cold30 = g.cold30; marks = 0 } in
    rw (counted_online_same plain g refl refl refl refl refl)
part_unmarked (resource.Controllable c) = refl
part_unmarked (resource.Load l) = refl
