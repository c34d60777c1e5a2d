-- Document 02, W-206: what is promised of readings marked suspect.
use Rattle.std.specs.Prelude.{◌≡◌, true, List, [], ◌∷◌, ℕ}
use Rattle.curve_set.specs.declared.CurveSet.{CurveSet}
use Rattle.pricing_resource.specs.Suspect.{marks, without_marks, marks_turn_back}
use Rattle.pricing_resource.specs.declared.Generator.{Generator}
use Rattle.pricing_resource.specs.declared.Controllable.{Controllable}
use Rattle.pricing_resource.specs.declared.Load.{Load}
use Rattle.pricing_resource.specs.declared.Resource.{Resource}
use Rattle.pricing_resource.specs.declared.Resource.TheVariants as resource
use Rattle.pricing_sums.specs.Sums.{no_sums}
use Rattle.pricing_sums.specs.Part.{part_of}
use Rattle.pricing_sums.specs.declared.header.Header.{Header}
use Rattle.pricing_snapshot.specs.Snapshot.{Entry, read, snapshot_in}
use Rattle.pricing.specs.Pricing.{priced}

-- ---- what the statements speak of

-- the same kind, status and flags, which carry no marks; all numbers may differ
pub data SameUnit : Resource → Resource → Type 0 where
  same_generator :
      {one other : Generator} → one.kind ≡ other.kind → one.status ≡ other.status → one.cold30 ≡ other.cold30 → SameUnit (resource.Generator one) (resource.Generator other)
  same_controllable : {one other : Controllable} → SameUnit (resource.Controllable one) (resource.Controllable other)
  same_load : {one other : Load} → one.rrsok ≡ other.rrsok → SameUnit (resource.Load one) (resource.Load other)

-- one of some entries
pub data Among (entry : Entry) : List Entry → Type 0 where
  first_of_them : {others : List Entry} → Among entry (entry ∷ others)
  later_of_them : {other : Entry} {others : List Entry} → Among entry others → Among entry (other ∷ others)

-- the same ids and the same resources but for their marks
pub data EntriesSameButMarks : List Entry → List Entry → Type 0 where
  none_same : EntriesSameButMarks [] []
  one_same :
      {first second : Entry} {others others' : List Entry} → first.id ≡ second.id → without_marks first.resource ≡ without_marks second.resource →
      EntriesSameButMarks others others' → EntriesSameButMarks (first ∷ others) (second ∷ others')

-- ---- on which units a mark turns the snapshot back

-- no verdict hangs on a number that may be marked
abbrev pub VerdictsRestOnNoMarkedNumber : Type 0
VerdictsRestOnNoMarkedNumber = (one other : Resource) → SameUnit one other → marks_turn_back one ≡ marks_turn_back other

-- a unit that adds anything to a sum is among these units, and so it is whatever its numbers are
abbrev pub UnitsThatAddAreAmongThem : Type 0
UnitsThatAddAreAmongThem = (one other : Resource) → SameUnit one other → (part_of one ≡ no_sums → ⊥) → marks_turn_back other ≡ true

-- ---- so no marked number enters a price

-- in an accepted snapshot every number of a unit that enters a sum, or would, is unmarked, also where it adds 0
abbrev pub NoMarkedNumberEntersASum : Type 0
NoMarkedNumberEntersASum =
    (text : List ℕ) (h : Header) (entries : List Entry) → snapshot_in text ≡ read h entries →
    (entry : Entry) → Among entry entries → marks_turn_back entry.resource ≡ true → marks entry.resource ≡ 0

-- two accepted snapshots that differ only in marks have the same six numbers
abbrev pub MarksMoveNoPrice : Type 0
MarksMoveNoPrice =
    (curves : CurveSet) (text text' : List ℕ) (h : Header) (entries entries' : List Entry) → snapshot_in text ≡ read h entries → snapshot_in text' ≡ read h entries' →
    EntriesSameButMarks entries entries' → priced curves text ≡ priced curves text'
