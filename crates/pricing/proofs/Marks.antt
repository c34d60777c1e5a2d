-- The proofs of the statements on readings marked suspect.
use Prim.Native.Nat.{ℕ, ◌+◌}
use mathlib.Core.Bool.{Bool, true, false}
use mathlib.Core.List.{List}
use mathlib.Core.Path.{◌≡◌, refl, sym, ap, ◌∙◌}
use Rattle.pricing_resource.specs.Suspect.{marks, marks_turn_back, resource_line_count, suspect_from}
use Rattle.pricing_resource.proofs.Suspects.{generator_verdict, controllable_verdict, load_verdict, suspect_apart, place_none}
use Rattle.pricing_sums.specs.Part.{part_of, sums_of}
use Rattle.pricing_sums.proofs.Addition.{sums_more}
use Rattle.pricing_sums.proofs.Parts.{part_outside, part_unmarked}
use Rattle.pricing_snapshot.specs.Snapshot.{Entry, resources_of}
use Rattle.pricing_snapshot.proofs.Readings.{snapshot_unmarked}
use Rattle.pricing.specs.Marks.{same_generator, same_controllable, same_load, VerdictsRestOnNoMarkedNumber, UnitsThatAddAreAmongThem, Among, first_of_them, later_of_them, NoMarkedNumberEntersASum, EntriesSameButMarks, none_same, one_same, MarksMoveNoPrice}
use Rattle.pricing.proofs.Pricing.{prices_depend_on_header_and_sums}

pub verdicts_rest_on_no_marked_number : VerdictsRestOnNoMarkedNumber
verdicts_rest_on_no_marked_number a b (same_generator {one} {other} kind status cold30) = generator_verdict one ∙ rw (kind, status, cold30) (sym (generator_verdict other))
verdicts_rest_on_no_marked_number a b (same_controllable {one} {other}) = controllable_verdict one ∙ sym (controllable_verdict other)
verdicts_rest_on_no_marked_number a b (same_load {one} {other} rrsok) = load_verdict one ∙ sym (load_verdict other)

pub units_that_add_are_among_them : UnitsThatAddAreAmongThem
units_that_add_are_among_them one other same adds = sym (verdicts_rest_on_no_marked_number one other same) ∙ go (marks_turn_back one) refl
  where
    go : (b : Bool) → marks_turn_back one ≡ b → marks_turn_back one ≡ true
    go true e = e
    go false e = absurd (adds (part_outside one e))

-- no unit on which a mark turns the snapshot back is marked
each_unmarked :
    (entry : Entry) (entries : List Entry) (before : ℕ) → suspect_from before (resources_of entries) ≡ 0 → Among entry entries → marks_turn_back entry.resource ≡ true →
    marks entry.resource ≡ 0
each_unmarked entry entries before fine (first_of_them {others}) turns =
    place_none entry.resource turns (suspect_apart before entry.resource (resources_of others) fine).0
each_unmarked entry entries before fine (later_of_them {other} {others} there) turns =
    each_unmarked entry others (before + resource_line_count other.resource) (suspect_apart before other.resource (resources_of others) fine).1 there turns

pub no_marked_number_enters_a_sum : NoMarkedNumberEntersASum
no_marked_number_enters_a_sum text h entries e entry there turns = each_unmarked entry entries 8 (snapshot_unmarked text e) there turns

-- resources that are the same but for marks add up to the same
same_sums : {entries entries' : List Entry} → EntriesSameButMarks entries entries' → sums_of (resources_of entries) ≡ sums_of (resources_of entries')
same_sums none_same = refl
same_sums (one_same {first} {second} {others} {others'} id one more) =
    let part : part_of first.resource ≡ part_of second.resource = sym (part_unmarked first.resource) ∙ ap part_of one ∙ part_unmarked second.resource in
    rw (sums_more first.resource (resources_of others), sums_more second.resource (resources_of others'), part, same_sums more)

pub marks_move_no_price : MarksMoveNoPrice
marks_move_no_price curves text text' h entries entries' e e' same = prices_depend_on_header_and_sums curves text text' h entries entries' e e' (same_sums same)
