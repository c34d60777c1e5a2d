-- Internal: what reading the resources gives to pricing, resource after resource: their sums, how many lines the text has up to there, and the first line that a mark
-- turns back.
use Rattle.std.specs.Prelude.{ℕ, ◌+◌, cond, List, [], ◌∷◌, eqb, Option, Some, None, Result, Ok, Err}
use Rattle.text_refusal.specs.declared.refusal.Fault.{Fault}
use Rattle.text_line.specs.Field.{LineAnswer, got, refused}
use Rattle.pricing_sums.specs.Sums.{no_sums, plus}
use Rattle.pricing_sums.specs.Part.{part_of}
use Rattle.pricing_resource.specs.Suspect.{resource_line_count, suspect_place}
use Rattle.pricing_resource.specs.declared.Resource.{Resource}
use Rattle.pricing_snapshot.specs.Snapshot.{Entry, resources_of}
use Rattle.pricing_snapshot.specs.declared.resources.Tally.{Tally}
use Rattle.pricing_snapshot.specs.declared.resources.Resources.{Resources}

-- before the first resource: the header has 8 lines
abbrev pub no_tally : Tally
no_tally = record { sums = no_sums; lines = 8; suspect = None }

-- the line of a resource that turns the snapshot back, so many lines standing before it
abbrev pub suspect_after : ℕ → Resource → Option ℕ
suspect_after lines one = cond (eqb (suspect_place one) 0) None (Some (lines + suspect_place one))

-- the first such line, with one resource more: a line that was found stays the first
abbrev pub suspect_with : Option ℕ → ℕ → Resource → Option ℕ
suspect_with (Some line) lines one = Some line
suspect_with None lines one = suspect_after lines one

-- with one resource more
unfoldable pub tally_with : Tally → Resource → Tally
tally_with tally one =
    record {
      sums = plus tally.sums (part_of one);
      lines = tally.lines + resource_line_count one;
      suspect = suspect_with tally.suspect tally.lines one;
    }

unfoldable pub tally_from : Tally → List Resource → Tally
tally_from tally [] = tally
tally_from tally (one ∷ others) = tally_from (tally_with tally one) others

abbrev pub tallied : Tally → LineAnswer (List Entry) → LineAnswer Tally
tallied tally (got entries next) = got (tally_from tally (resources_of entries)) next
tallied tally (refused found) = refused found

-- what an answer of the reader of the resources says
abbrev pub resources_answer : Result Resources Fault → LineAnswer Tally
resources_answer (Ok read) = got read.tally read.next
resources_answer (Err found) = refused found
