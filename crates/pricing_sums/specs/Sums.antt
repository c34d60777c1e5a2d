-- Document 01, "Snapshot to reserves": the sums before the factor, and their ranges.
use Rattle.std.specs.Prelude.{◌*◌, Bool, ◌&&◌, pos, neg_ℤ, ◌+ℤ◌, ◌≤ℤ◌}
use Rattle.integer.specs.Range.{within}
use Rattle.pricing_sums.specs.declared.Sums.{Sums}

-- ---- the sums are additive

abbrev pub no_sums : Sums
no_sums = record { generation = pos 0; controllable = pos 0; offline = pos 0; validated = pos 0; responsive = pos 0 }

unfoldable pub plus : Sums → Sums → Sums
plus a b =
    record {
      generation = a.generation +ℤ b.generation;
      controllable = a.controllable +ℤ b.controllable;
      offline = a.offline +ℤ b.offline;
      validated = a.validated +ℤ b.validated;
      responsive = a.responsive +ℤ b.responsive;
    }

-- no sum of the second is lower
pub record SumsNotLower (first second : Sums) : Type 0 where
  pub generation : first.generation ≤ℤ second.generation
  pub controllable : first.controllable ≤ℤ second.controllable
  pub offline : first.offline ≤ℤ second.offline
  pub validated : first.validated ≤ℤ second.validated
  pub responsive : first.responsive ≤ℤ second.responsive

-- a sum handed in is impossible (1) outside 4096 times the least and the most that one resource can add to it
unfoldable pub sums_possible : Sums → Bool
sums_possible s =
    within (neg_ℤ (pos (4096 * 4000000))) (pos (4096 * 2000000)) s.generation
    && (within (neg_ℤ (pos (4096 * 4000000))) (pos (4096 * 4000000)) s.controllable
    && (within (pos 0) (pos (4096 * 2000000)) s.offline
    && (within (neg_ℤ (pos (4096 * 2000000))) (pos (4096 * 2000000)) s.validated
    && within (pos 0) (pos (4096 * 2000000)) s.responsive)))
