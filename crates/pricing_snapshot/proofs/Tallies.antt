-- Laws on the tally of resources: what it comes to is the sums of all of them, and the first line that a mark turns back.
use Prim.Native.Nat.{ℕ, ◌+◌}
use native.Mathlib.Omega.{arith}
use mathlib.Core.Path.{◌≡◌, refl, ◌∙◌}
use mathlib.Core.Bool.{Bool, true, false, cond}
use mathlib.Core.List.{List, [], ◌∷◌}
use borrow.Author.Tests.{eqb-false, ne_eqb}
use Rattle.std.specs.Prelude.{Option, Some, None}
use lib.Dec.{eqb}
use Rattle.pricing_sums.specs.Sums.{plus}
use Rattle.pricing_sums.specs.Part.{part_of, sums_of}
use Rattle.pricing_sums.proofs.Addition.{plus_none, plus_assoc, sums_none, sums_more}
use Rattle.pricing_resource.specs.Suspect.{resource_line_count, suspect_place, suspect_from}
use Rattle.pricing_resource.specs.declared.Resource.{Resource}
use Rattle.pricing_resource.proofs.Suspects.{suspect_none, suspect_more}
use Rattle.pricing_snapshot.specs.internal.Tallied.{suspect_with, tally_with, tally_from}
use Rattle.pricing_snapshot.specs.declared.resources.Tally.{Tally}

-- ---- all of them

pub tally_with_lem : (tally : Tally) (one : Resource) → tally_with tally one ≡ record { sums = plus tally.sums (part_of one); lines = tally.lines + resource_line_count one; suspect = suspect_with tally.suspect tally.lines one }
unfolding tally_with
tally_with_lem tally one = refl

pub tally_none : (tally : Tally) → tally_from tally [] ≡ tally
unfolding tally_from
tally_none tally = refl

pub tally_more : (tally : Tally) (one : Resource) (others : List Resource) → tally_from tally (one ∷ others) ≡ tally_from (tally_with tally one) others
unfolding tally_from
tally_more tally one others = refl

pub tally_sums : (tally : Tally) (all : List Resource) → (tally_from tally all).sums ≡ plus tally.sums (sums_of all)
unfolding tally_from tally_with
tally_sums tally [] = rw (sums_none, plus_none tally.sums)
tally_sums tally (one ∷ others) = tally_sums (tally_with tally one) others ∙ plus_assoc tally.sums (part_of one) (sums_of others) ∙ rw (sums_more one others)

-- a line, 0 being none
abbrev pub line_found : ℕ → Option ℕ
line_found line = cond (eqb line 0) None (Some line)

-- a line that was found, and otherwise a later one
abbrev pub or_later : Option ℕ → Option ℕ → Option ℕ
or_later (Some line) later = Some line
or_later None later = later

-- the first line of one resource and then of the others
first_of :
    (suspect : Option ℕ) (lines later : ℕ) (one : Resource) →
    or_later (suspect_with suspect lines one) (line_found later) ≡ or_later suspect (line_found (cond (eqb (suspect_place one) 0) later (lines + suspect_place one)))
first_of (Some line) lines later one = refl
first_of None lines later one = go (eqb (suspect_place one) 0) refl
  where
    go :
        (fine : Bool) → eqb (suspect_place one) 0 ≡ fine →
        or_later (cond fine None (Some (lines + suspect_place one))) (line_found later) ≡ line_found (cond fine later (lines + suspect_place one))
    go true e = refl
    go false e = rw (ne_eqb (lines + suspect_place one) 0 (λ z. eqb-false (suspect_place one) 0 e (omega arith)))

pub tally_suspect : (tally : Tally) (all : List Resource) → (tally_from tally all).suspect ≡ or_later tally.suspect (line_found (suspect_from tally.lines all))
unfolding tally_from tally_with
tally_suspect tally [] = rw (suspect_none tally.lines) (go tally.suspect)
  where
    go : (suspect : Option ℕ) → suspect ≡ or_later suspect None
    go (Some line) = refl
    go None = refl
tally_suspect tally (one ∷ others) =
    tally_suspect (tally_with tally one) others
    ∙ first_of tally.suspect tally.lines (suspect_from (tally.lines + resource_line_count one) others) one
    ∙ rw (suspect_more tally.lines one others)
