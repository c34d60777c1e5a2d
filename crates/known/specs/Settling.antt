-- Document 01, "Known values (P: for the table of proofs)": settling, each with what it is to be.
use Rattle.text_refusal.specs.declared.refusal.Refusal.{Refusal}
use Rattle.text_refusal.specs.Answer.{answer_of}
use Rattle.curve_set.specs.declared.Pair.{Pair}
use Rattle.curve_set.specs.declared.CurveSet.{CurveSet}
use Rattle.std.specs.Prelude.{List, [], ◌∷◌, ◌++◌, ℤ, pos, neg_ℤ, replicate, Result, Ok, Err}
use Rattle.curve_set.specs.CurveValues.{pair_values}
use Rattle.known.specs.Statement.{number_and_line}
use Rattle.curve_record.specs.Record.{no_hours}
use Rattle.curve_record.specs.Possible.{mean_of}
use Rattle.curve_booking.specs.Booking.{with_error}
use Rattle.curve_settling.specs.Settle.{settled}
use Rattle.curve_record.specs.declared.Group.{Group}

-- two errors, and the curves where each group has these two
abbrev pub two_errors : ℤ → ℤ → Group
two_errors first second = with_error (with_error no_hours first) second

abbrev pub settled_two : ℤ → ℤ → Result CurveSet Refusal
settled_two first second = settled (record { groups = replicate 24 (two_errors first second) }) (pos 900000) (pos 2000000)

-- the pairs of a curve set that is given; a refusal gives none
abbrev pub pairs_given : Result CurveSet Refusal → List Pair
pairs_given (Ok curves) = curves.pairs
pairs_given (Err found) = []

unfoldable pub settled_values : List (List ℤ × List ℤ)
settled_values =
    -- the errors -1, 2 in each group: accepted, and each pair mu 0, sigma 1
    (
      number_and_line (answer_of (settled_two (neg_ℤ (pos 1)) (pos 2))) ++ pair_values (pairs_given (settled_two (neg_ℤ (pos 1)) (pos 2))),
      pos 0 ∷ pos 0 ∷ pair_values (replicate 24 (record { mean = pos 0; spread = pos 1 })),
    )
    -- the errors -1, 0 in each group: mu -1, refused 13, line 0
    ∷ (
      mean_of (two_errors (neg_ℤ (pos 1)) (pos 0)) ∷ number_and_line (answer_of (settled_two (neg_ℤ (pos 1)) (pos 0))),
      neg_ℤ (pos 1) ∷ pos 13 ∷ pos 0 ∷ [],
    )
    ∷ []
