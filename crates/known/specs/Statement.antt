-- The common statement of the known values, and an answer as numbers.
use Rattle.text_refusal.specs.Answer.{Answer}
use Rattle.std.specs.Prelude.{◌≡◌, List, [], ◌∷◌, map, ℤ, pos, Ok, Err}

-- what is computed and what is expected, in pairs, are equal throughout
abbrev pub AllHold : List (List ℤ × List ℤ) → Type 0
AllHold claims = map (λ claim. claim.0) claims ≡ map (λ claim. claim.1) claims

-- an answer's number and line: 0, 0 where it is no refusal
abbrev pub number_and_line : Answer → List ℤ
number_and_line (Ok accepted) = pos 0 ∷ pos 0 ∷ []
number_and_line (Err found) = pos found.number ∷ pos found.line ∷ []
