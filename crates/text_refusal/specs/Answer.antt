-- Document 01, "Turned back, in checking order": an answer that is a refusal gives its number and a line.
use Rattle.std.specs.Prelude.{ℕ, Result, Ok, Err, ⊤}
use Rattle.text_refusal.specs.declared.refusal.Refusal.{Refusal}

-- an operation that gives nothing back is accepted or refused
abbrev pub Answer : Type 0
Answer = Result ⊤ Refusal

abbrev pub refusal : ℕ → ℕ → Answer
refusal number line = Err (record { number = number; line = line })

-- the answer alone of an operation that gives a value back
abbrev pub answer_of : {A : Type 0} → Result A Refusal → Answer
answer_of (Ok given) = Ok tt
answer_of (Err found) = Err found

-- an answer, and another one where it is accepted
abbrev pub followed_by : Answer → Answer → Answer
followed_by (Ok accepted) other = other
followed_by (Err found) other = Err found

-- what is lent, after an operation: what it gives where it is accepted, and as it was where it is refused
abbrev pub lent_after_answer : {A : Type 0} → Answer → A → A → A
lent_after_answer (Ok accepted) before given = given
lent_after_answer (Err found) before given = before
