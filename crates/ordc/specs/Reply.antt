-- Document 01, "Turned back, in checking order", as hosts see it: a number, 0 for none, and a line; and what a refusal leaves as it was.
use Rattle.text_refusal.specs.Answer.{Answer}
use Rattle.std.specs.Prelude.{◌≡◌, eqb, cond, Ok, Err}
use Rattle.ordc.specs.declared.reply.Reply.{Reply}

-- the refusal in an answer; number 0 and line 0 where nothing was refused
abbrev pub reply_to : Answer → Reply
reply_to (Ok accepted) = record { number = 0; line = 0 }
reply_to (Err found) = record { number = found.number; line = found.line }

-- what is lent, after a call: what the call gives where the number is 0, and on a refusal as it was before
abbrev pub lent_after : {A : Type 0} → Reply → A → A → A
lent_after refusal before given = cond (eqb refusal.number 0) given before

-- a call's refusal, and what is lent to it: before, what an accepted call gives, and after
pub record Answered {A : Type 0} (refusal : Reply) (before given after : A) (r : Reply) : Type 0 where
  pub refuses : r ≡ refusal
  pub lent : after ≡ lent_after refusal before given
