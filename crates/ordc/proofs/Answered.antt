-- What a call's answer says of what is lent: laid where nothing was refused, left otherwise.
use mathlib.Core.Path.{◌≡◌, refl, subst}
use Rattle.std.specs.Prelude.{Ok, Err}
use Rattle.text_refusal.specs.Answer.{Answer, lent_after_answer}
use Rattle.text_refusal.specs.declared.refusal.Refusal as text
use Rattle.ordc.specs.Reply.{reply_to, Answered}
use Rattle.ordc.specs.declared.reply.Reply.{Reply}
use Rattle.ordc.specs.Promises.{Numbered}

module _ {A : Type 0} {ended : Answer} {before given : A} where
  pub lent_laid : ended ≡ Ok tt → {after : A} → after ≡ given → Answered (reply_to ended) before given after (record { number = 0; line = 0 })
  lent_laid e laid = rw e (record { refuses = refl; lent = laid })

  pub lent_left : {found : text.Refusal} → ended ≡ Err found → Numbered ended → {r : Reply} → r ≡ reply_to (Err found) → Answered (reply_to ended) before given before r
  lent_left {found} e n is = rw e (record { refuses = is; lent = rw (subst Numbered e n) })

-- an operation that says by its answer what is lent after it
pub answered_by :
    {A : Type 0} {before given after : A} {r : Reply} (a : Answer) → Numbered a → r ≡ reply_to a → after ≡ lent_after_answer a before given → Answered (reply_to a) before given after r
answered_by (Ok accepted) n is lent = record { refuses = is; lent = lent }
answered_by (Err found) n is lent = record { refuses = is; lent = rw n lent }

-- an accepted call, and a refused one
pub accepted_laid : {A : Type 0} {before given after : A} → after ≡ given → Answered (reply_to (Ok tt)) before given after (record { number = 0; line = 0 })
accepted_laid laid = record { refuses = refl; lent = laid }

pub refused_left : {A : Type 0} {before given : A} {found : text.Refusal} {r : Reply} → Numbered (Err found) → r ≡ reply_to (Err found) → Answered (reply_to (Err found)) before given before r
refused_left n is = record { refuses = is; lent = rw n }
