-- The effect of pricing a snapshot. An answer is six numbers: RS, RSNS, piS, piNS, the on-line and the off-line price.
use Rattle.text_refusal.specs.Answer.{Answer, answer_of}
use Rattle.std.specs.Prelude.{ℕ, List, ℤ}
use Rattle.text_schema.specs.Schema.{value}
use Rattle.curve_set.specs.CurveValues.{curves_of}
use Rattle.pricing_adder.specs.Price.{Pricing, pricing_values}
use Rattle.pricing.specs.Pricing.{priced}
use Rattle.ordc.specs.Reply.{reply_to, Answered}
use Rattle.ordc.specs.declared.reply.Reply.{Reply}

abbrev pub pricing_answer : Pricing → Answer
pricing_answer pricing = answer_of pricing

-- an accepted snapshot lays the six numbers; a refused one leaves the answer
abbrev pub PriceCalled : List ℤ → List ℕ → List ℤ → List ℤ → Reply → Type 0
PriceCalled curves text before after r =
    Answered (reply_to (pricing_answer (priced (curves_of curves) text))) before (pricing_values (priced (curves_of curves) text)) after r

-- ---- the two prices in an answer

abbrev pub online_price : List ℤ → ℤ
online_price answer = value answer 4

abbrev pub offline_price : List ℤ → ℤ
offline_price answer = value answer 5
