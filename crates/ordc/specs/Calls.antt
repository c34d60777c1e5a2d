-- Document 01, "Held fixed in demand 3", over the calls that hosts make: bookings on a lent record, settling, pricing, each on what the call before left; and two
-- such runs of which the second has every hour-ahead reserve lower by the same whole number of kW.
use Rattle.std.specs.Prelude.{ℕ, ◌≡◌, List, [], ◌∷◌, ℤ, pos, replicate}
use Rattle.curve_hour.specs.Hour.{hour_in}
use Rattle.curve.specs.Lists.{HourLowered}
use Rattle.ordc.specs.Record.{BookCalled, SettleCalled}
use Rattle.ordc.specs.Price.{PriceCalled}
use Rattle.ordc.specs.declared.reply.Reply.{Reply}

-- ---- one run of calls

-- number 0 means accepted
abbrev pub Accepted : Reply → Type 0
Accepted r = r.number ≡ 0

-- any number of `ordc_book` calls on one lent record, accepted and refused: each gets the numbers that the one before left
pub data BookCalls : List ℤ → List (List ℕ) → List Reply → List ℤ → Type 0 where
  no_call : {values : List ℤ} → BookCalls values [] [] values
  one_call :
      {before between after : List ℤ} {text : List ℕ} {texts : List (List ℕ)} {r : Reply} {replies : List Reply} →
      BookCalled before text between r → BookCalls between texts replies after → BookCalls before (text ∷ texts) (r ∷ replies) after

-- a fresh record is 72 zeros
abbrev pub fresh_values : List ℤ
fresh_values = replicate 72 (pos 0)

-- hours booked from a fresh record on, the last record settled by `ordc_settle` into any lent curve set, and a snapshot priced on that by `ordc_price` into any
-- lent answer; settling and pricing are accepted
pub record HistoryPriced (texts : List (List ℕ)) (replies : List Reply) (voll floor : ℤ) (snapshot : List ℕ) (answer : List ℤ) : Type 0 where
  pub history : List ℤ
  pub bookings : BookCalls fresh_values texts replies history
  pub curves_before : List ℤ
  pub curves : List ℤ
  pub settle_reply : Reply
  pub settle_call : SettleCalled history voll floor curves_before curves settle_reply
  pub settle_accepted : Accepted settle_reply
  pub answer_before : List ℤ
  pub price_reply : Reply
  pub price_call : PriceCalled curves snapshot answer_before answer price_reply
  pub price_accepted : Accepted price_reply

-- ---- two runs

-- one place of the two lists of bookings: a booking refused in one is refused in the other; any other place is lowered
pub record BookCallLowered (d : ℕ) (text text' : List ℕ) (r r' : Reply) : Type 0 where
  pub second : Accepted r → Accepted r'
  pub first : Accepted r' → Accepted r
  pub hour : Accepted r → HourLowered d (hour_in text) (hour_in text')

-- equally long lists
pub data BookCallsLowered (d : ℕ) : List (List ℕ) → List (List ℕ) → List Reply → List Reply → Type 0 where
  none_lowered : BookCallsLowered d [] [] [] []
  one_lowered :
      {text text' : List ℕ} {texts texts' : List (List ℕ)} {r r' : Reply} {replies replies' : List Reply} →
      BookCallLowered d text text' r r' → BookCallsLowered d texts texts' replies replies' →
      BookCallsLowered d (text ∷ texts) (text' ∷ texts') (r ∷ replies) (r' ∷ replies')
