-- The effect of writing a page: 1728 bytes at the front of a lent buffer, from a curve set of 50 numbers.
use Rattle.std.specs.Prelude.{ℕ, List, ℤ}
use Rattle.curve_set.specs.CurveValues.{curves_of}
use Rattle.curve_page.specs.Page.{writing_page, page_buffer}
use Rattle.ordc.specs.Reply.{reply_to, Answered}
use Rattle.ordc.specs.declared.reply.Reply.{Reply}

-- an accepted set lays its page; a refused one leaves the buffer
abbrev pub WritePageCalled : List ℤ → List ℕ → List ℕ → Reply → Type 0
WritePageCalled values before after r =
    Answered (reply_to (writing_page (curves_of values) before)) before (page_buffer (curves_of values) before) after r
