-- Document 01, refusal 9: bytes follow the last due line. Reading due lines gives where the next one starts, or the fault of the refused one.
use Rattle.std.specs.Prelude.{ℕ, cond, List, ltb, length, Result, Ok, Err}
use Rattle.text_refusal.specs.Refusal.{fault}
use Rattle.text_refusal.specs.declared.refusal.Fault.{Fault}

-- the end of a text has no more lines: 9 where bytes follow the last due one
abbrev pub end_at : List ℕ → ℕ → Result ℕ Fault
end_at text at = cond (ltb at (length text)) (Err (fault 9 at)) (Ok at)
