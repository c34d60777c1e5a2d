-- What is promised of the program `price`.
use Rattle.std.specs.Prelude.{ℕ, ◌≤◌, List, length}
use Rattle.program_price.specs.Program.{price_output}

-- what is printed has at most 256 bytes, whatever the input, so that a buffer of as many bytes is never too short
abbrev pub PriceOutputIsShort : Type 0
PriceOutputIsShort = (input : List ℕ) → length (price_output input) ≤ 256
