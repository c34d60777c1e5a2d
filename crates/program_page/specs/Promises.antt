-- What is promised of the program `page`.
use Rattle.std.specs.Prelude.{ℕ, ◌≤◌, List, length}
use Rattle.program_page.specs.Program.{page_output}

-- what is printed has at most 1728 bytes, whatever the input, so that a buffer of as many bytes is never too short
abbrev pub PageOutputIsShort : Type 0
PageOutputIsShort = (input : List ℕ) → length (page_output input) ≤ 1728
