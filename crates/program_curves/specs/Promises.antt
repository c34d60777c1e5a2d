-- The answer does not depend on how the stream is cut into reads, and is what the program prints on the whole input.
use Rattle.std.specs.Prelude.{ℕ, ◌≤◌, ◌≡◌, List, ◌++◌, length, take}
use Rattle.program_curves.specs.Program.{curves_output}
use Rattle.program_curves.specs.Stream.{State, start, fed_all, finished, Printed}

-- two parts, one after the other, do what their concatenation does
abbrev pub CutsDoNotMatter : Type 0
CutsDoNotMatter = (s : State) (front back : List ℕ) → fed_all (fed_all s front) back ≡ fed_all s (front ++ back)

abbrev pub StreamIsTheProgram : Type 0
StreamIsTheProgram = (input : List ℕ) → finished (fed_all start input) ≡ curves_output input

-- what is printed is never cut: it has no more bytes than the buffer, and stands whole at the buffer's start
abbrev pub PrintedTextStandsWhole : Type 0
PrintedTextStandsWhole =
    (text before after : List ℕ) (count : ℕ) → Printed text before after count → length after ≡ length before →
    (length text ≤ length before) × (take count after ≡ text)
