-- The bytes of a text of ASCII letters, so that keys and words read as they are written.
use Rattle.std.specs.Prelude.{ℕ, List, [], ◌∷◌}
use Prim.Native.String.{String}
use Prim.Native.String as string
use Prim.Native.Char.{code}

abbrev pub bytes : String → List ℕ
bytes string.[] = []
bytes (string.◌∷◌ letter rest) = code letter ∷ bytes rest
