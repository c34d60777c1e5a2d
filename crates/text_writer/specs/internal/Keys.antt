-- How the code of this crate takes keys one after the other. Nobody needs to believe this page: it stands in no contract of a public function.
use Rattle.std.specs.Prelude.{ℕ, ◌<◌, List, length, take, drop}
use Rattle.text_line.specs.Piece.{piece_length}

-- the first of some keys, its `=` with it
abbrev pub first_key : List ℕ → List ℕ
first_key keys = take (piece_length 61 keys) keys

-- nothing follows the last key: wherever a byte is left, a key is
abbrev pub WholeKeys : List ℕ → Type 0
WholeKeys keys = (from : ℕ) → from < length keys → 0 < piece_length 61 (drop from keys)
