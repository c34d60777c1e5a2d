-- How the code of this crate writes a number: by its sign and magnitude. Nobody needs to believe this page: it stands in no contract of a public function.
use Rattle.std.specs.Prelude.{ℕ, ◌-◌, Bool, cond, List, [], ◌∷◌, ◌++◌, length, drop}
use Rattle.text_number.specs.Number.{digits_of}

-- byte 45 where the number is below zero
abbrev pub sign_of : Bool → List ℕ
sign_of negative = cond negative (45 ∷ []) []

-- a number
abbrev pub signed : Bool → ℕ → List ℕ
signed negative n = sign_of negative ++ digits_of n

-- a number and byte 10
abbrev pub signed_value : Bool → ℕ → List ℕ
signed_value negative n = signed negative n ++ (10 ∷ [])

-- a line: its key, the number, byte 10
abbrev pub signed_line : List ℕ → Bool → ℕ → List ℕ
signed_line key negative n = key ++ signed_value negative n

-- the last bytes of a text, so many where it is longer
abbrev pub cut_to : ℕ → List ℕ → List ℕ
cut_to count text = drop (length text - count) text
