-- Parts of a byte string. A schema's keys are a byte string of pieces, each ended by one mark, `=` (61).
use Rattle.std.specs.Prelude.{ℕ, zero, suc, ◌-◌, List, [], ◌∷◌, ◌++◌, eqb, take, drop, cond}

-- the bytes from one position to another
abbrev pub part : List ℕ → ℕ → ℕ → List ℕ
part text start end = take (end - start) (drop start text)

-- the pieces, each with its mark; `front` is what is read of the piece so far, and what follows the last mark is no piece
unfoldable pub pieces_from : ℕ → List ℕ → List ℕ → List (List ℕ)
pieces_from mark front [] = []
pieces_from mark front (byte ∷ rest) =
    cond (eqb byte mark)
    ((front ++ (byte ∷ [])) ∷ pieces_from mark [] rest)
    (pieces_from mark (front ++ (byte ∷ [])) rest)

abbrev pub pieces_of : ℕ → List ℕ → List (List ℕ)
pieces_of mark bytes = pieces_from mark [] bytes

-- one byte more, where there are any
abbrev pub one_more : ℕ → ℕ
one_more zero = 0
one_more (suc n) = suc (suc n)

-- how many bytes the first piece has, its mark with it; 0 where there is none
unfoldable pub piece_length : ℕ → List ℕ → ℕ
piece_length mark [] = 0
piece_length mark (byte ∷ rest) = cond (eqb byte mark) 1 (one_more (piece_length mark rest))
