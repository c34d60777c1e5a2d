-- Four elements are those at 0 to 3.
use native.Mathlib.Omega.{arith}
use mathlib.Core.List.{List, [], ◌∷◌}
use mathlib.Core.Path.{◌≡◌, refl}
use lib.ListN.{length, get_or}

pub four : {A : Type 0} (l : List A) (d : A) → length l ≡ 4 → l ≡ get_or l 0 d ∷ get_or l 1 d ∷ get_or l 2 d ∷ get_or l 3 d ∷ []
four [] d e = absurd (omega arith)
four (x ∷ []) d e = absurd (omega arith)
four (x ∷ (y ∷ [])) d e = absurd (omega arith)
four (x ∷ (y ∷ (z ∷ []))) d e = absurd (omega arith)
four (x ∷ (y ∷ (z ∷ (w ∷ [])))) d e = refl
four (x ∷ (y ∷ (z ∷ (w ∷ (more ∷ rest))))) d e = absurd (omega arith)
