-- What `r.map_err(f)` gives, by its clause: the value as it was, or what `f` made of the error.
use mathlib.Core.Path.{◌≡◌, refl}
use Rattle.std.specs.Prelude.{Result, Ok, Err, MatchResult, IsErrAnd}

module _ {A E F : Type 0} (Made : E → F → Type 0) (r : Result A E) (mapped : Result A F) (given : MatchResult r (λ value. mapped ≡ Ok value) (λ found. IsErrAnd mapped (Made found))) where
  pub mapped_ok : {value : A} → mapped ≡ Ok value → r ≡ Ok value
  mapped_ok {value} e = go r refl given
    where
      go : (was : Result A E) → r ≡ was → MatchResult was (λ value. mapped ≡ Ok value) (λ found. IsErrAnd mapped (Made found)) → r ≡ Ok value
      go (Ok x) is same = cc
      go (Err found) is made = absurd (rw e at made)

  pub mapped_err : {why : F} → mapped ≡ Err why → (found : E) × (r ≡ Err found) × Made found why
  mapped_err {why} e = go r refl given
    where
      go : (was : Result A E) → r ≡ was → MatchResult was (λ value. mapped ≡ Ok value) (λ found. IsErrAnd mapped (Made found)) → (found : E) × (r ≡ Err found) × Made found why
      go (Ok x) is same = cc
      go (Err found) is made = (found, is, rw e at made)
