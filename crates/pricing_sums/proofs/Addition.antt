-- Sums are added field by field, in any order.
use mathlib.Core.Path.{◌≡◌, refl}
use mathlib.Core.List.{List, [], ◌∷◌, ◌++◌}
use native.Mathlib.Omega.{arith}
use lib.IntN.{ℤ, pos, ◌+ℤ◌, +ℤ_assoc}
use lib.Signed.{≤ℤ_refl}
use Rattle.integer.proofs.Difference.{view, to_ℕ}
use Rattle.integer.proofs.Order.{+ℤ_mono}
use Rattle.pricing_sums.specs.Sums.{no_sums, plus, SumsNotLower}
use Rattle.pricing_sums.specs.Part.{part_of, sums_of}
use Rattle.pricing_sums.specs.declared.Sums.{Sums}
use Rattle.pricing_resource.specs.declared.Resource.{Resource}

-- ---- two sums

pub plus_is :
    (a b : Sums) →
    plus a b ≡
    record {
      generation = a.generation +ℤ b.generation;
      controllable = a.controllable +ℤ b.controllable;
      offline = a.offline +ℤ b.offline;
      validated = a.validated +ℤ b.validated;
      responsive = a.responsive +ℤ b.responsive;
    }
unfolding plus
plus_is a b = refl

pub plus_none : (s : Sums) → plus s no_sums ≡ s
unfolding plus
plus_none s = rw (add_none s.generation, add_none s.controllable, add_none s.offline, add_none s.validated, add_none s.responsive)
  where
    add_none : (x : ℤ) → x +ℤ pos 0 ≡ x
    add_none x = rw (view x) (simp to_ℕ (omega arith))

pub none_plus : (s : Sums) → plus no_sums s ≡ s
unfolding plus
none_plus s = rw (none_add s.generation, none_add s.controllable, none_add s.offline, none_add s.validated, none_add s.responsive)
  where
    none_add : (x : ℤ) → pos 0 +ℤ x ≡ x
    none_add x = rw (view x) (simp to_ℕ (omega arith))

pub plus_assoc : (a b c : Sums) → plus (plus a b) c ≡ plus a (plus b c)
unfolding plus
plus_assoc a b c = simp +ℤ_assoc

pub plus_comm : (a b : Sums) → plus a b ≡ plus b a
unfolding plus
plus_comm a b =
    rw (
      comm a.generation b.generation,
      comm a.controllable b.controllable,
      comm a.offline b.offline,
      comm a.validated b.validated,
      comm a.responsive b.responsive,
    )
  where
    comm : (x y : ℤ) → x +ℤ y ≡ y +ℤ x
    comm x y = rw (view x, view y) (simp to_ℕ (omega arith))

-- sums that are not lower add up to sums that are not lower
pub plus_monotone : {a a' b b' : Sums} → SumsNotLower a a' → SumsNotLower b b' → SumsNotLower (plus a b) (plus a' b')
unfolding plus
plus_monotone h k =
    record {
      generation = +ℤ_mono h.generation k.generation;
      controllable = +ℤ_mono h.controllable k.controllable;
      offline = +ℤ_mono h.offline k.offline;
      validated = +ℤ_mono h.validated k.validated;
      responsive = +ℤ_mono h.responsive k.responsive;
    }

pub sums_not_lower_self : (s : Sums) → SumsNotLower s s
sums_not_lower_self s =
    record {
      generation = ≤ℤ_refl s.generation;
      controllable = ≤ℤ_refl s.controllable;
      offline = ≤ℤ_refl s.offline;
      validated = ≤ℤ_refl s.validated;
      responsive = ≤ℤ_refl s.responsive;
    }

-- ---- the sums of resources

pub sums_none : sums_of [] ≡ no_sums
unfolding sums_of
sums_none = refl

pub sums_more : (one : Resource) (others : List Resource) → sums_of (one ∷ others) ≡ plus (part_of one) (sums_of others)
unfolding sums_of
sums_more one others = refl

-- those of two lists one after the other
pub sums_append : (first second : List Resource) → sums_of (first ++ second) ≡ plus (sums_of first) (sums_of second)
sums_append [] second = rw (sums_none, none_plus)
sums_append (one ∷ others) second =
    rw (sums_more one (others ++ second), sums_more one others, sums_append others second, plus_assoc (part_of one) (sums_of others) (sums_of second))
