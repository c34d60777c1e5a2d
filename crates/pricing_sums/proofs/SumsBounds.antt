-- What the test of the sums tells: magnitudes, by which every step of pricing fits its machine number.
use Prim.Native.Nat.{◌≤◌}
use mathlib.Core.Path.{◌≡◌, refl}
use mathlib.Core.Bool.{true}
use lib.IntN.{pos, neg_ℤ, nat_abs}
use lib.Signed.{◌≤ℤ◌}
use Rattle.integer.proofs.Ranges.{both, within_low, within_bound}
use Rattle.pricing_sums.specs.Sums.{sums_possible}
use Rattle.pricing_sums.specs.declared.Sums.{Sums}

pub record SumsBound (s : Sums) : Type 0 where
  pub generation : nat_abs s.generation ≤ 16384000000
  pub controllable : nat_abs s.controllable ≤ 16384000000
  pub offline : nat_abs s.offline ≤ 8192000000
  pub validated : nat_abs s.validated ≤ 8192000000
  pub responsive : nat_abs s.responsive ≤ 8192000000
  pub added : pos 0 ≤ℤ s.offline

pub sums_bound : (s : Sums) → sums_possible s ≡ true → SumsBound s
unfolding sums_possible
sums_bound s e =
    let g = both _ _ e in
    let c = both _ _ g.1 in
    let o = both _ _ c.1 in
    let v = both _ _ o.1 in
    record {
      generation = within_bound (neg_ℤ (pos 16384000000)) (pos 8192000000) s.generation 16384000000 refl refl g.0;
      controllable = within_bound (neg_ℤ (pos 16384000000)) (pos 16384000000) s.controllable 16384000000 refl refl c.0;
      offline = within_bound (pos 0) (pos 8192000000) s.offline 8192000000 refl refl o.0;
      validated = within_bound (neg_ℤ (pos 8192000000)) (pos 8192000000) s.validated 8192000000 refl refl v.0;
      responsive = within_bound (pos 0) (pos 8192000000) s.responsive 8192000000 refl refl v.1;
      added = within_low (pos 0) (pos 8192000000) s.offline o.0;
    }
