-- A resource whose numbers are within their ranges, as its reader leaves them: power fields 0..2000000, a generator's `net` ±2000000, flags 0..1. The ranges
-- that are checked are those of the fields.
use Rattle.std.specs.Prelude.{ℤ, pos, neg_ℤ, ◌≤ℤ◌}
use Rattle.pricing_resource.specs.declared.Generator.{Generator}
use Rattle.pricing_resource.specs.declared.Controllable.{Controllable}
use Rattle.pricing_resource.specs.declared.Load.{Load}
use Rattle.pricing_resource.specs.declared.Resource.{Resource}
use Rattle.pricing_resource.specs.declared.Resource.TheVariants as resource

-- a number from low to high
abbrev pub Between : ℤ → ℤ → ℤ → Type 0
Between low high z = (low ≤ℤ z) × (z ≤ℤ high)

-- a power field
abbrev pub ResourcePower : ℤ → Type 0
ResourcePower z = Between (pos 0) (pos 2000000) z

-- the fields of a resource within their ranges
pub record GeneratorInRange (g : Generator) : Type 0 where
  pub net : Between (neg_ℤ (pos 2000000)) (pos 2000000) g.net
  pub lsl : ResourcePower g.lsl
  pub hsl : ResourcePower g.hsl
  pub base : ResourcePower g.base
  pub nonspin : ResourcePower g.nonspin
  pub cold30 : Between (pos 0) (pos 1) g.cold30

pub record ControllableInRange (c : Controllable) : Type 0 where
  pub base : ResourcePower c.base
  pub lpc : ResourcePower c.lpc
  pub nonspin : ResourcePower c.nonspin
  pub regup : ResourcePower c.regup

pub record LoadInRange (l : Load) : Type 0 where
  pub rrsok : Between (pos 0) (pos 1) l.rrsok
  pub net : ResourcePower l.net
  pub lpc : ResourcePower l.lpc
  pub rrs : ResourcePower l.rrs

abbrev pub ResourceInRange : Resource → Type 0
ResourceInRange (resource.Generator g) = GeneratorInRange g
ResourceInRange (resource.Controllable c) = ControllableInRange c
ResourceInRange (resource.Load l) = LoadInRange l
