-- Internal to functions: the ranges of the values that an hour's own lines and the lines of a run hold. No public result is stated by it.
use Rattle.std.specs.Prelude.{ℤ, pos, neg_ℤ, ◌≤ℤ◌}
use Rattle.curve_hour.specs.Hour.{Hour, Run}

abbrev pub Between : ℤ → ℤ → ℤ → Type 0
Between low high z = (low ≤ℤ z) × (z ≤ℤ high)

-- a power value
abbrev pub Power : ℤ → Type 0
Power z = Between (pos 0) (pos 100000000) z

pub record HourInRange (h : Hour) : Type 0 where
  pub month : Between (pos 1) (pos 12) h.month
  pub hour : Between (pos 0) (pos 23) h.hour
  pub ongen : Power h.ongen
  pub load : Power h.load
  pub tie : Between (neg_ℤ (pos 20000000)) (pos 20000000) h.tie
  pub ns : Power h.ns
  pub reg : Power h.reg
  pub rrs : Power h.rrs
  pub nclr : Power h.nclr
  pub offns : Power h.offns
  pub cold30 : Power h.cold30
  pub shed : Power h.shed
  pub runs : Between (pos 1) (pos 60) h.runs

pub record RunInRange (r : Run) : Type 0 where
  pub hsl : Power r.hsl
  pub base : Power r.base
  pub rrs : Power r.rrs
  pub nclr : Power r.nclr
  pub reg : Power r.reg
  pub ns : Power r.ns
  pub offns : Power r.offns
  pub cold30 : Power r.cold30
  pub short : Power r.short
