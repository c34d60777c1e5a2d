-- Which units are counted: what it depends on, and that no unit is counted twice.
use mathlib.Core.Path.{◌≡◌, refl}
use mathlib.Core.Bool.{Bool, true, false, ◌&&◌}
use lib.IntN.{pos, ◌*ℤ◌}
use lib.Signed.{le_z}
use Rattle.pricing_resource.specs.Online.{is_gen_or_wind, is_running, counted_online}
use Rattle.pricing_resource.specs.Offline.{counted_offline}
use Rattle.pricing_resource.specs.declared.Status.{Status}
use Rattle.pricing_resource.specs.declared.Status.TheVariants as status
use Rattle.pricing_resource.specs.declared.Generator.{Generator}

-- kind, status, net, LSL and Non-Spin say whether a unit is counted on line
pub counted_online_same :
    (a b : Generator) → a.kind ≡ b.kind → a.status ≡ b.status → a.net ≡ b.net → a.lsl ≡ b.lsl → a.nonspin ≡ b.nonspin →
    counted_online a ≡ counted_online b
unfolding counted_online
counted_online_same a b kind status net lsl nonspin = cc

-- a unit counted on line is not counted off line
pub online_not_offline : (g : Generator) → counted_online g ≡ true → counted_offline g.kind g.status g.cold30 ≡ false
unfolding counted_online counted_offline
online_not_offline g counted = go g.status (is_gen_or_wind g.kind) (le_z (pos 95 *ℤ g.lsl) (pos 100 *ℤ g.net)) counted
  where
    go : (s : Status) (known enough : Bool) → known && (is_running s g.nonspin && enough) ≡ true → counted_offline g.kind s g.cold30 ≡ false
    go status.On known enough e = refl
    go status.Off true enough e = cc
    go status.Off false enough e = cc
    go status.OffNs true enough e = cc
    go status.OffNs false enough e = cc
    go status.OnTest known enough e = refl
    go status.Startup known enough e = refl
    go status.Shutdown known enough e = refl
    go status.Out known enough e = refl
