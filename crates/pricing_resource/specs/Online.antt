-- Document 01, "Snapshot to reserves": which units are counted on line.
use Rattle.std.specs.Prelude.{Bool, true, false, ◌&&◌, ℤ, pos, ◌*ℤ◌}
use Rattle.std.specs.Int.Signed.{le_z, lt_z}
use Rattle.pricing_resource.specs.declared.Kind.{Kind}
use Rattle.pricing_resource.specs.declared.Kind.TheVariants as kind
use Rattle.pricing_resource.specs.declared.Status.{Status}
use Rattle.pricing_resource.specs.declared.Status.TheVariants as status
use Rattle.pricing_resource.specs.declared.Generator.{Generator}

abbrev pub is_gen_or_wind : Kind → Bool
is_gen_or_wind kind.Gen = true
is_gen_or_wind kind.Wind = true
is_gen_or_wind kind.Irr = false
is_gen_or_wind kind.Nuke = false

-- ON, or STARTUP with Non-Spin above 0
abbrev pub is_running : Status → ℤ → Bool
is_running status.On nonspin = true
is_running status.Off nonspin = false
is_running status.OffNs nonspin = false
is_running status.OnTest nonspin = false
is_running status.Startup nonspin = lt_z (pos 0) nonspin
is_running status.Shutdown nonspin = false
is_running status.Out nonspin = false

-- gen or wind, running, and 100 × net >= 95 × lsl
unfoldable pub counted_online : Generator → Bool
counted_online g =
    is_gen_or_wind g.kind && (is_running g.status g.nonspin && le_z (pos 95 *ℤ g.lsl) (pos 100 *ℤ g.net))
