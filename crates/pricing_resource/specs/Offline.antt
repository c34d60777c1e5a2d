-- Document 01, "Snapshot to reserves": whose HSL is counted off line.
use Rattle.std.specs.Prelude.{Bool, true, false, ◌&&◌, ℤ}
use Rattle.pricing_resource.specs.Flag.{is_one}
use Rattle.pricing_resource.specs.declared.Kind.{Kind}
use Rattle.pricing_resource.specs.declared.Kind.TheVariants as kind
use Rattle.pricing_resource.specs.declared.Status.{Status}
use Rattle.pricing_resource.specs.declared.Status.TheVariants as status

abbrev pub is_gen_or_nuke : Kind → Bool
is_gen_or_nuke kind.Gen = true
is_gen_or_nuke kind.Wind = false
is_gen_or_nuke kind.Irr = false
is_gen_or_nuke kind.Nuke = true

-- OFF with cold30 = 1 and gen or nuke, or OFFNS of any kind
unfoldable pub counted_offline : Kind → Status → ℤ → Bool
counted_offline k status.On cold30 = false
counted_offline k status.Off cold30 = is_one cold30 && is_gen_or_nuke k
counted_offline k status.OffNs cold30 = true
counted_offline k status.OnTest cold30 = false
counted_offline k status.Startup cold30 = false
counted_offline k status.Shutdown cold30 = false
counted_offline k status.Out cold30 = false
