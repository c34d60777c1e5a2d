-- Internal: whether a mark turns the snapshot back on a generator, by its kind, its status and its flag. `marks_turn_back` says which units these are, not this.
use Rattle.std.specs.Prelude.{Bool, true, false, ℤ}
use Rattle.pricing_resource.specs.Online.{is_gen_or_wind}
use Rattle.pricing_resource.specs.Offline.{counted_offline}
use Rattle.pricing_resource.specs.declared.Kind.{Kind}
use Rattle.pricing_resource.specs.declared.Status.{Status}
use Rattle.pricing_resource.specs.declared.Status.TheVariants as status

abbrev pub verdict : Kind → Status → ℤ → Bool
verdict k status.On cold30 = is_gen_or_wind k
verdict k status.Off cold30 = counted_offline k status.Off cold30
verdict k status.OffNs cold30 = true
verdict k status.OnTest cold30 = false
verdict k status.Startup cold30 = is_gen_or_wind k
verdict k status.Shutdown cold30 = false
verdict k status.Out cold30 = false
