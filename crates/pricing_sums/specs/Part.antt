-- Document 01, "Snapshot to reserves": what each resource adds to the sums before the factor (000, 2.2.1).
use Rattle.std.specs.Prelude.{List, [], ◌∷◌, pos, ◌+ℤ◌, ◌-ℤ◌, cond}
use Rattle.pricing_sums.specs.Sums.{no_sums, plus}
use Rattle.pricing_sums.specs.declared.Sums.{Sums}
use Rattle.pricing_resource.specs.Flag.{is_one}
use Rattle.pricing_resource.specs.Online.{counted_online}
use Rattle.pricing_resource.specs.Offline.{counted_offline}
use Rattle.pricing_resource.specs.declared.Resource.{Resource}
use Rattle.pricing_resource.specs.declared.Resource.TheVariants as resource

-- what one resource adds: G, C, D, the validated net less LPC, and the RRS
unfoldable pub part_of : Resource → Sums
part_of (resource.Generator g) =
    record {
      generation = cond (counted_online g) (g.hsl -ℤ g.base -ℤ g.nonspin) (pos 0);
      controllable = pos 0;
      offline = cond (counted_online g) g.nonspin (cond (counted_offline g.kind g.status g.cold30) g.hsl (pos 0));
      validated = pos 0;
      responsive = pos 0;
    }
part_of (resource.Controllable c) =
    record {
      generation = pos 0;
      controllable = c.base -ℤ c.lpc -ℤ c.nonspin +ℤ c.regup;
      offline = c.nonspin;
      validated = pos 0;
      responsive = pos 0;
    }
part_of (resource.Load l) =
    record {
      generation = pos 0;
      controllable = pos 0;
      offline = pos 0;
      validated = cond (is_one l.rrsok) (l.net -ℤ l.lpc) (pos 0);
      responsive = l.rrs;
    }

-- the sums of several resources are the sum of their parts
unfoldable pub sums_of : List Resource → Sums
sums_of [] = no_sums
sums_of (one ∷ others) = plus (part_of one) (sums_of others)
