-- Raised resources add no less to the sums.
use mathlib.Core.Path.{◌≡◌, refl, sym, ◌∙◌}
use mathlib.Core.Bool.{Bool, true, false, cond}
use mathlib.Core.List.{List}
use lib.IntN.{ℤ, pos}
use lib.Signed.{◌≤ℤ◌, ≤ℤ_refl}
use Rattle.integer.proofs.Order.{≤ℤ_of_≡, +ℤ_mono, -ℤ-mono}
use Rattle.pricing_sums.specs.Sums.{no_sums, SumsNotLower}
use Rattle.pricing_sums.proofs.Addition.{plus_monotone, sums_not_lower_self, sums_none, sums_more}
use Rattle.pricing_sums.proofs.Parts.{part_online, part_offline, part_uncounted, part_controllable, part_load}
use Rattle.pricing_resource.proofs.Counted.{counted_online_same}
use Rattle.pricing_resource.specs.Flag.{is_one}
use Rattle.pricing_resource.specs.Online.{counted_online}
use Rattle.pricing_resource.specs.Offline.{counted_offline}
use Rattle.pricing_sums.specs.Part.{part_of, sums_of}
use Rattle.pricing_snapshot.specs.Snapshot.{Entry, resources_of}
use Rattle.pricing.specs.Promises.{GeneratorRaised, ControllableRaised, LoadRaised, ResourceRaised, generator_raised, controllable_raised, load_raised, EntriesRaised, none_raised, one_raised}
use Rattle.pricing_resource.specs.declared.Generator.{Generator}
use Rattle.pricing_resource.specs.declared.Controllable.{Controllable}
use Rattle.pricing_resource.specs.declared.Load.{Load}
use Rattle.pricing_resource.specs.declared.Resource.{Resource}
use Rattle.pricing_resource.specs.declared.Resource.TheVariants as resource

-- ---- raised resources

-- whether a unit is counted on line, or off line, is told by what is held fixed
counted_as : {a b : Generator} → GeneratorRaised a b → counted_online b ≡ counted_online a
counted_as {a} {b} r = sym (counted_online_same a b r.kind r.status r.net r.lsl r.nonspin)

generator_part : (a b : Generator) → GeneratorRaised a b → SumsNotLower (part_of (resource.Generator a)) (part_of (resource.Generator b))
generator_part a b r = go (counted_online a) (counted_offline a.kind a.status a.cold30) refl refl
  where
    go :
        (online offline : Bool) → counted_online a ≡ online → counted_offline a.kind a.status a.cold30 ≡ offline →
        SumsNotLower (part_of (resource.Generator a)) (part_of (resource.Generator b))
    go true offline on off =
        rw (part_online a on, part_online b (counted_as r ∙ on))
        (record {
          generation = -ℤ-mono (-ℤ-mono r.hsl r.base) (≤ℤ_of_≡ (sym r.nonspin));
          controllable = ≤ℤ_refl (pos 0);
          offline = ≤ℤ_of_≡ r.nonspin;
          validated = ≤ℤ_refl (pos 0);
          responsive = ≤ℤ_refl (pos 0);
        })
    go false true on off =
        rw (part_offline a on off, part_offline b (counted_as r ∙ on) (rw (r.kind, r.status, r.cold30) at off))
        (record {
          generation = ≤ℤ_refl (pos 0);
          controllable = ≤ℤ_refl (pos 0);
          offline = r.hsl;
          validated = ≤ℤ_refl (pos 0);
          responsive = ≤ℤ_refl (pos 0);
        })
    go false false on off =
        rw (part_uncounted a on off, part_uncounted b (counted_as r ∙ on) (rw (r.kind, r.status, r.cold30) at off)) (sums_not_lower_self no_sums)

controllable_part : (a b : Controllable) → ControllableRaised a b → SumsNotLower (part_of (resource.Controllable a)) (part_of (resource.Controllable b))
controllable_part a b r =
    rw (part_controllable a, part_controllable b)
    (record {
      generation = ≤ℤ_refl (pos 0);
      controllable = +ℤ_mono (-ℤ-mono (-ℤ-mono r.base r.lpc) (≤ℤ_of_≡ (sym r.nonspin))) r.regup;
      offline = ≤ℤ_of_≡ r.nonspin;
      validated = ≤ℤ_refl (pos 0);
      responsive = ≤ℤ_refl (pos 0);
    })

cond_mono : (b : Bool) {x x' y y' : ℤ} → x ≤ℤ x' → y ≤ℤ y' → cond b x y ≤ℤ cond b x' y'
cond_mono true h k = h
cond_mono false h k = k

load_part : (a b : Load) → LoadRaised a b → SumsNotLower (part_of (resource.Load a)) (part_of (resource.Load b))
load_part a b r =
    rw (part_load a, part_load b)
    (record {
      generation = ≤ℤ_refl (pos 0);
      controllable = ≤ℤ_refl (pos 0);
      offline = ≤ℤ_refl (pos 0);
      validated = rw (← r.rrsok) (cond_mono (is_one a.rrsok) (-ℤ-mono r.net r.lpc) (≤ℤ_refl (pos 0)));
      responsive = r.rrs;
    })

pub raised-part : {a b : Resource} → ResourceRaised a b → SumsNotLower (part_of a) (part_of b)
raised-part (generator_raised {first} {second} r) = generator_part first second r
raised-part (controllable_raised {first} {second} r) = controllable_part first second r
raised-part (load_raised {first} {second} r) = load_part first second r

-- raised resources give no lower sums
pub raised_sums : {entries entries' : List Entry} → EntriesRaised entries entries' → SumsNotLower (sums_of (resources_of entries)) (sums_of (resources_of entries'))
raised_sums none_raised = rw sums_none (sums_not_lower_self no_sums)
raised_sums (one_raised {first} {second} {others} {others'} same r rest) =
    rw (sums_more first.resource (resources_of others), sums_more second.resource (resources_of others')) (plus_monotone (raised-part r) (raised_sums rest))
