use Rattle.std.proofs.Common.{rules, arith, w32, w64, ◌≡◌, refl, true, ℤ, pos, ◌*ℤ◌, to_z, of_z}
use Rattle.std.proofs.lemmas.Int.{ints}
use mir.Val.{SFits}
use Rattle.pricing_resource.specs.Online.{is_gen_or_wind, is_running, counted_online}
use Rattle.pricing_resource.proofs.online.counted_online.Goals as goal

least : (x : ℤ) → SFits w32 x → to_z w64 (of_z w64 (pos 95 *ℤ to_z w64 (of_z w64 (to_z w32 (of_z w32 x))))) ≡ pos 95 *ℤ x
least x fits = omega (arith, ints)

held : (x : ℤ) → SFits w32 x → to_z w64 (of_z w64 (pos 100 *ℤ to_z w64 (of_z w64 (to_z w32 (of_z w32 x))))) ≡ pos 100 *ℤ x
held x fits = omega (arith, ints)

pub returns : goal.returns
unfolding counted_online
returns c =
    let lsl : SFits w32 c.args.g.lsl = search rules in
    let net : SFits w32 c.args.g.net = search rules in
    let known : is_gen_or_wind c.args.g.kind ≡ true = search rules in
    let running : is_running c.args.g.status c.args.g.nonspin ≡ true = search rules in
    rw (known, running, least c.args.g.lsl lsl, held c.args.g.net net) refl
