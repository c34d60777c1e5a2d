use Rattle.std.proofs.Common.{arith, rules, FitsSigned, w64, ◌≤◌, ◌∙◌}
use mir.Facts.{to_z-of_z}
use Rattle.pricing_adder.proofs.Bounds.{shortage_online_bound, shortage_offline_bound}
use Rattle.pricing_adder.proofs.Steps.{price_fits, prices_same}
use Rattle.pricing_adder.proofs.reserve.Tested.prices.Goals as goal

pub overflow_cast-result : goal.overflow_cast-result
overflow_cast-result c =
    let online : c.shortages-s.result.online ≤ 1000000000 = rw c.shortages-s.ensures.online (shortage_online_bound _ _ _) in
    let offline : c.shortages-s.result.offline ≤ 1000000000 = rw c.shortages-s.ensures.offline (shortage_offline_bound _ _ _) in
    omega arith

pub overflow_cast-result-2 : goal.overflow_cast-result-2
overflow_cast-result-2 c =
    let online : c.shortages-s.result.online ≤ 1000000000 = rw c.shortages-s.ensures.online (shortage_online_bound _ _ _) in
    let offline : c.shortages-s.result.offline ≤ 1000000000 = rw c.shortages-s.ensures.offline (shortage_offline_bound _ _ _) in
    omega arith

pub overflow_add-s : goal.overflow_add-s
overflow_add-s c =
    let online : c.shortages-s.result.online ≤ 1000000000 = rw c.shortages-s.ensures.online (shortage_online_bound _ _ _) in
    let offline : c.shortages-s.result.offline ≤ 1000000000 = rw c.shortages-s.ensures.offline (shortage_offline_bound _ _ _) in
    omega arith

pub rounded_share-requires-clause-share_bound : goal.rounded_share-requires-clause-share_bound
rounded_share-requires-clause-share_bound c =
    let online : c.shortages-s.result.online ≤ 1000000000 = rw c.shortages-s.ensures.online (shortage_online_bound _ _ _) in
    let offline : c.shortages-s.result.offline ≤ 1000000000 = rw c.shortages-s.ensures.offline (shortage_offline_bound _ _ _) in
    omega arith

pub rounded_share-requires-2-clause-share_bound : goal.rounded_share-requires-2-clause-share_bound
rounded_share-requires-2-clause-share_bound c =
    let online : c.shortages-s.result.online ≤ 1000000000 = rw c.shortages-s.ensures.online (shortage_online_bound _ _ _) in
    let offline : c.shortages-s.result.offline ≤ 1000000000 = rw c.shortages-s.ensures.offline (shortage_offline_bound _ _ _) in
    omega arith

pub overflow_cast-result-3 : goal.overflow_cast-result-3
overflow_cast-result-3 c =
    let online : c.shortages-s.result.online ≤ 1000000000 = rw c.shortages-s.ensures.online (shortage_online_bound _ _ _) in
    let offline : c.shortages-s.result.offline ≤ 1000000000 = rw c.shortages-s.ensures.offline (shortage_offline_bound _ _ _) in
    price_fits _ _ c.value-value.ensures.bound (omega arith) c.rounded_share.ensures

pub overflow_cast-result-4 : goal.overflow_cast-result-4
overflow_cast-result-4 c =
    let online : c.shortages-s.result.online ≤ 1000000000 = rw c.shortages-s.ensures.online (shortage_online_bound _ _ _) in
    let offline : c.shortages-s.result.offline ≤ 1000000000 = rw c.shortages-s.ensures.offline (shortage_offline_bound _ _ _) in
    price_fits _ _ c.value-value.ensures.bound (omega arith) c.rounded_share-2.ensures

pub returns : goal.returns
returns c =
    let rs : FitsSigned w64 c.online_reserve-rs.result = search rules in
    let rsns : FitsSigned w64 c.total_reserve-rsns.result = search rules in
    prices_same c.args.self.now.curves c.args.self.now.header c.args.self.now.sums (to_z-of_z rs ∙ c.online_reserve-rs.ensures) (to_z-of_z rsns ∙ c.total_reserve-rsns.ensures)
    c.shortages-s.ensures.online c.shortages-s.ensures.offline c.value-value.ensures.value c.rounded_share.ensures c.rounded_share-2.ensures
