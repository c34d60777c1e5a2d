use Rattle.std.proofs.Common.{arith, rules, FitsSigned, w64, ◌≡◌, ◌<◌, nat_abs}
use mir.Facts.{to_z-of_z}
use Rattle.curve_group.specs.Season.{group_of}
use Rattle.curve_group.proofs.Season.{group_below}
use Rattle.pricing_sums.proofs.Headers.{header_bound}
use Rattle.pricing_adder.proofs.Bounds.{curves_bound}
use Rattle.pricing_adder.proofs.reserve.Tested.pair.Goals as goal

pub offset_bounds-self-group : goal.offset_bounds-self-group
offset_bounds-self-group c =
    let month : FitsSigned w64 c.args.self.now.header.month = search rules in
    let hour : FitsSigned w64 c.args.self.now.header.hour = search rules in
    let group : c.group_of-group.result ≡ group_of (nat_abs c.args.self.now.header.month) (nat_abs c.args.self.now.header.hour) =
    rw (c.group_of-group.ensures, c.magnitude.ensures, c.magnitude-2.ensures, to_z-of_z month, to_z-of_z hour) in
    let inside : c.group_of-group.result < 24 =
    rw group (group_below (nat_abs c.args.self.now.header.month) (nat_abs c.args.self.now.header.hour) (header_bound c.args.self.now.header c.args.self.now.header_tested).hour) in
    omega arith

pub bounds-self-group : goal.bounds-self-group
bounds-self-group c =
    let month : FitsSigned w64 c.args.self.now.header.month = search rules in
    let hour : FitsSigned w64 c.args.self.now.header.hour = search rules in
    let group : c.group_of-group.result ≡ group_of (nat_abs c.args.self.now.header.month) (nat_abs c.args.self.now.header.hour) =
    rw (c.group_of-group.ensures, c.magnitude.ensures, c.magnitude-2.ensures, to_z-of_z month, to_z-of_z hour) in
    let inside : c.group_of-group.result < 24 =
    rw group (group_below (nat_abs c.args.self.now.header.month) (nat_abs c.args.self.now.header.hour) (header_bound c.args.self.now.header c.args.self.now.header_tested).hour) in
    inside

pub returns-clause-value : goal.returns-clause-value
returns-clause-value c =
    let month : FitsSigned w64 c.args.self.now.header.month = search rules in
    let hour : FitsSigned w64 c.args.self.now.header.hour = search rules in
    let group : c.group_of-group.result ≡ group_of (nat_abs c.args.self.now.header.month) (nat_abs c.args.self.now.header.hour) =
    rw (c.group_of-group.ensures, c.magnitude.ensures, c.magnitude-2.ensures, to_z-of_z month, to_z-of_z hour) in
    rw group

pub returns-clause-mean_bound : goal.returns-clause-mean_bound
returns-clause-mean_bound c = ((curves_bound c.args.self.now.curves c.args.self.now.curves_tested).pair _).mean

pub returns-clause-spread_bound : goal.returns-clause-spread_bound
returns-clause-spread_bound c = ((curves_bound c.args.self.now.curves c.args.self.now.curves_tested).pair _).spread
