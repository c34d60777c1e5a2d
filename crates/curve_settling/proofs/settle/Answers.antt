use Rattle.std.proofs.Common.{◌≡◌, Bool, true, rules, sym, ◌∙◌, ℤ, to_z, of_z, w64, to_z-of_z}
use mir.Val.{SFits}
use Rattle.curve_record.specs.Possible.{record_possible}
use Rattle.curve_set.specs.Curves.{voll_in_range, floor_in_range}
use Rattle.curve_settling.specs.Settle.{settled}
use Rattle.curve_settling.proofs.settle.Goals as goal

-- a number that passed the test of its range
passed : (in_range : ℤ → Bool) (z : ℤ) {found : Bool} → SFits w64 z → found ≡ in_range (to_z w64 (of_z w64 z)) → found ≡ true → in_range z ≡ true
passed in_range z fits is found = sym (rw (to_z-of_z fits) at is) ∙ found

pub returns : goal.returns
unfolding settled
returns c =
    let possible : record_possible c.args.history ≡ true = search rules in
    rw (
      possible,
      passed voll_in_range c.args.voll c.ranges.voll c.voll_in_range.ensures c.if-not-voll_in_range.false,
      passed floor_in_range c.args.floor c.ranges.floor c.floor_in_range.ensures c.if-not-floor_in_range.false,
    )
    (rw (to_z-of_z c.ranges.voll, to_z-of_z c.ranges.floor) at c.settle_groups.ensures)
