-- Internal to functions: a group whose numbers are small enough that V, and the group with one error more, fit machine numbers. No result is stated by it.
use Rattle.std.specs.Prelude.{◌≤◌, nat_abs}
use Rattle.curve_record.specs.declared.Group.{Group}

pub record SmallGroup (g : Group) : Type 0 where
  pub count : g.count ≤ 1000
  pub sum : nat_abs g.sum ≤ 20000000000
  pub squares : nat_abs g.squares ≤ 400000000000000000
