-- What a check gives: what was asked for, or the number of a refusal.
use Rattle.std.specs.Prelude.{ℕ}

pub data Judged (A : Type 0) : Type 0 where
  good : A → Judged A
  bad : ℕ → Judged A
