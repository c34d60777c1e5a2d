-- Laws of the keys up to a byte: it is the `=` of the last key, or no key's.
use Prim.Native.Nat.{ℕ, ◌-◌, ◌≤◌, ◌<◌}
use mathlib.Core.List.{List}
use mathlib.Core.Path.{◌≡◌}
use native.Mathlib.Omega.{arith}
use lib.ListN.{length, take, get_or}
use lib.Seq.{length-take-le}
use Rattle.text_line.proofs.Pieces.{unmarked_last, marked_last}
use Rattle.text_schema.specs.Schema.{keys_of}
use Rattle.text_writer.specs.internal.Keys.{WholeKeys}

module _ (keys : List ℕ) (end : ℕ) (some : 0 < end) (within : end ≤ length keys) where
  pub whole_before : get_or keys (end - 1) 0 ≡ 61 → WholeKeys (take end keys)
  whole_before e = λ from inside. marked_last 61 keys end some within e from (omega (arith, length-take-le end keys within))

  pub keys_before : (get_or keys (end - 1) 0 ≡ 61 → ⊥) → keys_of (take (end - 1) keys) ≡ keys_of (take end keys)
  keys_before other = unmarked_last 61 keys end some within other
