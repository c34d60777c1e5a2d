-- The hash so far and what is left of the bytes make the hash of the whole, which the last byte ends where their number is odd.
use Rattle.std.proofs.Common.{◌≡◌, ◌<◌, length}
use Rattle.text_id_table.specs.Table.{hash_from, hash_of}
use Rattle.text_id_table.proofs.hash_of.Given as goal

abbrev pub invariant-loop-rest : goal.invariant-loop-rest
invariant-loop-rest l = record { small : l.hash < 4294967296; rest : hash_from l.hash l.rest ≡ hash_of l.id }

abbrev pub decreases-loop-rest : goal.decreases-loop-rest
decreases-loop-rest l = length l.rest
