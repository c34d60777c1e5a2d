-- What stands behind the bytes that are left is no key.
use Rattle.std.proofs.Common.{◌≡◌, take}
use Rattle.text_schema.specs.Schema.{keys_of}
use Rattle.text_writer.proofs.marked.whole_keys.Given as goal

abbrev pub invariant-loop-last : goal.invariant-loop-last
invariant-loop-last l = keys_of (take l.last l.keys) ≡ keys_of l.keys
