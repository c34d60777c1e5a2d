-- What is counted and the bytes of the rest are those of all.
use Rattle.std.proofs.Common.{◌≡◌, ◌≤◌, ◌+◌, ◌*◌, drop}
use Rattle.text_writer.specs.internal.Counted.{number_bytes}
use Rattle.pricing_held_text.proofs.numbers.numbers_length.Given as goal

abbrev pub invariant-loop-z : goal.invariant-loop-z
invariant-loop-z l = (l.total ≤ 20 * l.z-index) × (l.total + number_bytes (drop l.z-index l.values) ≡ number_bytes l.values)
