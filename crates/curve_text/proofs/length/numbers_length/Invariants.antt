-- What is counted and the numbers that are left make up the whole.
use Rattle.std.proofs.Common.{◌≡◌, ◌+◌, ◌*◌, ◌≤◌, drop}
use Rattle.text_writer.specs.internal.Counted.{number_bytes}
use Rattle.curve_text.proofs.length.numbers_length.Given as goal

abbrev pub invariant-loop-value : goal.invariant-loop-value
invariant-loop-value l = record {
  few : l.length ≤ 20 * l.value-index;
  counted : l.length + number_bytes (drop l.value-index l.values) ≡ number_bytes l.values;
}
