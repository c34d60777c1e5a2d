-- the numbers from the place on decide
use Rattle.std.proofs.Common.{◌≡◌, suc, drop}
use Rattle.pricing_sums.specs.Header.{header_lines, fault_from, header_fault}
use Rattle.pricing_sums.proofs.header.header_fault.Given as goal

abbrev pub invariant-loop-place : goal.invariant-loop-place
invariant-loop-place l = header_fault l.fn.header ≡ fault_from (suc l.place) (drop l.place header_lines) (drop l.place l.values)
