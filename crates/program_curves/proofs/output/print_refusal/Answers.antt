use Rattle.std.proofs.Common.{arith, ℕ, ◌≤◌, ◌<◌, ◌^◌, ◌≡◌, List, length}
use Rattle.text_refusal.specs.declared.refusal.Refusal.{Refusal}
use Rattle.text_writer.specs.Output.{refusal_lines}
use Rattle.text_writer.proofs.Refused.{refusal_short}
use Rattle.program_curves.proofs.Printing.{printed_or}
use Rattle.program_curves.proofs.output.print_refusal.Goals as goal

short : (found : Refusal) (name out : List ℕ) → found.number < 2 ^ 64 → found.line < 2 ^ 64 → length name ≤ 6 → length out ≡ 768 →
    length (refusal_lines found name) ≤ length out
short found name out number line small room = omega (arith, refusal_short found name number line (omega arith))

pub returns : goal.returns
returns c =
    printed_or (refusal_lines c.args.found c.args.name.now) c.args.out.now c.write_refusal.new.buffer c.write_refusal.result
    (short c.args.found c.args.name.now c.args.out.now (omega arith) (omega arith) c.requires.name_len_bound c.requires.out_len)
    c.write_refusal.ensures c.unwrap_or.ensures
