use Rattle.std.proofs.Common.{arith, ℕ, ◌-◌, ◌<◌, ◌≤◌, ◌≡◌, refl, sym, ◌∙◌, List, [], eqb, length, take, get_or}
use borrow.Author.Tests.{eq-eqb}
use Rattle.std.proofs.Math.Seq.{length-take-le, get_or-take}
use Rattle.program_curves.specs.Program.{at_line_start}
use Rattle.program_curves.proofs.Taking.{no_bytes, line_start}
use Rattle.program_curves.proofs.ending.ends_hour.Goals as goal

-- the last byte held tells whether a line starts
last-held : (buffer : List ℕ) (held : ℕ) → 0 < held → held ≤ length buffer → at_line_start (take held buffer) ≡ eqb (get_or buffer (held - 1) 0) 10
last-held buffer held some inside =
    let long : length (take held buffer) ≡ held = length-take-le held buffer inside in
    line_start (take held buffer) (omega arith) ∙ rw (long, get_or-take held buffer (held - 1) 0 (omega arith)) refl

pub returns-then-held-eq0 : goal.returns-then-held-eq0
returns-then-held-eq0 c = rw (eq-eqb c.args.byte 10 c.if-byte-ne10.false, c.if-held-eq0.true) (sym (no_bytes [] refl))

pub returns : goal.returns
returns c = rw (eq-eqb c.args.byte 10 c.if-byte-ne10.false) (sym (last-held c.args.buffer.now c.args.held (omega arith) (omega arith)))
