use Rattle.std.proofs.Common.{rules, ◌≡◌, length}
use Rattle.program_curves.specs.Program.{hours_booked}
use Rattle.program_curves.proofs.Printing.{no_hour, one_hour}
use Rattle.program_curves.proofs.output.last_booked.Goals as goal

pub returns-then-is_empty : goal.returns-then-is_empty
unfolding hours_booked
returns-then-is_empty c =
    let none : length c.args.hour.now ≡ 0 = search rules in
    λ voll floor. rw (no_hour c.args.hour.now none)

pub returns : goal.returns
unfolding hours_booked
returns c =
    let some : length c.args.hour.now ≡ 0 → ⊥ = search rules in
    λ voll floor. rw (one_hour c.args.hour.now some, c.book.ensures)
