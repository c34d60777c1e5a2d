-- A set in range is refused for a short buffer alone.
use Rattle.std.proofs.Common.{rules, ◌≡◌, length}
use Rattle.program_page.proofs.Printing.{page_stands, page_short}
use Rattle.program_page.proofs.print_page.Goals as goal

pub returns-in-Ok : goal.returns-in-Ok
returns-in-Ok c =
    let all : length c.args.curves.pairs ≡ 24 = search rules in
    page_stands c.args.curves c.args.out.now c.write_page.new.buffer all c.requires (rw c.in-Ok.is at c.write_page.ensures)

pub returns-in-Err : goal.returns-in-Err
returns-in-Err c =
    let all : length c.args.curves.pairs ≡ 24 = search rules in
    page_short c.args.curves c.args.out.now c.write_page.new.buffer all c.requires (rw c.in-Err.is at c.write_page.ensures)
