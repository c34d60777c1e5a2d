use Rattle.std.proofs.Common.{arith, ◌≡◌, ap, sym, ◌∙◌, Bool, ℤ, pos, to_z, of_z, w64}
use lib.IntN.{nat_abs}
use lib.Signed.{lt_z}
use mir.Facts.{to_z-of_z}
use Rattle.text_writer.proofs.Rows.{cell_length, cell_laid}
use Rattle.text_writer.proofs.row.put_cell.Goals as goal

pub overflow_add-end : goal.overflow_add-end
overflow_add-end c = omega (arith, c.requires, cell_length c.args.width c.args.z)

pub put_number-first-requires : goal.put_number-first-requires
put_number-first-requires c = (omega arith, omega (arith, c.requires, cell_length c.args.width c.args.z))

pub put_spaces-requires : goal.put_spaces-requires
put_spaces-requires c = omega (arith, c.requires, cell_length c.args.width c.args.z, c.put_number-first.ensures.ends)

pub returns : goal.returns
returns c =
    let a = c.args in
    let bits : to_z w64 (of_z w64 a.z) ≡ a.z = to_z-of_z c.ranges.z in
    let size : c.magnitude.result ≡ nat_abs a.z = c.magnitude.ensures ∙ ap nat_abs bits in
    let negative : Bool = lt_z (to_z w64 (of_z w64 a.z)) (pos 0) in
    cell_laid a.width a.z negative (ap (λ (x : ℤ). lt_z x (pos 0)) (sym bits)) (rw size at c.put_number-first.ensures) c.put_spaces.ensures (omega arith) (omega (arith, c.requires, cell_length a.width a.z))
