use Rattle.std.proofs.Common.{arith, ◌≡◌, ◌+◌, ◌≤◌, ap, sym, ◌∙◌, Bool, true, false, cond, [], ℕ, ℤ, pos, length, to_z, of_z, w64}
use lib.IntN.{nat_abs}
use lib.Signed.{lt_z}
use mir.Facts.{to_z-of_z}
use Rattle.text_writer.specs.internal.Signed.{signed_value}
use Rattle.text_writer.proofs.MarkedLines.{marked_value, value_unmarked, marked_line_length, mark_laid}
use Rattle.text_writer.proofs.marked.put_marked_value.Goals as goal
use Rattle.text_writer.proofs.marked.put_marked_value.Goals.{After-magnitude}

-- the number by the sign and the magnitude that are handed over
plain : (c : After-magnitude) → signed_value (lt_z (to_z w64 (of_z w64 c.args.z)) (pos 0)) c.magnitude.result ≡ marked_value c.args.z false
plain c =
    let bits : to_z w64 (of_z w64 c.args.z) ≡ c.args.z = to_z-of_z c.ranges.z in
    let negative : Bool = lt_z (to_z w64 (of_z w64 c.args.z)) (pos 0) in
    ap (signed_value negative) (c.magnitude.ensures ∙ ap nat_abs bits) ∙ sym (value_unmarked c.args.z negative (ap (λ (x : ℤ). lt_z x (pos 0)) (sym bits)))

one_more : {suspect : Bool} → suspect ≡ true → ◌≡◌ {A = ℕ} (cond suspect 1 0) 1
one_more e = rw e

pub put_value-next-requires : goal.put_value-next-requires
put_value-next-requires c =
    omega (arith, c.requires, ap length (plain (goal.at.put_value-next-requires c).After-magnitude), marked_line_length [] c.args.z false, marked_line_length [] c.args.z c.args.suspect)

pub put_bytes-requires : goal.put_bytes-requires
put_bytes-requires c =
    omega (arith, c.requires, c.put_value-next.ensures.ends, ap length (plain (goal.at.put_bytes-requires c).After-magnitude), marked_line_length [] c.args.z false, marked_line_length [] c.args.z c.args.suspect, one_more c.if-suspect.true)

pub returns-then-suspect : goal.returns-then-suspect
returns-then-suspect c =
    let room : c.args.at + length (marked_value c.args.z true) ≤ length c.args.buffer.now = rw c.if-suspect.true at c.requires in
    rw c.if-suspect.true (mark_laid c.args.z (rw (plain (goal.at.returns-then-suspect c).After-magnitude) at c.put_value-next.ensures) c.put_bytes.ensures room)

pub returns : goal.returns
returns c = rw (c.if-suspect.false, ← plain (goal.at.returns c).After-magnitude) c.put_value-next.ensures
