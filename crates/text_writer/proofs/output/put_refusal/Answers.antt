use Rattle.std.proofs.Common.{arith, ◌+◌, ◌≤◌, ◌++◌, [], ◌∷◌, false, ap, length}
use Rattle.std.proofs.lemmas.List.{length-append}
use Rattle.text_refusal.specs.Bytes.{bytes}
use Rattle.text_writer.specs.internal.Signed.{signed_line}
use Rattle.text_writer.proofs.Laid.{laid_both}
use Rattle.text_writer.proofs.Refused.{refusal-signed}
use Rattle.text_writer.proofs.output.put_refusal.Goals as goal
use Rattle.text_writer.proofs.output.put_refusal.Goals.{Start}

-- the room that the three lines have
fits : (c : Start) → length (signed_line (bytes "refused=") false c.args.found.number) + (length (signed_line (bytes "line=") false c.args.found.line) + length (bytes "text=" ++ (c.args.name.now ++ (10 ∷ [])))) ≤ length c.args.buffer.now
fits c =
    let one = signed_line (bytes "refused=") false c.args.found.number in
    let two = signed_line (bytes "line=") false c.args.found.line in
    let three = bytes "text=" ++ (c.args.name.now ++ (10 ∷ [])) in
    omega (arith, c.requires, ap length (refusal-signed c.args.found c.args.name.now), length-append one (two ++ three), length-append two three)

pub put_line-second-requires : goal.put_line-second-requires
put_line-second-requires c = omega (arith, fits (goal.at.put_line-second-requires c).Start)

pub put_line-third-requires : goal.put_line-third-requires
put_line-third-requires c = omega (arith, fits (goal.at.put_line-third-requires c).Start, c.put_line-second.ensures.ends)

pub put_text_line-requires : goal.put_text_line-requires
put_text_line-requires c = omega (arith, fits (goal.at.put_text_line-requires c).Start, c.put_line-second.ensures.ends, c.put_line-third.ensures.ends)

pub returns : goal.returns
returns c =
    let room = fits (goal.at.returns c).Start in
    rw (refusal-signed c.args.found c.args.name.now)
    (laid_both c.put_line-second.ensures (laid_both c.put_line-third.ensures c.put_text_line.ensures (omega (arith, room, c.put_line-second.ensures.ends))) (omega (arith, room)))
