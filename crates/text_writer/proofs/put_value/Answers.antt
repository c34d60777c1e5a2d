use Rattle.std.proofs.Common.{arith, [], ◌∷◌}
use Rattle.std.proofs.lemmas.List.{length-append}
use Rattle.text_number.specs.Number.{digits_of}
use Rattle.text_writer.specs.internal.Signed.{sign_of, signed}
use Rattle.text_writer.proofs.Laid.{laid_end}
use Rattle.text_writer.proofs.Writing.{sign_length, number_whole}
use Rattle.text_writer.proofs.put_value.Goals as goal

pub returns : goal.returns
returns c =
    let a = c.args in
    let text = signed a.negative a.n in
    let long = length-append (sign_of a.negative) (digits_of a.n) in
    laid_end 10 (number_whole text c.put_number.ensures (omega (arith, c.digit_count.ensures, sign_length a.negative, long))) (omega (arith, c.requires, length-append text (10 ∷ [])))
