use lib.IntN.{nat_abs}
use lib.ListN.{length}
use mathlib.Core.Path.{◌≡◌, ap, ◌∙◌}
use mir.Facts.{to_z-of_z}
use Rattle.text_number.specs.Number.{digits_of}
use Rattle.text_writer.proofs.DigitCount.{sign_and_digits}
use Rattle.text_writer.proofs.number_length.Goals as goal

pub returns : goal.returns
returns c =
    let z = c.args.z in
    let digits : c.digit_count.result ≡ length (digits_of (nat_abs z)) = c.digit_count.ensures ∙ ap (λ n. length (digits_of n)) (c.magnitude.ensures ∙ ap nat_abs (to_z-of_z c.ranges.z)) in
    rw (to_z-of_z c.ranges.z, digits) (sign_and_digits z)
