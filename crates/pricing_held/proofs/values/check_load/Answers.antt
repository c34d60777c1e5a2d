-- The flag decides, or the three numbers do.
use Rattle.std.proofs.Common.{◌≡◌, nat_abs, sym, ap, ◌∙◌, rules, arith}
use Rattle.text_number.specs.Marked.{first_marked}
use Rattle.text_schema.specs.Schema.{value}
use Rattle.pricing_held.specs.internal.Checks.{flag_checked}
use Rattle.pricing_held.proofs.RowLines.{load_refused, load_checked}
use Rattle.pricing_held.proofs.values.check_load.Goals as goal

pub returns-in_err-check_flag : goal.returns-in_err-check_flag
returns-in_err-check_flag c =
    let marks : c.magnitude-marks.result ≡ nat_abs (value c.args.values.now 8) = search rules in
    let flag : c.check_flag.result ≡ flag_checked c.args.line (first_marked c.magnitude-marks.result) (value c.args.values.now 2) = search rules in
    let refused = load_refused c.args.values.now c.args.line (omega arith) (ap first_marked marks) flag c.in_err-check_flag.was in
    search rules

pub returns : goal.returns
returns c =
    let marks : c.magnitude-marks.result ≡ nat_abs (value c.args.values.now 8) = search rules in
    let flag : c.check_flag.result ≡ flag_checked c.args.line (first_marked c.magnitude-marks.result) (value c.args.values.now 2) = search rules in
    load_checked c.args.values.now c.args.line (omega arith) (ap first_marked marks) (sym c.in_ok-check_flag.was ∙ flag) c.check_numbers.ensures
