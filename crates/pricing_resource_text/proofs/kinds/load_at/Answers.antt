use mathlib.Core.Path.{◌≡◌, refl}
use Rattle.std.proofs.Common.{rules, Err}
use Rattle.pricing_resource_text.specs.Resource.{load_of, load_fields}
use Rattle.pricing_resource_text.proofs.Small.{load_small, numbers_small}
use Rattle.pricing_resource_text.proofs.Lines.{load_few, load_is}
use Rattle.pricing_resource_text.proofs.Marking.{read_as, made_read, made_refused}
use Rattle.pricing_resource_text.proofs.kinds.load_at.Goals as goal

pub number_lines-requires : goal.number_lines-requires
number_lines-requires c = load_few refl refl

pub returns-in_err-read : goal.returns-in_err-read
returns-in_err-read c =
    let told : c.from_residual.result ≡ Err c.in_err-read.field-0.0 = search rules in
    rw told (made_refused load_of (read_as load_is c.number_lines.ensures) c.in_err-read.was)

pub narrowed-requires : goal.narrowed-requires
narrowed-requires c =
    let told = (read_as load_is c.number_lines.ensures).taken c.in_ok-read.read c.in_ok-read.was in
    (search rules, (search rules, rw told.1.1 (numbers_small load_fields load_small c.args.text.now c.args.at)))

pub returns : goal.returns
returns c = made_read load_of (read_as load_is c.number_lines.ensures) c.in_ok-read.was (rw c.narrowed.ensures at c.load_of.ensures)
