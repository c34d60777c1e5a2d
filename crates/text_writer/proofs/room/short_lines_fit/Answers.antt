use Rattle.std.proofs.Common.{arith, length, rules, tests, sym, ◌∙◌, ◌≡◌}
use Rattle.std.specs.List.{list_all}
use Rattle.std.proofs.lemmas.Iterator.{YieldsList-from_slice}
use Rattle.std.proofs.lemmas.Iterator.Search.{all_from_yields_List}
use Rattle.text_schema.specs.Schema.{keys_of}
use Rattle.text_writer.proofs.Counted.{marked_room}
use Rattle.text_writer.proofs.ShortLines.{is_short, key_bytes_within, short_lines}
use Rattle.text_writer.proofs.room.short_lines_fit.Goals as goal

pub returns : goal.returns
returns c = λ told.
    let values = c.args.values.now in
    let all : c.all.result ≡ list_all is_short values = all_from_yields_List is_short _ _ _ c.all.ensures.ran (YieldsList-from_slice values cc) (λ x b q k. search (rules, tests)) in
    omega (arith, key_bytes_within c.args.keys.now, short_lines (keys_of c.args.keys.now) values c.args.marks (sym all ∙ told), marked_room (length values) _ c.args.marks c.if-room-keys-2.false)
