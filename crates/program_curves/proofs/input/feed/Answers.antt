use Rattle.std.proofs.Common.{rules, ◌≡◌, ◌∙◌, sym, length}
use Rattle.program_curves.proofs.Feeding.{going_refused, going_end, going_stored, going_byte, held_whole, take_within, part_from}
use Rattle.program_curves.proofs.input.feed.Goals as goal

pub returns-in_default : goal.returns-in_default
returns-in_default c =
    let room : length c.args.buffer.now ≡ 65536 = search rules in
    held_whole c.args.stream _ c.args.buffer.now c.args.part.now _ c.min.result (take_within c.args.buffer.now c.args.stream.held c.min.result room c.min.ensures)
    (going_end (going_stored c.loop-rest.invariant c.store-stored.new.buffer c.store-stored.result c.store-stored.ensures.stored) (rw (part_from c.loop-rest.rest.now c.store-stored.result) at c.in_default.ensures.cases))

pub loop-rest-preserved : goal.loop-rest-preserved
loop-rest-preserved c =
    going_byte (going_stored c.loop-rest.invariant c.store-stored.new.buffer c.store-stored.result c.store-stored.ensures.stored)
    c.end_byte-stream.result c.end_byte-stream.new.buffer c.in-Some.byte.now c.in-Some.more.now (rw (part_from c.loop-rest.rest.now c.store-stored.result) at c.in-Some.ensures.cases.0) c.end_byte-stream.ensures

pub returns : goal.returns
returns c =
    let room : length c.args.buffer.now ≡ 65536 = search rules in
    held_whole c.args.stream _ c.args.buffer.now c.args.part.now _ c.min.result (take_within c.args.buffer.now c.args.stream.held c.min.result room c.min.ensures)
    (going_refused c.loop-rest.invariant (sym c.is_refused.ensures ∙ c.loop-rest-test.false))
