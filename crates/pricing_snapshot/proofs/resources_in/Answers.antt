use lib.Dec.{lit≤}
use Rattle.text_id_table.proofs.Table.{table_none}
use Rattle.pricing_snapshot.proofs.resources_in.Goals as goal

pub resources_at-requires-clause-fact_1 : goal.resources_at-requires-clause-fact_1
resources_at-requires-clause-fact_1 c = table_none 10 c.args.text.now 192 (lit≤ tt)

pub resources_at-requires-2-clause-fact_1 : goal.resources_at-requires-2-clause-fact_1
resources_at-requires-2-clause-fact_1 c = table_none 10 c.args.text.now 12288 (lit≤ tt)
