use Rattle.std.proofs.Common.{lit≤}
use Rattle.text_id_table.proofs.Table.{table_none}
use Rattle.pricing_held.proofs.rows_checked.Goals as goal

pub check_rows-requires-clause-fact_1 : goal.check_rows-requires-clause-fact_1
check_rows-requires-clause-fact_1 c = table_none 0 c.args.ids.now 192 (lit≤ tt)

pub check_rows-requires-2-clause-fact_1 : goal.check_rows-requires-2-clause-fact_1
check_rows-requires-2-clause-fact_1 c = table_none 0 c.args.ids.now 12288 (lit≤ tt)
