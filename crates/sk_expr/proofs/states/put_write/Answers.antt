use Rattle.std.proofs.Common.{arith}
use Rattle.sk_expr.proofs.Tables.{written_at}
use Rattle.sk_expr.proofs.states.put_write.Goals as goal

pub returns : goal.returns
returns c = written_at c.args.tables.now.items c.args.write.now _ _ _ _ (omega arith) c.index_mut.ensures.value c.replace-rows.ensures.value c.in_ok-tables.ensures
