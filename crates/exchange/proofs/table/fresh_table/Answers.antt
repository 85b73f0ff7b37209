use Rattle.exchange.proofs.table.fresh_table.Goals as goal

pub returns : goal.returns
returns c = rw c.fresh_run-run.ensures
