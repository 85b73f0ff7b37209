use Rattle.exchange.proofs.Tables.{table_over, table_run}
use Rattle.lists.specs.Entries.{instances_most}
use mathlib.Core.Path.{sym, ◌∙◌}
use Rattle.exchange.proofs.table.Table.good.Goals as goal

pub returns-then-self-gt-LASTMOST : goal.returns-then-self-gt-LASTMOST
returns-then-self-gt-LASTMOST c =
    let a = c.args in sym (table_over instances_most a.p a.self c.if-self-gt-LASTMOST.true)

pub returns : goal.returns
returns c =
    let a = c.args in
    c.good.ensures ∙ sym (table_run instances_most a.p a.self c.if-self-gt-LASTMOST.false)
