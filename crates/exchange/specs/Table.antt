-- A table: the instances and the last handled identifier (document 01, "Profile and table").
use Rattle.std.specs.Prelude.{ℕ, ◌≡◌, Bool, [], ◌∷◌, leb}
use Rattle.laws.specs.Tests.{all}
use Rattle.profile.specs.declared.profile.Profile.{Profile}
use Rattle.lists.specs.Entries.{instances_most}
use Rattle.instances.specs.Run.{packed, run_good}
use Rattle.instances.specs.declared.run.Run.{Run}
use Rattle.exchange.specs.declared.table.Table.{Table}

-- "the last handled identifier, 0 when fresh, at most 32,767"
abbrev pub last_most : ℕ
last_most = 32767

abbrev pub table_of : ℕ → Run → Table
table_of last run = record { last = last; run = run }

abbrev pub fresh_table : Table
fresh_table = table_of 0 (packed [])

-- whether a table breaks no rule, over the limit of instances for each procedure
unfoldable pub table_good : ℕ → Profile → Table → Bool
table_good most p t = all (leb t.last last_most ∷ run_good most p t.run ∷ [])

-- what `fresh_table` promises
abbrev pub FreshTable : Table → Type 0
FreshTable r = r ≡ fresh_table

-- what `good` promises
abbrev pub TableGood : Profile → Table → Bool → Type 0
TableGood p t r = r ≡ table_good instances_most p t
