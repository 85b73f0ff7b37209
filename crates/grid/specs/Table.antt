-- A table in the first layout: the grid of its instances and the last handled identifier, and which tables break no rule (document 01,
-- "Profile and table").
use Rattle.std.specs.Prelude.{ℕ, Bool, false, leb, set}
use Rattle.laws.specs.Pick.{pick}
use Rattle.profile.specs.declared.profile.Profile.{Profile}
use Rattle.exchange.specs.Table.{last_most}
use Rattle.grid.specs.Grid.{Grid, grid_good, no_grid}
use Rattle.grid.specs.Row.{Row}

pub record GridTable : Type 0 where
  pub last : ℕ
  pub grid : Grid

-- the table of a new access
abbrev pub grid_fresh : GridTable
grid_fresh = record { last = 0; grid = no_grid }

-- whether a table breaks no rule, over the limit of instances for each procedure
unfoldable pub grid_table_good : ℕ → Profile → GridTable → Bool
grid_table_good most p t = pick (leb t.last last_most) (grid_good most p t.grid) false

-- the table with another row for a procedure
abbrev pub grid_with_row : ℕ → Row → GridTable → GridTable
grid_with_row procedure row t = record { last = t.last; grid = record { rows = set t.grid.rows procedure row } }

-- the table with another last handled identifier
abbrev pub grid_with_last : ℕ → GridTable → GridTable
grid_with_last last t = record { last = last; grid = t.grid }
