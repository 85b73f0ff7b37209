-- "Replies, sheets, calls and refusals must equal those of the grid for every sequence of requests" (document 02, R-10), shown by what
-- instances a table holds. Assumes nothing.
use Prim.Native.Nat.{ℕ}
use mathlib.Core.List.{List}
use mathlib.Core.Logic.{inl}
use Rattle.profile.specs.Access.{access_read}
use Rattle.exchange.specs.Table.{fresh_table}
use Rattle.exchange.specs.declared.table.Table.{Table}
use Rattle.sheets.specs.Sheets.{read_sheet}
use Rattle.grid.specs.Equal.{Alike, Component, SameTable, grid_after, run_after}
use Rattle.grid.specs.Sheets.{grid_read_sheet}
use Rattle.grid.specs.Table.{GridTable, grid_fresh}
use Rattle.grid.proofs.SameArrivals.{sequence_same}
use Rattle.grid.proofs.SameCalls.{comes_same, original_same}
use Rattle.grid.proofs.SameSheets.{read_same, wrote_same}
use Rattle.grid.proofs.SameTables.{fresh_same}

-- tables that are the same
pub same_alike : (access : List ℕ) (g : GridTable) (t : Table) → SameTable (access_read access).profile g t → Alike access g t
same_alike access g t so =
    let after : (cs : List Component) → SameTable (access_read access).profile (grid_after access g cs) (run_after access t cs) =
    λ cs. (sequence_same access cs g t so).1 in
    record {
      replies = λ cs. (sequence_same access cs g t so).0;
      calls = λ cs call. comes_same access (grid_after access g cs) (run_after access t cs) call (after cs);
      originals = λ cs call. original_same access (grid_after access g cs) (run_after access t cs) call (after cs);
      sheets = λ cs size. wrote_same access (grid_after access g cs) (run_after access t cs) size (after cs);
    }

-- so are those of a new access
pub fresh_alike : (access : List ℕ) → Alike access grid_fresh fresh_table
fresh_alike access = same_alike access grid_fresh fresh_table (inl (fresh_same (access_read access).profile))

-- and those that are read of a sheet
pub read_alike : (access s : List ℕ) → Alike access (grid_read_sheet access s).table (read_sheet access s).table
read_alike access s = same_alike access (grid_read_sheet access s).table (read_sheet access s).table (inl (read_same access s).tables)
