-- What a table or a picture holds in the first layout: a row for each procedure, and which grids break no rule (document 01, "Profile
-- and table").
use Rattle.std.specs.Prelude.{◌<◌, ℕ, Bool, List, [], ◌≡◌, get_or, length, replicate}
use Rattle.laws.specs.Places.{every_to}
use Rattle.profile.specs.declared.profile.Profile.{Profile}
use Rattle.grid.specs.Row.{Row, no_cell, places, row_good}

-- cfu, cfb, cfnr
abbrev pub grid_procedures : ℕ
grid_procedures = 3

pub record Grid : Type 0 where
  pub rows : List Row

-- a row that holds nothing, and a grid of such rows
abbrev pub no_row : Row
no_row = record { cells = replicate places no_cell }

abbrev pub no_grid : Grid
no_grid = record { rows = replicate grid_procedures no_row }

-- the row of a procedure
abbrev pub row_at : Grid → ℕ → Row
row_at grid procedure = get_or grid.rows procedure (record { cells = [] })

-- the arrays of a machine's grid are whole: a row for each procedure, a cell for each place
pub record GridShaped (grid : Grid) : Type 0 where
  pub rows : length grid.rows ≡ grid_procedures
  pub cells : (k : ℕ) → k < grid_procedures → length (row_at grid k).cells ≡ places

-- every procedure's row breaks no rule
unfoldable pub grid_good : ℕ → Profile → Grid → Bool
grid_good most p grid = every_to (λ procedure. row_good most p procedure (row_at grid procedure)) grid_procedures
