-- The rows of a grid: it breaks no rule where none of them does. Assumes nothing.
use Prim.Native.Nat.{◌<◌, ℕ}
use mathlib.Core.Bool.{Bool, false, true}
use mathlib.Core.Path.{◌≡◌}
use Rattle.laws.proofs.Walks.{every_all, every_at, every_fails}
use Rattle.profile.specs.declared.profile.Profile.{Profile}
use Rattle.grid.specs.Grid.{Grid, grid_good, grid_procedures, row_at}
use Rattle.grid.specs.Row.{row_good}

module _ (most : ℕ) (p : Profile) (grid : Grid) where
  abbrev judged : ℕ → Bool
  judged k = row_good most p k (row_at grid k)

  -- a grid that breaks no rule has rows that break none, and the other way round
  pub grid_row : (k : ℕ) → k < grid_procedures → grid_good most p grid ≡ true → row_good most p k (row_at grid k) ≡ true
  unfolding grid_good
  grid_row k h good = every_at judged grid_procedures k h good

  pub grid_rows : ((k : ℕ) → k < grid_procedures → row_good most p k (row_at grid k) ≡ true) → grid_good most p grid ≡ true
  unfolding grid_good
  grid_rows good = every_all judged grid_procedures good

  -- a row that breaks one
  pub grid_fails : (k : ℕ) → k < grid_procedures → row_good most p k (row_at grid k) ≡ false → grid_good most p grid ≡ false
  unfolding grid_good
  grid_fails k h bad = every_fails judged grid_procedures k h bad
