-- What it means that a table breaks no rule, and that another row or another last handled identifier leaves it so. Assumes nothing.
use Prim.Native.Nat.{◌<◌, ◌≤◌, ℕ}
use mathlib.Core.Bool.{false, true}
use mathlib.Core.Path.{◌≡◌, refl}
use lib.Dec.{eqb, leb}
use lib.IntN.{ℤ}
use lib.ListN.{length}
use lib.Signed.{mag}
use borrow.Author.Tests.{eqb-true, le-leb, leb-true, lt-leb}
use Rattle.laws.specs.Pick.{pick}
use Rattle.laws.proofs.Picks.{pick_ind, pick_map, pick_then}
use Rattle.profile.specs.declared.profile.Profile.{Profile}
use Rattle.exchange.specs.Table.{last_most}
use Rattle.grid.specs.Grid.{grid_good, grid_procedures, row_at}
use Rattle.grid.specs.Row.{Row, row_good}
use Rattle.grid.specs.Step.{grid_moved}
use Rattle.grid.specs.Table.{GridTable, grid_table_good, grid_with_last, grid_with_row}
use Rattle.grid.proofs.Grids.{grid_row, grid_rows}
use Rattle.grid.proofs.Shapes.{row_set}

module _ (most : ℕ) (p : Profile) where
  -- a last handled identifier above the most
  pub table_over : (t : GridTable) → last_most < t.last → grid_table_good most p t ≡ false
  unfolding grid_table_good
  table_over t lt = rw (lt-leb t.last last_most lt)

  -- where it is not, the instances decide
  pub table_grid : (t : GridTable) → t.last ≤ last_most → grid_table_good most p t ≡ grid_good most p t.grid
  unfolding grid_table_good
  table_grid t le = rw (le-leb t.last last_most le)

  -- a table that breaks no rule
  pub good_last : (t : GridTable) → grid_table_good most p t ≡ true → t.last ≤ last_most
  unfolding grid_table_good
  good_last t good = leb-true t.last last_most (pick_then (leb t.last last_most) (grid_good most p t.grid) good).0

  pub good_grid : (t : GridTable) → grid_table_good most p t ≡ true → grid_good most p t.grid ≡ true
  unfolding grid_table_good
  good_grid t good = (pick_then (leb t.last last_most) (grid_good most p t.grid) good).1

  pub good_table : (t : GridTable) → t.last ≤ last_most → grid_good most p t.grid ≡ true → grid_table_good most p t ≡ true
  unfolding grid_table_good
  good_table t last grid = rw (le-leb t.last last_most last) grid

  -- its rows break none
  pub table_row : (t : GridTable) → grid_table_good most p t ≡ true → (k : ℕ) → k < grid_procedures → row_good most p k (row_at t.grid k) ≡ true
  table_row t good k h = grid_row most p t.grid k h (good_grid t good)

  -- another row that breaks no rule in the place of one
  pub row_replaced :
      (t : GridTable) (procedure : ℕ) (row : Row) → procedure < length t.grid.rows → grid_table_good most p t ≡ true →
      row_good most p procedure row ≡ true →
      grid_table_good most p (grid_with_row procedure row t) ≡ true
  row_replaced t procedure row h good right =
      good_table (grid_with_row procedure row t) (good_last t good)
      (grid_rows most p (grid_with_row procedure row t).grid (λ k lt.
      rw (row_set t.grid.rows procedure k row _ h)
      (pick_ind (λ x. row_good most p k x ≡ true) (eqb k procedure)
      (λ e. rw (eqb-true k procedure e) right)
      (λ _. grid_row most p t.grid k lt (good_grid t good)))))

  -- another last handled identifier
  pub moved_good :
      (t : GridTable) (identifier : ℤ) → mag identifier ≤ last_most → grid_table_good most p t ≡ true →
      grid_table_good most p (grid_moved p identifier t) ≡ true
  unfolding grid_moved
  moved_good t identifier small good =
      pick_ind (λ u. grid_table_good most p u ≡ true) (eqb p.counted 1)
      (λ _. good_table (grid_with_last (mag identifier) t) small (good_grid t good))
      (λ _. good)

-- ---- what a last handled identifier that moves leaves

module _ (p : Profile) (identifier : ℤ) where
  pub moved_last : (u : GridTable) → (grid_moved p identifier u).last ≡ pick (eqb p.counted 1) (mag identifier) u.last
  unfolding grid_moved
  moved_last u = pick_map (λ (x : GridTable). x.last) (eqb p.counted 1) (grid_with_last (mag identifier) u) u

  pub moved_grid : (u : GridTable) → (grid_moved p identifier u).grid ≡ u.grid
  unfolding grid_moved
  moved_grid u = pick_ind (λ (x : GridTable). x.grid ≡ u.grid) (eqb p.counted 1) (λ _. refl) (λ _. refl)
