-- A grid as a machine owns it, with all its rows and cells, and what keeps that shape. Assumes nothing.
use Prim.Native.Nat.{◌<◌, ℕ}
use mathlib.Core.List.{List, []}
use mathlib.Core.Path.{◌∙◌, ◌≡◌, refl}
use native.Mathlib.Omega.{arith}
use lib.Dec.{eqb}
use lib.IntN.{ℤ}
use lib.ListN.{get_or, get_or-replicate, length, length-set, set}
use lib.Seq.{get_or-set_other, get_or-set_same}
use borrow.Author.Tests.{eqb-false, eqb-true}
use Rattle.laws.specs.Pick.{pick}
use Rattle.laws.proofs.Picks.{pick_ind}
use Rattle.requests.specs.declared.request.Request.{Request}
use Rattle.profile.specs.declared.profile.Profile.{Profile}
use Rattle.grid.specs.Grid.{GridShaped, grid_procedures, no_grid, no_row, row_at}
use Rattle.grid.specs.Judge.{grid_applied}
use Rattle.grid.specs.Row.{Places, Row, places}
use Rattle.grid.specs.Step.{grid_moved}
use Rattle.grid.specs.Table.{GridTable, grid_with_row}
use Rattle.grid.proofs.Judges.{applied_ind}
use Rattle.grid.proofs.Rows.{cells_clear, cells_put}

-- a grid that holds nothing
pub none_row : (k : ℕ) → k < grid_procedures → row_at no_grid k ≡ no_row
none_row k h = get_or-replicate grid_procedures k no_row (record { cells = [] }) h

pub shaped_none : GridShaped no_grid
shaped_none = record { rows = refl; cells = λ k h. rw (none_row k h) }

pub row_set :
    (rows : List Row) (i k : ℕ) (row none : Row) → i < length rows →
    get_or (set rows i row) k none ≡ pick (eqb k i) row (get_or rows k none)
row_set rows i k row none h =
    pick_ind (λ x. get_or (set rows i row) k none ≡ x) (eqb k i)
    (λ e. rw (eqb-true k i e) (get_or-set_same rows i row none h))
    (λ e. get_or-set_other rows i k row none (eqb-false k i e))

-- another row in the place of one
pub shaped_row :
    (t : GridTable) (procedure : ℕ) (row : Row) → procedure < grid_procedures → length row.cells ≡ places → GridShaped t.grid →
    GridShaped (grid_with_row procedure row t).grid
shaped_row t procedure row known long so = record {
  rows = length-set t.grid.rows procedure row ∙ so.rows;
  cells = λ k h.
      rw (row_set t.grid.rows procedure k row _ (omega (arith, so.rows)))
      (pick_ind (λ (x : Row). length x.cells ≡ places) (eqb k procedure) (λ _. long) (λ _. so.cells k h));
}

-- another last handled identifier
pub shaped_moved : (p : Profile) (identifier : ℤ) (t : GridTable) → GridShaped t.grid → GridShaped (grid_moved p identifier t).grid
unfolding grid_moved
shaped_moved p identifier t so =
    pick_ind (λ (u : GridTable). GridShaped u.grid) (eqb p.counted 1) (λ _. so) (λ _. so)

-- what a request makes of a row
pub cells_applied :
    (operation : ℕ) (r : Request) (w : Places) (row : Row) → length (grid_applied operation r w row).cells ≡ length row.cells
cells_applied operation r w row =
    applied_ind r w row (λ x. length x.cells ≡ length row.cells) operation
    (λ _. cells_put w r.to.address row)
    (λ _. cells_clear w row)
    refl
