-- Which tables are the same: those of a new access, and a grid that breaks no rule with any run that holds what it does. Assumes
-- nothing.
use Prim.Native.Nat.{◌≤◌}
use mathlib.Core.Bool.{true}
use mathlib.Core.Path.{◌∙◌, ◌≡◌, ap, refl, sym}
use native.Mathlib.Omega.{arith}
use lib.ListN.{length-take}
use Rattle.laws.proofs.Chosen.{count_nothing}
use Rattle.profile.specs.declared.profile.Profile.{Profile}
use Rattle.lists.specs.Entries.{instances_most}
use Rattle.instances.specs.Places.{run_most}
use Rattle.instances.specs.Run.{instances_good, instances_of, packed}
use Rattle.instances.proofs.Goods.{good_short, list_good_lem, run_by, run_good_lem}
use Rattle.instances.proofs.Runs.{packed_all}
use Rattle.exchange.specs.Table.{fresh_table, table_good, table_of}
use Rattle.exchange.specs.declared.table.Table.{Table}
use Rattle.exchange.proofs.Tables as run
use Rattle.grid.specs.Equal.{HoldSame}
use Rattle.grid.specs.Grid.{GridShaped, no_grid, row_at}
use Rattle.grid.specs.Holds.{holds}
use Rattle.grid.specs.Row.{active, places}
use Rattle.grid.specs.Sheets.{all_placed}
use Rattle.grid.specs.Table.{GridTable, grid_fresh, grid_table_good}
use Rattle.grid.proofs.Grids.{grid_rows}
use Rattle.grid.proofs.HeldGoods.{held_good}
use Rattle.grid.proofs.PlacedCells.{none_there}
use Rattle.grid.proofs.PlacedGoods.{placed_good, placed_holds, placed_whole}
use Rattle.grid.proofs.PlacedOrders.{fresh_none}
use Rattle.grid.proofs.ProfilePlaces.{WholeProfile}
use Rattle.grid.proofs.Rows.{row_none}
use Rattle.grid.proofs.Shapes.{shaped_none}
use Rattle.grid.proofs.Tables.{good_last, good_table}

-- the fresh tables are the same, whatever the profile
pub fresh_same : (p : Profile) → HoldSame p grid_fresh fresh_table
fresh_same p = record {
  shaped = shaped_none;
  grid_good_lem = good_table instances_most p grid_fresh (omega arith)
      (grid_rows instances_most p no_grid (λ k h.
      row_none instances_most p k (row_at no_grid k) (count_nothing (active (row_at no_grid k)) places (λ j lt. none_there k j h lt))));
  run_good_lem = run.fresh_good p;
  last = refl;
  held = fresh_none;
}

module _ (p : Profile) (whole : WholeProfile p) (g : GridTable) (shaped : GridShaped g.grid) (good : grid_table_good instances_most p g ≡ true)
  where
    -- what a grid that breaks no rule holds breaks none in a run that counts no more than there is room for
    pub good_same :
        (t : Table) → g.last ≡ t.last → holds g.grid ≡ instances_of t.run → t.run.count ≤ run_most → HoldSame p g t
    good_same t last held few = record {
      shaped = shaped;
      grid_good_lem = good;
      run_good_lem = run.good_table instances_most p t (omega (arith, last, good_last instances_most p g good))
          (run_by p instances_most t.run few
          ∙ ap (instances_good instances_most p) (sym held)
          ∙ list_good_lem p instances_most (holds g.grid) (held_good instances_most p whole g good));
      last = last;
      held = held;
    }

    -- and there is such a run
    pub packed_same : HoldSame p g (table_of g.last (packed (holds g.grid)))
    packed_same =
        let few = good_short p (holds g.grid) (held_good instances_most p whole g good) in
        good_same (table_of g.last (packed (holds g.grid))) refl (sym (packed_all (holds g.grid) few))
        (omega (arith, length-take run_most (holds g.grid)))

-- every run that breaks no rule is that of a grid: its instances, each in its cell
pub placed_same :
    (p : Profile) → WholeProfile p → (t : Table) → table_good instances_most p t ≡ true →
    HoldSame p (record { last = t.last; grid = all_placed p no_grid (instances_of t.run) }) t
placed_same p whole t right =
    let is = instances_of t.run in
    let rules = run.table_good_lem instances_most p t right in
    let so = run_good_lem p instances_most t.run rules.1 in
    record {
      shaped = placed_whole p whole instances_most is so;
      grid_good_lem = good_table instances_most p (record { last = t.last; grid = all_placed p no_grid is }) rules.0
          (placed_good p whole instances_most is so);
      run_good_lem = right;
      last = refl;
      held = placed_holds p whole instances_most is so;
    }
