-- What a grid holds: its instances, by procedure, number and service. The one joint of the first layout with the run of instances
-- (document 02, R-10).
use Rattle.std.specs.Prelude.{ℕ, List, [], ◌∷◌}
use Rattle.laws.specs.Pick.{pick}
use Rattle.laws.specs.Places.{gathered}
use Rattle.instances.specs.declared.instance.Instance.{Instance}
use Rattle.grid.specs.Grid.{Grid, grid_procedures, row_at}
use Rattle.grid.specs.Row.{Row, active, cell_at, number_of_place, places}

-- the instance in the cell of a place of a procedure's row
abbrev pub instance_in : ℕ → Row → ℕ → Instance
instance_in procedure row j = record {
  procedure = procedure;
  number = number_of_place j;
  service = (cell_at row j).service;
  address = (cell_at row j).address;
}

abbrev pub grid_instance : Grid → ℕ → ℕ → Instance
grid_instance grid k j = instance_in k (row_at grid k) j

-- those of a row: each active one, a row's places going by number, then service code
abbrev pub place_instances : ℕ → Row → ℕ → List Instance
place_instances procedure row j = pick (active row j) (instance_in procedure row j ∷ []) []

abbrev pub row_instances : ℕ → Row → List Instance
row_instances procedure row = gathered (place_instances procedure row) places

-- every active instance, by procedure, number and service, its address as it stands in the cell
unfoldable pub holds : Grid → List Instance
holds grid = gathered (λ k. row_instances k (row_at grid k)) grid_procedures
