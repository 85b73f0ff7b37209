-- The instances that a grid gives a night sheet, place by place and row by row; and of a table that breaks no rule: at most 24, each of
-- one of the sixteen services. Assumes nothing.
use Prim.Native.Nat.{◌*◌, ◌<◌, ◌≤◌, ℕ}
use mathlib.Core.Bool.{true}
use mathlib.Core.List.{List, [], ◌∷◌, map}
use mathlib.Core.Path.{◌∙◌, ◌≡◌, ap, refl, sym}
use native.Mathlib.Omega.{arith}
use lib.Dec.{eqb}
use lib.ListN.{get_or, length, length-take}
use lib.Seq.{get_or-take}
use borrow.Author.Tests.{eqb-false, eqb-true}
use Rattle.laws.specs.Pick.{pick}
use Rattle.laws.specs.Places.{count_to, gathered, places_where}
use Rattle.laws.proofs.Chosen.{gathered_places}
use Rattle.laws.proofs.Picks.{pick_ind}
use Rattle.codes.specs.Codes.{place_of, service_code}
use Rattle.codes.proofs.Tables.{service_most}
use Rattle.profile.specs.Profile.{profile_good, services_most, subscribed_services}
use Rattle.profile.specs.declared.profile.Profile.{Profile}
use Rattle.profile.proofs.Profiles.{good_profile}
use Rattle.profile.proofs.Rising.{rising_code, rising_place}
use Rattle.lists.specs.Entries.{instances_most}
use Rattle.instances.specs.declared.instance.Instance.{Instance}
use Rattle.grid.specs.Grid.{Grid, grid_procedures, row_at}
use Rattle.grid.specs.Row.{Cell, Row, active, cell_at, number_of_place, places, service_of_place}
use Rattle.grid.specs.Holds.{holds, place_instances, row_instances}
use Rattle.grid.specs.Table.{GridTable, grid_table_good}
use Rattle.grid.proofs.Cells.{is_active, not_active}
use Rattle.grid.proofs.Gathers.{gathered_count, gathered_each}
use Rattle.grid.proofs.Rows.{Ruled, good_few}
use Rattle.grid.proofs.Tables.{table_row}

-- ---- the cell of a place

-- the instance in a cell, if there is one
abbrev pub cell_instances : ℕ → ℕ → Cell → List Instance
cell_instances procedure number x =
    pick (eqb x.service 0) []
    (record { procedure = procedure; number = number; service = x.service; address = x.address } ∷ [])

place_cell :
    (row : Row) (j : ℕ) (is : List Instance) →
    pick (active row j) is [] ≡ pick (eqb (cell_at row j).service 0) [] is
place_cell row j is =
    pick_ind (λ x. pick (active row j) is [] ≡ x) (eqb (cell_at row j).service 0)
    (λ e. rw (not_active row j (eqb-true (cell_at row j).service 0 e)))
    (λ e. rw (is_active row j (eqb-false (cell_at row j).service 0 e)))

-- a place gives what its cell does
pub place_same :
    (procedure : ℕ) (row : Row) (j : ℕ) →
    place_instances procedure row j ≡ cell_instances procedure (number_of_place j) (cell_at row j)
place_same procedure row j = place_cell row j _

-- ---- how many instances there are

pub row_count : (procedure : ℕ) (row : Row) → length (row_instances procedure row) ≡ count_to (active row) places
row_count procedure row = gathered_count (active row) _ places

-- the instances of a procedure, and of the first k
abbrev pub row_of : Grid → ℕ → List Instance
row_of grid k = row_instances k (row_at grid k)

abbrev pub rows_to : Grid → ℕ → List Instance
rows_to grid = gathered (row_of grid)

pub rows_all : (grid : Grid) → holds grid ≡ rows_to grid grid_procedures
unfolding holds
rows_all grid = refl

-- one for each place that is active, in order
pub row_places :
    (k : ℕ) (row : Row) →
    row_instances k row
    ≡ map
    (λ j. record { procedure = k; number = number_of_place j; service = (cell_at row j).service; address = (cell_at row j).address })
    (places_where (active row) places)
row_places k row = gathered_places (active row) _ places

-- ---- the service of an instance that the rules allow

module _ (p : Profile) (profile : profile_good p ≡ true) (long : length p.services ≡ services_most) where
  module _ (k j : ℕ) (x : Cell) (ruled : Ruled p k j x) where
    pub slot_inside : service_of_place j < length (subscribed_services p)
    slot_inside = omega (arith, long, ruled.slot, (good_profile p profile).services_few, length-take p.servicecount p.services)

    -- it stands among those subscribed at the slot of its place ..
    pub code_is : get_or (subscribed_services p) (service_of_place j) 0 ≡ x.service
    code_is = get_or-take p.servicecount p.services (service_of_place j) 0 ruled.slot ∙ sym ruled.service

    -- .. and nowhere else
    pub slot_is : place_of x.service (subscribed_services p) ≡ service_of_place j
    slot_is =
        ap (λ (c : ℕ). place_of c (subscribed_services p)) (sym code_is)
        ∙ rising_place 0 (subscribed_services p) (service_of_place j) (good_profile p profile).rises slot_inside

    -- it is one of the sixteen
    pub service_known : service_code x.service ≡ true
    service_known = rw code_is at (rising_code 0 (subscribed_services p) (service_of_place j) (good_profile p profile).rises slot_inside)

    pub service_small : x.service < 128
    service_small = omega (arith, service_most x.service service_known)

-- ---- a table that breaks no rule

-- the subaddresses of a table are of octets, as a machine's are
abbrev pub SubOctets : GridTable → Type 0
SubOctets t = (k j i : ℕ) → get_or (cell_at (row_at t.grid k) j).address.sub i 0 < 256

module _ (p : Profile) (t : GridTable) (good : grid_table_good instances_most p t ≡ true) where
  -- "at most 8 for each procedure": at most 24
  pub instances_few : length (holds t.grid) ≤ instances_most * grid_procedures
  instances_few =
      rw (rows_all t.grid)
      (gathered_each instances_most (row_of t.grid) grid_procedures (λ k h.
      omega (
        arith,
        row_count k (row_at t.grid k),
        good_few instances_most p k (row_at t.grid k)
            (table_row instances_most p t good k h),
      )))
