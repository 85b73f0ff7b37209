-- The place of an instance of a profile, and the cells of a grid on which one more is placed. Assumes nothing.
use Prim.Native.Nat.{◌<◌, ℕ}
use mathlib.Core.Bool.{Bool, false, true}
use mathlib.Core.List.{List, [], ◌∷◌}
use mathlib.Core.Path.{◌∙◌, ◌≡◌, ap, sym}
use native.Mathlib.Omega.{arith}
use lib.Dec.{eqb, ltb}
use lib.ListN.{get_or, get_or-replicate, length, length-set, set}
use lib.Seq.{get_or-set_other, get_or-set_same}
use borrow.Author.Tests.{eq-eqb, eqb-false, eqb-true, lt-ltb, ltb-true}
use Rattle.laws.specs.Tests.{all}
use Rattle.laws.proofs.Picks.{by_bool, pick_last, pick_then}
use Rattle.codes.specs.Codes.{place_of}
use Rattle.numbers.specs.Address.{address_good}
use Rattle.profile.specs.Profile.{profile_good, services_most, subscribed_services}
use Rattle.profile.specs.declared.profile.Profile.{Profile}
use Rattle.profile.proofs.Profiles.{good_profile}
use Rattle.instances.specs.declared.instance.Instance.{Instance}
use Rattle.grid.specs.Grid.{Grid, GridShaped, grid_procedures, no_grid, row_at}
use Rattle.grid.specs.Row.{Row, active, cell_at, cell_of, no_cell, number_of_place, outside, places, service_of_place}
use Rattle.grid.specs.Sheets.{grid_all_in, grid_in_profile, place_of_instance, grid_placed}
use Rattle.grid.proofs.Cells.{not_active}
use Rattle.grid.proofs.Shapes.{none_row}

-- ---- instances of a profile

-- what the profile says of an instance that a table may hold
pub record Fitting (p : Profile) (i : Instance) : Type 0 where
  pub procedure : i.procedure < grid_procedures
  pub subscribed : get_or p.subscribed i.procedure 0 ≡ 1
  pub number : i.number < p.numbercount
  pub slot : place_of i.service (subscribed_services p) < p.servicecount

module _ (p : Profile) (i : Instance) where
  pub fitting : i.procedure < grid_procedures → grid_in_profile p i ≡ true → Fitting p i
  unfolding grid_in_profile
  fitting inside h =
      let slot : Bool = ltb (place_of i.service (subscribed_services p)) p.servicecount in
      let number : Bool = ltb i.number p.numbercount in
      let a = pick_then (eqb (get_or p.subscribed i.procedure 0) 1) (all (number ∷ slot ∷ [])) h in
      let b = pick_then number (all (slot ∷ [])) a.1 in
      record {
        procedure = inside;
        subscribed = eqb-true (get_or p.subscribed i.procedure 0) 1 a.0;
        number = ltb-true i.number p.numbercount b.0;
        slot = ltb-true (place_of i.service (subscribed_services p)) p.servicecount (sym (pick_last slot) ∙ b.1);
      }

  pub fitting_in : Fitting p i → grid_in_profile p i ≡ true
  unfolding grid_in_profile
  fitting_in fits =
      rw (eq-eqb _ _ fits.subscribed, lt-ltb _ _ fits.number, pick_last _) (lt-ltb _ _ fits.slot)

pub all_parts :
    (p : Profile) (i : Instance) (is : List Instance) → grid_all_in p (i ∷ is) ≡ true → (grid_in_profile p i ≡ true) × (grid_all_in p is ≡ true)
unfolding grid_all_in
all_parts p i is h = pick_then (grid_in_profile p i) (grid_all_in p is) h

-- what an instance must be to stand in a cell, whatever the profile
pub record Holdable (i : Instance) : Type 0 where
  pub procedure : i.procedure < grid_procedures
  pub some : i.service ≡ 0 → ⊥
  pub small : i.service < 256
  pub address : address_good i.address ≡ true

-- a good profile has few numbers and services
module _ (p : Profile) (profile : profile_good p ≡ true) (i : Instance) (fits : Fitting p i) where
  pub few_services : place_of i.service (subscribed_services p) < services_most
  few_services = omega (arith, fits.slot, (good_profile p profile).services_few)

  pub few_numbers : i.number < 4
  few_numbers = omega (arith, fits.number, (good_profile p profile).few)

  -- the number and the service of its place are its own
  pub place_inside : place_of_instance p i < places
  place_inside = omega (arith, few_services, few_numbers)

  pub place_number : number_of_place (place_of_instance p i) ≡ i.number
  place_number = omega (arith, few_services)

  pub place_slot : service_of_place (place_of_instance p i) ≡ place_of i.service (subscribed_services p)
  place_slot = omega (arith, few_services)

-- ---- grids

-- a grid that holds nothing
pub none_there : (k j : ℕ) → k < grid_procedures → j < places → active (row_at no_grid k) j ≡ false
none_there k j h lt =
    let empty : cell_at (row_at no_grid k) j ≡ no_cell =
    ap (λ (row : Row). cell_at row j) (none_row k h) ∙ get_or-replicate places j no_cell outside lt in
    not_active (row_at no_grid k) j (rw empty)

-- one instance more
module _ (p : Profile) (grid : Grid) (shaped : GridShaped grid) (i : Instance) (inside : i.procedure < grid_procedures)
    (room : place_of_instance p i < places) where
  abbrev row : Row
  row = row_at grid i.procedure

  abbrev grid_changed : Row
  grid_changed = record { cells = set row.cells (place_of_instance p i) (cell_of i.service i.address) }

  row_here : row_at (grid_placed p grid i) i.procedure ≡ grid_changed
  unfolding grid_placed
  row_here = get_or-set_same grid.rows i.procedure grid_changed (record { cells = [] }) (omega (arith, inside, shaped.rows))

  row_else : (k : ℕ) → (k ≡ i.procedure → ⊥) → row_at (grid_placed p grid i) k ≡ row_at grid k
  unfolding grid_placed
  row_else k other = get_or-set_other grid.rows i.procedure k grid_changed (record { cells = [] }) other

  pub placed_shaped : GridShaped (grid_placed p grid i)
  unfolding grid_placed
  placed_shaped = record {
    rows = length-set grid.rows i.procedure grid_changed ∙ shaped.rows;
    cells = λ k h. by_bool _ (eqb k i.procedure)
        (λ e.
        let here = eqb-true k i.procedure e in
        ap (λ (n : ℕ). length (row_at (grid_placed p grid i) n).cells) here
        ∙ ap (λ (r : Row). length r.cells) row_here
        ∙ length-set row.cells (place_of_instance p i) (cell_of i.service i.address)
        ∙ shaped.cells i.procedure inside)
        (λ e. ap (λ (r : Row). length r.cells) (row_else k (eqb-false k i.procedure e)) ∙ shaped.cells k h);
  }

  -- its cell, and the others
  pub cell_here : cell_at (row_at (grid_placed p grid i) i.procedure) (place_of_instance p i) ≡ cell_of i.service i.address
  cell_here =
      ap (λ (r : Row). cell_at r (place_of_instance p i)) row_here
      ∙ get_or-set_same row.cells (place_of_instance p i) (cell_of i.service i.address) outside
      (omega (arith, room, shaped.cells i.procedure inside))

  pub cell_else :
      (k j : ℕ) → (k ≡ i.procedure → j ≡ place_of_instance p i → ⊥) → cell_at (row_at (grid_placed p grid i) k) j ≡ cell_at (row_at grid k) j
  cell_else k j other =
      by_bool _ (eqb k i.procedure)
      (λ e.
      let here = eqb-true k i.procedure e in
      ap (λ (n : ℕ). cell_at (row_at (grid_placed p grid i) n) j) here
      ∙ ap (λ (r : Row). cell_at r j) row_here
      ∙ get_or-set_other row.cells (place_of_instance p i) j (cell_of i.service i.address) outside (other here)
      ∙ ap (λ (n : ℕ). cell_at (row_at grid n) j) (sym here))
      (λ e. ap (λ (r : Row). cell_at r j) (row_else k (eqb-false k i.procedure e)))
