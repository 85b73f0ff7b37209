-- The grid on which instances that break no rule are placed: it is whole, breaks no rule and holds exactly these. Assumes nothing.
use Prim.Native.Nat.{◌<◌, ◌≤◌, suc, zero, ℕ}
use mathlib.Core.Bool.{true}
use mathlib.Core.List.{List, [], ◌∷◌}
use mathlib.Core.Path.{◌∙◌, ◌≡◌, ap, refl, sym}
use native.Mathlib.Omega.{arith}
use lib.Dec.{eqb}
use lib.ListN.{get_or, length, length-take}
use lib.Seq.{get_or-take}
use borrow.Author.Tests.{eqb-false, eqb-true}
use Rattle.laws.proofs.Eaches.{Each, Up, each_so}
use Rattle.laws.proofs.Picks.{by_bool}
use Rattle.codes.specs.Codes.{place_of}
use Rattle.codes.proofs.Tables.{place_stands}
use Rattle.numbers.specs.Address.{address_good}
use Rattle.profile.specs.Profile.{profile_good, services_most, subscribed_services}
use Rattle.profile.specs.declared.profile.Profile.{Profile}
use Rattle.profile.proofs.Profiles.{good_profile}
use Rattle.instances.specs.Instance.{instance_good, key_of}
use Rattle.instances.specs.Run.{count_of}
use Rattle.instances.specs.declared.instance.Instance.{Instance}
use Rattle.instances.proofs.Choices.{among_place, place_among}
use Rattle.instances.proofs.Fits.{among_known, among_small, fits_is, fits_of}
use Rattle.instances.proofs.Goods.{Few, GoodList}
use Rattle.grid.specs.Grid.{Grid, GridShaped, grid_good, grid_procedures, no_grid, row_at}
use Rattle.grid.specs.Holds.{holds}
use Rattle.grid.specs.Row.{cell_at, cell_good, cell_of, places}
use Rattle.grid.specs.Sheets.{all_placed, grid_all_in, grid_in_profile, grid_placed, place_of_instance}
use Rattle.grid.proofs.Cells.{good_none}
use Rattle.grid.proofs.Grids.{grid_rows}
use Rattle.grid.proofs.InstanceCounts.{procedure_count}
use Rattle.grid.proofs.PlacedCells.{Fitting, Holdable, all_parts, cell_else, cell_here, fitting, fitting_in, none_there, place_inside}
use Rattle.grid.proofs.PlacedCells.{place_number, place_slot, placed_shaped}
use Rattle.grid.proofs.PlacedOrders.{all_shaped, placed_instances}
use Rattle.grid.proofs.ProfilePlaces.{WholeProfile, rules, services_many}
use Rattle.grid.proofs.Rows.{cell_good_lem, good_row}
use Rattle.grid.proofs.Shapes.{shaped_none}

-- ---- cells that break no rule

abbrev GoodCells : Profile → Grid → Type 0
GoodCells p grid = (k j : ℕ) → k < grid_procedures → j < places → cell_good p k j (cell_at (row_at grid k) j) ≡ true

module _ (p : Profile) (profile : profile_good p ≡ true) (long : length p.services ≡ services_most) where
  -- an instance of the profile in the cell of its place
  cell_fits :
      (i : Instance) → Fitting p i → address_good i.address ≡ true →
      cell_good p i.procedure (place_of_instance p i) (cell_of i.service i.address) ≡ true
  cell_fits i fits good =
      let slot : ℕ = place_of i.service (subscribed_services p) in
      let count : length (subscribed_services p) ≡ p.servicecount =
      omega (arith, long, (good_profile p profile).services_few, length-take p.servicecount p.services) in
      let here = place_slot p profile i fits in
      cell_good_lem p i.procedure (place_of_instance p i) i.service i.address fits.subscribed
      (omega (arith, place_number p profile i fits, fits.number))
      (omega (arith, here, fits.slot))
      (sym (place_stands i.service (subscribed_services p) (omega (arith, count, fits.slot)))
      ∙ get_or-take p.servicecount p.services slot 0 fits.slot
      ∙ ap (λ (n : ℕ). get_or p.services n 0) (sym here))
      good

  cells_more :
      (grid : Grid) → GridShaped grid → GoodCells p grid → (i : Instance) → Fitting p i → address_good i.address ≡ true →
      GoodCells p (grid_placed p grid i)
  cells_more grid shaped cells i fits good k j h lt =
      let inside = fits.procedure in
      let room = place_inside p profile i fits in
      let kept : (k ≡ i.procedure → j ≡ place_of_instance p i → ⊥) → cell_good p k j (cell_at (row_at (grid_placed p grid i) k) j) ≡ true =
      λ other. ap (cell_good p k j) (cell_else p grid shaped i inside room k j other) ∙ cells k j h lt in
      by_bool _ (eqb k i.procedure)
      (λ e.
      by_bool _ (eqb j (place_of_instance p i))
      (λ f.
      rw (eqb-true k i.procedure e, eqb-true j (place_of_instance p i) f)
      (ap (cell_good p i.procedure (place_of_instance p i)) (cell_here p grid shaped i inside room) ∙ cell_fits i fits good))
      (λ f. kept (λ _. eqb-false j (place_of_instance p i) f)))
      (λ e. kept (λ same _. eqb-false k i.procedure e same))

  cells_all :
      (is : List Instance) (grid : Grid) → GridShaped grid → GoodCells p grid → Each Holdable is → grid_all_in p is ≡ true →
      GoodCells p (all_placed p grid is)
  unfolding all_placed
  cells_all [] grid shaped cells each all = cells
  cells_all (i ∷ is) grid shaped cells each all =
      let parts = all_parts p i is all in
      let fits = fitting p i each.0.procedure parts.0 in
      cells_all is (grid_placed p grid i) (placed_shaped p grid shaped i fits.procedure (place_inside p profile i fits))
      (cells_more grid shaped cells i fits each.0.address) each.1 parts.1

-- few of each procedure
few_at : (most : ℕ) (is : List Instance) → Few most is → (k : ℕ) → k < grid_procedures → count_of k is ≤ most
few_at most is few zero h = few.0
few_at most is few (suc zero) h = few.1
few_at most is few (suc (suc zero)) h = few.2
few_at most is few (suc (suc (suc k))) h = absurd (omega arith)

module _ (most : ℕ) (p : Profile) (profile : profile_good p ≡ true) (long : length p.services ≡ services_most) (is : List Instance)
    (up : Up key_of 0 is) (each : Each Holdable is) (all : grid_all_in p is ≡ true) (few : Few most is) where
  -- few of each procedure, each in its cell
  pub grid_placed_lem : grid_good most p (all_placed p no_grid is) ≡ true
  grid_placed_lem =
      let grid = all_placed p no_grid is in
      let cells : GoodCells p grid =
      cells_all p profile long is no_grid shaped_none (λ k j h lt. good_none p k (row_at no_grid k) j (none_there k j h lt)) each all in
      grid_rows most p grid (λ k h.
      good_row most p k (row_at grid k) (λ j lt. cells k j h lt)
      (omega (arith, procedure_count grid k h, ap (count_of k) (placed_instances p profile long is up each all), few_at most is few k h)))

-- ---- instances that break no rule of a run

module _ (p : Profile) (whole : WholeProfile p) where
  -- such as are in the profile, with good addresses
  pub in_good : (is : List Instance) → Each Holdable is → grid_all_in p is ≡ true → Each (λ x. instance_good p x ≡ true) is
  in_good [] each all = tt
  in_good (i ∷ is) each all =
      let parts = all_parts p i is all in
      let fits = fitting p i each.0.procedure parts.0 in (
        fits_is p.subscribed p.numbercount (subscribed_services p) i record {
          procedure = fits.procedure;
          subscribes = fits.subscribed;
          number = fits.number;
          service = place_among i.service (subscribed_services p) (omega (arith, fits.slot, services_many p whole));
          address = each.0.address;
        },
        in_good is each.1 parts.1,
      )

  pub good_in : (is : List Instance) → Each (λ x. instance_good p x ≡ true) is → grid_all_in p is ≡ true
  unfolding grid_all_in
  good_in [] each = refl
  good_in (i ∷ is) each =
      let fits = fits_of p.subscribed p.numbercount (subscribed_services p) i each.0 in
      let slot = among_place i.service (subscribed_services p) fits.service in
      let inside : grid_in_profile p i ≡ true = fitting_in p i (record {
        procedure = fits.procedure;
        subscribed = fits.subscribes;
        number = fits.number;
        slot = omega (arith, slot, services_many p whole);
      }) in
      rw inside (good_in is each.1)

  good_holdable : (i : Instance) → instance_good p i ≡ true → Holdable i
  good_holdable i good =
      let fits = fits_of p.subscribed p.numbercount (subscribed_services p) i good in
      let above = (among_known 0 i.service (subscribed_services p) (rules p whole).rises fits.service).0 in
      let low = among_small 0 i.service (subscribed_services p) (rules p whole).rises fits.service in
      record { procedure = fits.procedure; some = λ e. omega (arith, e, above); small = omega (arith, low); address = fits.address }

  module _ (most : ℕ) (is : List Instance) (so : GoodList p most is) where
    each_holdable : Each Holdable is
    each_holdable = each_so (λ i. instance_good p i ≡ true) Holdable good_holdable is so.each

    -- the grid of them
    pub placed_whole : GridShaped (all_placed p no_grid is)
    placed_whole = all_shaped p whole.good whole.services is so.ascends each_holdable (good_in is so.each)

    pub placed_holds : holds (all_placed p no_grid is) ≡ is
    placed_holds = placed_instances p whole.good whole.services is so.ascends each_holdable (good_in is so.each)

    pub placed_good : grid_good most p (all_placed p no_grid is) ≡ true
    placed_good = grid_placed_lem most p whole.good whole.services is so.ascends each_holdable (good_in is so.each) so.few
