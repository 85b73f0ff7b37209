-- The instances of a table that breaks no rule: such as a sheet may hold, in the profile, each at its own place; and its sheet fits.
-- Assumes nothing.
use Prim.Native.Nat.{◌<◌, ◌≤◌, ℕ}
use mathlib.Core.Bool.{true}
use mathlib.Core.List.{List, [], ◌++◌, ◌∷◌, map, map-append}
use mathlib.Core.Path.{◌≡◌, refl}
use native.Mathlib.Omega.{arith}
use lib.ListN.{length}
use borrow.Author.Tests.{lt-ltb, ne_eqb}
use Rattle.laws.proofs.Eaches.{Each, each_append}
use Rattle.laws.proofs.Picks.{pick_ind, pick_then}
use Rattle.laws.proofs.Walks.{gathered_ind}
use Rattle.codes.proofs.Tables.{service_most}
use Rattle.numbers.specs.Number.{most}
use Rattle.profile.specs.Profile.{profile_good, services_most}
use Rattle.profile.specs.declared.profile.Profile.{Profile}
use Rattle.lists.specs.Entries.{instances_most}
use Rattle.instances.specs.Run.{count_of}
use Rattle.instances.specs.declared.instance.Instance.{Instance}
use Rattle.instances.proofs.Goods.{few_is}
use Rattle.instances.proofs.Keys.{up_ascending}
use Rattle.forms.specs.Form.{form1}
use Rattle.forms.specs.Instance.{service_of}
use Rattle.forms.specs.Sheet.{sheet_octets}
use Rattle.forms.specs.Size.{sheet_most}
use Rattle.forms.proofs.Fits.{FieldsFit, form1_short, held_is, order_is, tidy_instance}
use Rattle.forms.proofs.Sheets.{Allowed}
use Rattle.forms.proofs.Sizes.{sheet_most_lem}
use Rattle.grid.specs.Grid.{grid_procedures, row_at}
use Rattle.grid.specs.Row.{active, cell_at, places}
use Rattle.grid.specs.Holds.{grid_instance, holds, place_instances}
use Rattle.grid.specs.Sheets.{grid_all_in, grid_in_profile, place_of_instance}
use Rattle.grid.specs.Table.{GridTable, grid_table_good}
use Rattle.grid.proofs.Cells.{active_some}
use Rattle.grid.proofs.InstanceCounts.{procedure_count}
use Rattle.grid.proofs.InstanceOrders.{instances_up}
use Rattle.grid.proofs.PlacedCells.{Fitting, fitting_in}
use Rattle.grid.proofs.RowInstances.{SubOctets, instances_few, row_of, rows_all, service_known, slot_is}
use Rattle.grid.proofs.Rows.{Ruled, active_rules, good_few}
use Rattle.grid.proofs.Tables.{good_last, table_row}

-- the arrays in the addresses of a table, as a machine's are: all their places, and octets in them
pub record GridArrays (t : GridTable) : Type 0 where
  pub digits :
      (k j : ℕ) → k < grid_procedures → j < places → length (cell_at (row_at t.grid k) j).address.number.digits ≡ most
  pub sub : (k j : ℕ) → k < grid_procedures → j < places → length (cell_at (row_at t.grid k) j).address.sub ≡ most
  pub octets : SubOctets t

all_both : (p : Profile) (xs ys : List Instance) → grid_all_in p xs ≡ true → grid_all_in p ys ≡ true → grid_all_in p (xs ++ ys) ≡ true
unfolding grid_all_in
all_both p [] ys a b = b
all_both p (x ∷ xs) ys a b =
    let parts = pick_then (grid_in_profile p x) (grid_all_in p xs) a in
    rw parts.0 (all_both p xs ys parts.1 b)

module _ (p : Profile) (t : GridTable) (good : grid_table_good instances_most p t ≡ true) (profile : profile_good p ≡ true)
    (long : length p.services ≡ services_most) where
  -- ---- the instance of a place

  module _ (k j : ℕ) (h : k < grid_procedures) (lt : j < places) (there : active (row_at t.grid k) j ≡ true) where
    abbrev one : Instance
    one = grid_instance t.grid k j

    rules : Ruled p k j (cell_at (row_at t.grid k) j)
    rules = active_rules instances_most p k (row_at t.grid k) (table_row instances_most p t good k h) j lt there

    pub one_place : place_of_instance p one ≡ j
    one_place = omega (arith, slot_is p profile long k j (cell_at (row_at t.grid k) j) rules)

    pub one_fitting : Fitting p one
    one_fitting = record {
      procedure = h;
      subscribed = rules.subscribed;
      number = rules.number;
      slot = omega (arith, slot_is p profile long k j (cell_at (row_at t.grid k) j) rules, rules.slot);
    }

    one_service : service_of one.service ≡ true
    one_service =
        let code = service_known p profile long k j (cell_at (row_at t.grid k) j) rules in
        rw (
          ne_eqb one.service 0 (active_some (row_at t.grid k) j there),
          lt-ltb one.service 256 (omega (arith, service_most one.service code)),
          code,
        )

    pub one_fits : GridArrays t → FieldsFit form1 one
    one_fits arrays = record {
      procedure = h;
      number = omega (arith, lt);
      service = one_service;
      address = held_is one.address rules.address (arrays.digits k j h lt) (arrays.sub k j h lt) (arrays.octets k j);
    }

  -- ---- all of them

  all_fit : GridArrays t → Each (FieldsFit form1) (holds t.grid)
  all_fit arrays =
      let AllFit : List Instance → Type 0 = Each (FieldsFit form1) in
      let both = each_append (FieldsFit form1) in
      rw (rows_all t.grid)
      (gathered_ind AllFit tt both (row_of t.grid) grid_procedures (λ k h.
      gathered_ind AllFit tt both (place_instances k (row_at t.grid k)) places (λ j lt.
      pick_ind AllFit (active (row_at t.grid k) j) (λ there. (one_fits k j h lt there arrays, tt)) (λ _. tt))))

  few : (q : ℕ) → q < grid_procedures → count_of q (holds t.grid) ≤ form1.perprocedure
  few q lt =
      omega (arith, procedure_count t.grid q lt, good_few instances_most p q (row_at t.grid q) (table_row instances_most p t good q lt))

  -- they are such as a sheet may hold
  pub table_sheeted : GridArrays t → Allowed form1 (record { last = t.last; instances = holds t.grid })
  table_sheeted arrays =
      let is : List Instance = holds t.grid in
      record {
        last = good_last instances_most p t good;
        each = all_fit arrays;
        order = order_is form1 is (up_ascending 0 is (instances_up instances_most p t good profile long))
            (few_is form1.perprocedure is (few 0 (omega arith), few 1 (omega arith), few 2 (omega arith)));
      }

  -- "under .. 1,613 (sheet)": every sheet fits there
  pub sheet_fits : GridArrays t → length (sheet_octets form1 t.last (holds t.grid)) ≤ sheet_most form1
  sheet_fits arrays =
      sheet_most_lem form1 form1_short t.last (holds t.grid) (good_last instances_most p t good) (all_fit arrays)
      (omega (arith, instances_few p t good))

  -- and in the profile, with zeros past their digits and octets too
  pub table_all : grid_all_in p (map tidy_instance (holds t.grid)) ≡ true
  unfolding grid_all_in grid_in_profile
  table_all =
      let P : List Instance → Type 0 = λ is. grid_all_in p (map tidy_instance is) ≡ true in
      let both : (xs ys : List Instance) → P xs → P ys → P (xs ++ ys) =
      λ xs ys a b. rw (map-append tidy_instance xs ys) (all_both p (map tidy_instance xs) (map tidy_instance ys) a b) in
      rw (rows_all t.grid)
      (gathered_ind P refl both (row_of t.grid) grid_procedures (λ k h.
      gathered_ind P refl both (place_instances k (row_at t.grid k)) places (λ j lt.
      pick_ind P (active (row_at t.grid k) j)
      (λ there. rw (fitting_in p (one k j h lt there) (one_fitting k j h lt there)))
      (λ _. refl))))
