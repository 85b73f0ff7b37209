-- What a grid that breaks no rule holds breaks no rule of a run. Assumes nothing.
use Prim.Native.Nat.{◌<◌, ◌≤◌, ℕ}
use mathlib.Core.Bool.{true}
use mathlib.Core.List.{List}
use mathlib.Core.Path.{◌≡◌}
use native.Mathlib.Omega.{arith}
use Rattle.laws.proofs.Eaches.{Each, each_append, each_so}
use Rattle.laws.proofs.Picks.{pick_ind}
use Rattle.laws.proofs.Walks.{gathered_ind}
use Rattle.numbers.specs.Address.{blank_address}
use Rattle.profile.specs.Profile.{subscribed_services}
use Rattle.profile.specs.declared.profile.Profile.{Profile}
use Rattle.instances.specs.Instance.{instance_good}
use Rattle.instances.specs.Run.{count_of}
use Rattle.instances.specs.declared.instance.Instance.{Instance}
use Rattle.instances.proofs.Choices.{place_among}
use Rattle.instances.proofs.Fits.{fits_is}
use Rattle.instances.proofs.Goods.{GoodList, small_good}
use Rattle.instances.proofs.Keys.{Small}
use Rattle.grid.specs.Grid.{grid_procedures, row_at}
use Rattle.grid.specs.Holds.{holds, place_instances}
use Rattle.grid.specs.Row.{active, cell_at, places}
use Rattle.grid.specs.Table.{GridTable, grid_table_good}
use Rattle.grid.proofs.InstanceCounts.{procedure_count}
use Rattle.grid.proofs.InstanceOrders.{instances_up}
use Rattle.grid.proofs.ProfilePlaces.{WholeProfile, rules, services_many}
use Rattle.grid.proofs.RowInstances.{row_of, rows_all, slot_is}
use Rattle.grid.proofs.Rows.{active_rules, good_few}
use Rattle.grid.proofs.Tables.{table_row}

module _ (most : ℕ) (p : Profile) (whole : WholeProfile p) (g : GridTable) (good : grid_table_good most p g ≡ true) where
  abbrev Good : List Instance → Type 0
  Good = Each (λ x. instance_good p x ≡ true)

  place_good : (k j : ℕ) → k < grid_procedures → j < places → Good (place_instances k (row_at g.grid k) j)
  place_good k j h lt =
      let row = row_at g.grid k in
      pick_ind Good (active row j)
      (λ there.
      let ruled = active_rules most p k row (table_row most p g good k h) j lt there in
      let slot = slot_is p whole.good whole.services k j (cell_at row j) ruled in (
        fits_is p.subscribed p.numbercount (subscribed_services p) _ record {
          procedure = h;
          subscribes = ruled.subscribed;
          number = ruled.number;
          service = place_among (cell_at row j).service (subscribed_services p) (omega (arith, slot, ruled.slot, services_many p whole));
          address = ruled.address;
        },
        tt,
      ))
      (λ _. tt)

  few : (k : ℕ) → k < grid_procedures → count_of k (holds g.grid) ≤ most
  few k h = omega (arith, procedure_count g.grid k h, good_few most p k (row_at g.grid k) (table_row most p g good k h))

  pub held_good : GoodList p most (holds g.grid)
  held_good =
      let both = each_append (λ x. instance_good p x ≡ true) in
      record {
        ascends = instances_up most p g good whole.good whole.services;
        each = rw (rows_all g.grid)
            (gathered_ind Good tt both (row_of g.grid) grid_procedures (λ k h.
            gathered_ind Good tt both (place_instances k (row_at g.grid k)) places (λ j lt. place_good k j h lt)));
        few = (few 0 (omega arith), few 1 (omega arith), few 2 (omega arith));
      }

-- numbers and services of good instances are octets
pub good_small : (p : Profile) → WholeProfile p → (most : ℕ) (l : List Instance) → GoodList p most l → Each Small l
good_small p whole most l so =
    each_so (λ x. instance_good p x ≡ true) Small
    (small_good p (rules p whole) (record { procedure = 0; number = 0; service = 0 }) blank_address) l so.each
