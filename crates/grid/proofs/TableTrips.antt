-- A table that is written as a night sheet and read again: a table with the same last handled identifier that holds the same.
-- Assumes nothing.
use Prim.Native.Nat.{◌*◌, ◌+◌, ◌<◌, suc, zero, ℕ}
use mathlib.Core.Bool.{false, true}
use mathlib.Core.List.{List, [], ◌++◌, ◌∷◌, map, map-append}
use mathlib.Core.Option.{none, some}
use mathlib.Core.Path.{◌∙◌, ◌≡◌, ap, refl, sym}
use native.Mathlib.Nat.{add-zero}
use native.Mathlib.Omega.{arith}
use lib.Dec.{eqb, ltb}
use lib.ListN.{length}
use borrow.Author.Tests.{eqb-false, eqb-true, le-ltb, lt-ltb, ltb-false, ltb-true}
use Rattle.laws.specs.Pick.{pick}
use Rattle.laws.specs.Places.{gathered}
use Rattle.laws.proofs.Picks.{by_bool, pick_ind}
use Rattle.laws.proofs.Stands.{stands_whole}
use Rattle.laws.proofs.Walks.{gathered_more, gathered_none}
use Rattle.refusals.specs.Refusal.{tells}
use Rattle.numbers.specs.Address.{tidy_address}
use Rattle.profile.specs.Access.{access_read}
use Rattle.profile.specs.Profile.{profile_good, services_most}
use Rattle.profile.specs.declared.profile.Profile.{Profile}
use Rattle.profile.proofs.Records.{access_good, access_services}
use Rattle.lists.specs.Entries.{instances_most}
use Rattle.instances.specs.declared.instance.Instance.{Instance}
use Rattle.forms.specs.Form.{form1}
use Rattle.forms.specs.Sheet.{sheet_octets}
use Rattle.forms.proofs.Fits.{form1_short, tidy_twice, tidy_instance}
use Rattle.forms.proofs.Trips.{sheet_back}
use Rattle.grid.specs.Grid.{Grid, GridShaped, grid_procedures, no_grid, row_at}
use Rattle.grid.specs.Row.{Cell, Row, active, cell_at, held, places}
use Rattle.grid.specs.Holds.{grid_instance, holds, place_instances}
use Rattle.grid.specs.Sheets.{GridTableRead, all_placed, grid_read_sheet, place_of_instance, grid_placed}
use Rattle.grid.specs.Table.{GridTable, grid_table_good}
use Rattle.grid.proofs.Cells.{active_some, held_none, held_same, held_some, is_active}
use Rattle.grid.proofs.PlacedCells.{cell_else, cell_here, none_there, placed_shaped}
use Rattle.grid.proofs.RowInstances.{row_of, rows_all}
use Rattle.grid.proofs.Shapes.{shaped_none}
use Rattle.grid.proofs.WrittenInstances.{GridArrays, one_place, table_all, table_sheeted}

-- ---- places in the order of procedures

-- what is below the next place and not at this one is below this one
below_next : (x n : ℕ) → (x ≡ n → ⊥) → ltb x n ≡ ltb x (suc n)
below_next x n other =
    by_bool _ (ltb x n)
    (λ e. rw (e, lt-ltb x (suc n) (omega (arith, ltb-true x n e))))
    (λ e. rw (e, le-ltb x (suc n) (omega (arith, ltb-false x n e, other))))

module _ (p : Profile) where
  placed_both : (grid : Grid) (xs ys : List Instance) → all_placed p grid (xs ++ ys) ≡ all_placed p (all_placed p grid xs) ys
  unfolding all_placed
  placed_both grid [] ys = refl
  placed_both grid (x ∷ xs) ys = placed_both (grid_placed p grid x) xs ys

  -- a walk over what places give, place by place
  placed_gathered :
      (P : ℕ → Grid → Type 0) (f : ℕ → List Instance) (n : ℕ) (grid : Grid) → P 0 grid →
      ((j : ℕ) (g : Grid) → j < n → P j g → P (suc j) (all_placed p g (map tidy_instance (f j)))) →
      P n (all_placed p grid (map tidy_instance (gathered f n)))
  unfolding all_placed
  placed_gathered P f zero grid first step = rw (gathered_none f) first
  placed_gathered P f (suc n) grid first step =
      rw (
        gathered_more f n,
        map-append tidy_instance (gathered f n) (f n),
        placed_both grid (map tidy_instance (gathered f n)) (map tidy_instance (f n)),
      )
      (step n (all_placed p grid (map tidy_instance (gathered f n))) (omega arith)
      (placed_gathered P f n grid first (λ j g lt. step j g (omega arith))))

-- ---- a grid on which instances of a table were placed

-- it holds what the table does at the first n places, and nothing at others
record Copied (t : GridTable) (n : ℕ) (grid : Grid) : Type 0 where
  shaped : GridShaped grid
  holds : (k j : ℕ) → k < grid_procedures → j < places →
      held (row_at grid k) j ≡ pick (ltb (places * k + j) n) (held (row_at t.grid k) j) none

copied_none : (t : GridTable) → Copied t 0 no_grid
copied_none t = record {
  shaped = shaped_none;
  holds = λ k j h lt. rw (le-ltb (places * k + j) 0 (omega arith)) (held_none (row_at no_grid k) j (none_there k j h lt));
}

-- one place more: it holds there what the table does, and at the others what it did
copied_step :
    (t : GridTable) (k j : ℕ) → k < grid_procedures → j < places → (grid more : Grid) → Copied t (places * k + j) grid → GridShaped more →
    held (row_at more k) j ≡ held (row_at t.grid k) j →
    ((l m : ℕ) → (l ≡ k → m ≡ j → ⊥) → held (row_at more l) m ≡ held (row_at grid l) m) →
    Copied t (suc (places * k + j)) more
copied_step t k j h lt grid more so shaped here others = record {
  shaped = shaped;
  holds = λ l m hl lm. by_bool _ (eqb (places * l + m) (places * k + j))
      (λ e.
      let same = eqb-true (places * l + m) (places * k + j) e in
      let row : l ≡ k = omega (arith, same, lt, lm) in
      let place : m ≡ j = omega (arith, same, lt, lm) in
      rw (row, place, lt-ltb (places * k + j) (suc (places * k + j)) (omega arith)) here)
      (λ e.
      let apart = eqb-false (places * l + m) (places * k + j) e in
      others l m (λ a b. apart (rw (a, b)))
      ∙ so.holds l m hl lm
      ∙ ap (λ b. pick b (held (row_at t.grid l) m) none) (below_next (places * l + m) (places * k + j) apart));
}

module _ (p : Profile) (t : GridTable) (good : grid_table_good instances_most p t ≡ true) (profile : profile_good p ≡ true)
    (long : length p.services ≡ services_most) where
  -- an instance of the table is placed where it is there
  module _ (k j : ℕ) (h : k < grid_procedures) (lt : j < places) (grid : Grid) (so : Copied t (places * k + j) grid) where
    abbrev row : Row
    row = row_at t.grid k

    module _ (there : active row j ≡ true) where
      abbrev one : Instance
      one = tidy_instance (grid_instance t.grid k j)

      abbrev more : Grid
      more = grid_placed p grid one

      its : place_of_instance p one ≡ j
      its = one_place p t good profile long k j h lt there

      its_room : place_of_instance p one < places
      its_room = omega (arith, its, lt)

      its_cell : cell_at (row_at more k) j ≡ record { service = one.service; address = one.address }
      its_cell = ap (λ (m : ℕ). cell_at (row_at more k) m) (sym its) ∙ cell_here p grid so.shaped one h its_room

      its_held : held (row_at more k) j ≡ held row j
      its_held =
          let used : active (row_at more k) j ≡ true =
          is_active (row_at more k) j (λ e. active_some row j there (sym (ap (λ (x : Cell). x.service) its_cell) ∙ e)) in
          held_some (row_at more k) j used
          ∙ ap (λ (x : Cell). some (tidy_address x.address)) its_cell
          ∙ ap (λ (i : Instance). some i.address) (tidy_twice (grid_instance t.grid k j))
          ∙ sym (held_some row j there)

      copied_next : Copied t (suc (places * k + j)) more
      copied_next =
          copied_step t k j h lt grid more so (placed_shaped p grid so.shaped one h its_room) its_held (λ l m other.
          held_same (row_at more l) m (row_at grid l) (cell_else p grid so.shaped one h its_room l m (λ a b. other a (b ∙ its))))

    -- where there is none, nothing is placed
    copied_skip : active row j ≡ false → Copied t (suc (places * k + j)) grid
    copied_skip empty =
        copied_step t k j h lt grid grid so so.shaped
        (so.holds k j h lt
        ∙ rw (le-ltb (places * k + j) (places * k + j) (omega arith)) (sym (held_none row j empty)))
        (λ l m _. refl)

    copied_place : Copied t (places * k + suc j) (all_placed p grid (map tidy_instance (place_instances k row j)))
    unfolding all_placed
    copied_place =
        let next : places * k + suc j ≡ suc (places * k + j) = omega arith in
        rw next
        (pick_ind (λ is. Copied t (suc (places * k + j)) (all_placed p grid (map tidy_instance is))) (active row j)
        copied_next
        copied_skip)

  copied_row :
      (k : ℕ) (grid : Grid) → k < grid_procedures → Copied t (places * k) grid →
      Copied t (places * suc k) (all_placed p grid (map tidy_instance (row_of t.grid k)))
  copied_row k grid h so =
      let next : places * suc k ≡ places * k + places = omega arith in
      rw next
      (placed_gathered p (λ j g. Copied t (places * k + j) g) (place_instances k (row_at t.grid k)) places grid
      (rw (add-zero (places * k)) so)
      (λ j g lt now. copied_place k j h lt g now))

  copied_all : Copied t (places * grid_procedures) (all_placed p no_grid (map tidy_instance (holds t.grid)))
  copied_all =
      rw (rows_all t.grid)
      (placed_gathered p (λ k g. Copied t (places * k) g) (row_of t.grid) grid_procedures no_grid (copied_none t) copied_row)

  all_held :
      (k j : ℕ) → k < grid_procedures → j < places →
      held (row_at (all_placed p no_grid (map tidy_instance (holds t.grid))) k) j ≡ held (row_at t.grid k) j
  all_held k j h lt =
      copied_all.holds k j h lt ∙ rw (lt-ltb (places * k + j) (places * grid_procedures) (omega (arith, h, lt)))

-- ---- tables that hold the same

-- at every place of every procedure, with the same last handled identifier
pub record SameCells (t u : GridTable) : Type 0 where
  pub last : u.last ≡ t.last
  pub holds : (k j : ℕ) → k < grid_procedures → j < places → held (row_at u.grid k) j ≡ held (row_at t.grid k) j

-- a sheet that is read as a table like t
pub record GridReadsAs (access s : List ℕ) (t : GridTable) : Type 0 where
  pub accepted : (grid_read_sheet access s).told ≡ tells tt
  pub alike : SameCells t (grid_read_sheet access s).table

-- the octets of a table that breaks no rule are read as that table
pub table_back :
    (access : List ℕ) (t : GridTable) → (access_read access).ok ≡ true → grid_table_good instances_most (access_read access).profile t ≡ true →
    GridArrays t →
    GridReadsAs access (sheet_octets form1 t.last (holds t.grid)) t
unfolding grid_read_sheet
table_back access t ok good arrays =
    let p : Profile = (access_read access).profile in
    let profile = access_good access ok in
    let long = access_services access in
    let s : List ℕ = sheet_octets form1 t.last (holds t.grid) in
    let so = table_sheeted p t good profile long arrays in
    let found =
    sheet_back form1 form1_short t.last (holds t.grid) s so.last so.each so.order (stands_whole s) refl in
    let again : GridTable = record { last = t.last; grid = all_placed p no_grid (map tidy_instance (holds t.grid)) } in
    let is : grid_read_sheet access s ≡ record { told = tells tt; table = again } = rw (ok, found, table_all p t good profile long) in
    record {
      accepted = ap (λ (r : GridTableRead). r.told) is;
      alike = record {
        last = ap (λ (r : GridTableRead). r.table.last) is;
        holds = λ k j h lt. ap (λ (r : GridTableRead). held (row_at r.table.grid k) j) is ∙ all_held p t good profile long k j h lt;
      };
    }
