-- What a grid and a run that hold the same hold after a request, and how many instances of its procedure there are then. Assumes
-- nothing.
use Prim.Native.Nat.{◌+◌, ◌<◌, ◌≤◌, ℕ}
use mathlib.Core.Bool.{true}
use mathlib.Core.List.{List}
use mathlib.Core.Option.{none, some}
use mathlib.Core.Path.{◌∙◌, ◌≡◌, ap, refl, sym}
use native.Mathlib.Omega.{arith}
use lib.ListN.{get_or, length}
use borrow.Author.Tests.{eq-eqb}
use Rattle.laws.specs.Places.{count_to}
use Rattle.numbers.specs.Address.{address_good}
use Rattle.requests.specs.declared.request.Request.{Request}
use Rattle.profile.specs.declared.profile.Profile.{Profile}
use Rattle.lists.specs.Entries.{instances_most}
use Rattle.instances.specs.Run.{activated, count_of, deactivated}
use Rattle.instances.specs.declared.instance.Instance.{Instance}
use Rattle.instances.proofs.Counts.{count_activated}
use Rattle.instances.proofs.Goods.{activated_good, cleared_good}
use Rattle.rules.specs.Selection.{selection_of}
use Rattle.rules.specs.Judge.{afterwards}
use Rattle.rules.proofs.Judges.{count_afterwards}
use Rattle.rules.proofs.Selections.{selection_procedure}
use Rattle.grid.specs.Grid.{GridShaped, grid_procedures, row_at}
use Rattle.grid.specs.Holds.{holds}
use Rattle.grid.specs.Row.{Row, active, clear_in, count_with, places, put_in}
use Rattle.grid.specs.Selection.{cell_places}
use Rattle.grid.specs.Table.{GridTable, grid_table_good, grid_with_row}
use Rattle.grid.proofs.Grids.{grid_rows}
use Rattle.grid.proofs.HandledRequests.{place_good}
use Rattle.grid.proofs.HeldChanges.{activated_becomes, address_clear, found_put, becomes_same, deactivated_becomes, grid_becomes}
use Rattle.grid.proofs.HeldGoods.{held_good}
use Rattle.grid.proofs.InstanceCounts.{procedure_count}
use Rattle.grid.proofs.ProfilePlaces.{WholeProfile, rules}
use Rattle.grid.proofs.Rows.{count_put, good_cells, good_clear, good_few, good_put, good_row}
use Rattle.grid.proofs.Shapes.{row_set}
use Rattle.grid.proofs.Tables.{good_last, good_table, row_replaced, table_row}

-- a table that breaks no rule breaks none over a higher limit
good_higher :
    (most limit : ℕ) (p : Profile) (g : GridTable) → most ≤ limit → grid_table_good most p g ≡ true → grid_table_good limit p g ≡ true
good_higher most limit p g le good =
    good_table limit p g (good_last most p g good)
    (grid_rows limit p g.grid (λ k h.
    let row = row_at g.grid k in
    let right = table_row most p g good k h in
    good_row limit p k row (good_cells most p k row right) (omega (arith, le, good_few most p k row right))))

module _ (p : Profile) (whole : WholeProfile p) (r : Request) (g : GridTable) (shaped : GridShaped g.grid)
    (known : r.procedure < grid_procedures) where
  abbrev row : Row
  row = row_at g.grid r.procedure

  abbrev held : List Instance
  held = holds g.grid

  -- the table with another row
  abbrev with : Row → GridTable
  with next = grid_with_row r.procedure next g

  inside : r.procedure < length g.grid.rows
  inside = omega (arith, shaped.rows, known)

  -- ---- an activation

  module _ (flag : get_or p.subscribed r.procedure 0 ≡ 1) (address : address_good r.to.address ≡ true) where
    abbrev put : Row
    put = put_in (cell_places p r) r.to.address row

    abbrev made : List Instance
    made = activated p (selection_of p r) r.to.address held

    counted : count_of (selection_of p r).procedure made ≡ afterwards p r held
    counted = count_afterwards p r held (selection_of p r) refl _ (count_activated p (selection_of p r) r.to.address held)

    -- the instances afterwards, where neither is above the limit
    put_held :
        (limit : ℕ) → grid_table_good limit p g ≡ true → count_with (cell_places p r) row ≤ limit →
        count_of (selection_of p r).procedure made ≤ limit →
        holds (with put).grid ≡ made
    put_held limit good few within =
        let q = r.procedure in
        let own = selection_procedure p r in
        let kept =
        row_replaced limit p g q put inside good
        (good_put limit p q (cell_places p r) r.to.address row (table_row limit p g good q known) (shaped.cells q known)
        (place_good p r whole.good whole.services flag address) few) in
        becomes_same p (selection_of p r) whole limit (some r.to.address) held made (with put) kept
        (activated_good p (rules p whole) (selection_of p r) r.to.address (omega (arith, own, known))
        (ap (λ (k : ℕ). get_or p.subscribed k 0) own ∙ flag) address limit held (held_good limit p whole g good) within)
        (grid_becomes p whole r g shaped known (some r.to.address) put
        (λ j lt. found_put (cell_places p r) row j r.to.address (omega (arith, lt, shaped.cells q known)))
        limit limit good kept)
        (activated_becomes p (selection_of p r) r.to.address held)

    -- "instances of the procedure afterwards"
    pub count_alike : grid_table_good instances_most p g ≡ true → count_with (cell_places p r) row ≡ afterwards p r held
    count_alike good =
        let q = r.procedure in
        let mine : ℕ = count_with (cell_places p r) row in
        let its : ℕ = count_of (selection_of p r).procedure made in
        let limit : ℕ = instances_most + mine + its in
        let same = put_held limit (good_higher instances_most limit p g (omega arith) good) (omega arith) (omega arith) in
        let next : row_at (with put).grid q ≡ put = row_set g.grid.rows q q put _ inside ∙ rw (eq-eqb q q refl) in
        sym (count_put (cell_places p r) r.to.address row (shaped.cells q known))
        ∙ ap (λ (x : Row). count_to (active x) places) (sym next)
        ∙ sym (procedure_count (with put).grid q known)
        ∙ ap (count_of q) same
        ∙ ap (λ (k : ℕ). count_of k made) (sym (selection_procedure p r))
        ∙ counted

    -- an activation that has room
    pub activation_held :
        grid_table_good instances_most p g ≡ true → count_with (cell_places p r) row ≤ instances_most → holds (with put).grid ≡ made
    activation_held good few =
        put_held instances_most good few (omega (arith, few, counted, count_alike good))

  -- ---- a deactivation

  pub clear_held :
      (limit : ℕ) → grid_table_good limit p g ≡ true →
      holds (with (clear_in (cell_places p r) row)).grid ≡ deactivated (selection_of p r) held
  clear_held limit good =
      let q = r.procedure in
      let clear = clear_in (cell_places p r) row in
      let kept = row_replaced limit p g q clear inside good
      (good_clear limit p q (cell_places p r) row (table_row limit p g good q known)) in
      becomes_same p (selection_of p r) whole limit none held (deactivated (selection_of p r) held) (with clear) kept
      (cleared_good p (selection_of p r) limit held (held_good limit p whole g good))
      (grid_becomes p whole r g shaped known none clear (λ j lt. address_clear (cell_places p r) row j) limit limit good kept)
      (deactivated_becomes p (selection_of p r) held)
