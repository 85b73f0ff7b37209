-- What a grid and a run hold after a change. A change is known by what is found afterwards: at each place that the selection names
-- what is there now, at every other what was there before; so two changes alike make the same instances. Assumes nothing.
use Prim.Native.Nat.{◌<◌, ℕ}
use mathlib.Core.Bool.{false, true}
use mathlib.Core.List.{List}
use mathlib.Core.Logic.{⊎_elim}
use mathlib.Core.Option.{Option, none, some}
use mathlib.Core.Path.{◌∙◌, ◌≡◌, ap, sym}
use native.Mathlib.Omega.{arith}
use lib.Dec.{eqb, ltb}
use lib.ListN.{length}
use borrow.Author.Tests.{eq-eqb, eqb-false, eqb-true, ltb-false, ne_eqb}
use Rattle.laws.specs.Pick.{pick}
use Rattle.laws.proofs.Picks.{by_bool}
use Rattle.numbers.specs.declared.address.Address.{Address}
use Rattle.requests.specs.declared.request.Request.{Request}
use Rattle.profile.specs.declared.profile.Profile.{Profile}
use Rattle.instances.specs.Run.{activated, deactivated, forwarded_to}
use Rattle.instances.specs.declared.instance.Instance.{Instance}
use Rattle.instances.specs.declared.instance.Selection.{Selection}
use Rattle.instances.proofs.Finds.{find_cleared, find_put, has_place, names}
use Rattle.instances.proofs.Founds.{found_same}
use Rattle.instances.proofs.Goods.{GoodList}
use Rattle.rules.specs.Selection.{selection_of}
use Rattle.grid.specs.Grid.{Grid, GridShaped, grid_procedures, row_at}
use Rattle.grid.specs.Holds.{holds}
use Rattle.grid.specs.Row.{Places, Row, cell_at, clear_in, grid_selected, places, put_in}
use Rattle.grid.specs.Selection.{cell_places}
use Rattle.grid.specs.Table.{GridTable, grid_table_good, grid_with_row}
use Rattle.grid.proofs.FoundCells.{cell_address, found_in, found_holds}
use Rattle.grid.proofs.HeldGoods.{good_small, held_good}
use Rattle.grid.proofs.ProfilePlaces.{WholeProfile, has_place_lem, place_at}
use Rattle.grid.proofs.Rows.{active_clear, active_put, cell_clear, cell_put, pick_same}
use Rattle.grid.proofs.SameSelections.{concerned, marked_place, unconcerned}
use Rattle.grid.proofs.Shapes.{row_set}
use Rattle.grid.proofs.Tables.{good_grid}

-- ---- changes

module _ (p : Profile) (chosen : Selection) where
  -- what the selection names in the profile holds `now`, and all else what it held before
  abbrev pub Becomes : Option Address → List Instance → List Instance → Type 0
  Becomes now before after =
      (q n s : ℕ) →
      forwarded_to q n s after ≡ pick (names chosen q n s) (pick (has_place p n s) now none) (forwarded_to q n s before)

  -- "every selected number and service .. gets the address", "removes every active selected instance"
  pub activated_becomes : (address : Address) (l : List Instance) → Becomes (some address) l (activated p chosen address l)
  activated_becomes address l q n s = find_put q n s chosen address p l

  pub deactivated_becomes : (l : List Instance) → Becomes none l (deactivated chosen l)
  deactivated_becomes l q n s =
      find_cleared q n s chosen l
      ∙ ap (λ (o : Option Address). pick (names chosen q n s) o (forwarded_to q n s l)) (pick_same (has_place p n s) none)

  -- a grid and a list that break no rule, whatever the limit, and of which the same becomes, hold the same
  pub becomes_same :
      WholeProfile p → (most : ℕ) (now : Option Address) (before after : List Instance) (g : GridTable) →
      grid_table_good most p g ≡ true → GoodList p most after →
      Becomes now before (holds g.grid) → Becomes now before after →
      holds g.grid ≡ after
  becomes_same whole most now before after g good so one two =
      let held = held_good most p whole g good in
      found_same 0 (holds g.grid) after held.ascends so.ascends
      (good_small p whole most (holds g.grid) held) (good_small p whole most after so)
      (λ q n s. one q n s ∙ sym (two q n s))

-- ---- rows

module _ (w : Places) (row : Row) (j : ℕ) where
  -- the cells that are selected get the address ..
  pub found_put :
      (address : Address) → j < length row.cells →
      cell_address (put_in w address row) j ≡ pick (grid_selected w j) (some address) (cell_address row j)
  found_put address lt =
      by_bool _ (grid_selected w j)
      (λ (e : grid_selected w j ≡ true). rw (active_put w address row j lt, cell_put w address row j lt, e))
      (λ (e : grid_selected w j ≡ false). rw (active_put w address row j lt, cell_put w address row j lt, e))

  -- .. or lose it
  pub address_clear : cell_address (clear_in w row) j ≡ pick (grid_selected w j) none (cell_address row j)
  address_clear =
      by_bool _ (grid_selected w j)
      (λ (e : grid_selected w j ≡ true). rw (active_clear w row j, e))
      (λ (e : grid_selected w j ≡ false).
      let kept : cell_at (clear_in w row) j ≡ cell_at row j =
      ⊎_elim (λ is. is ∙ rw e) (λ is. is.0 ∙ sym is.1) (cell_clear w row j) in
      rw (active_clear w row j, kept, e))

-- ---- grids

module _ (p : Profile) (whole : WholeProfile p) (r : Request) (g : GridTable) (shaped : GridShaped g.grid)
    (known : r.procedure < grid_procedures) where
  abbrev row : Row
  row = row_at g.grid r.procedure

  module _ (now : Option Address) (next : Row)
      (changes : (j : ℕ) → j < places → cell_address next j ≡ pick (grid_selected (cell_places p r) j) now (cell_address row j)) where
    abbrev after : Grid
    after = (grid_with_row r.procedure next g).grid

    its_row : (q : ℕ) → row_at after q ≡ pick (eqb q r.procedure) next (row_at g.grid q)
    its_row q = row_set g.grid.rows r.procedure q next _ (omega (arith, shaped.rows, known))

    -- a place of the procedure, and one of another
    own_place :
        (q n s : ℕ) → q ≡ r.procedure → has_place p n s ≡ true →
        cell_address (row_at after q) (place_at p n s) ≡ pick (names (selection_of p r) q n s) now
        (cell_address (row_at g.grid q) (place_at p n s))
    own_place q n s same here =
        let place = has_place_lem p whole n s here in
        let there : row_at after q ≡ next = its_row q ∙ rw (eq-eqb q r.procedure same) in
        rw (there, changes (place_at p n s) place.inside, marked_place p whole r n s here, concerned p whole r q same, same)

    other_place :
        (q n s : ℕ) → (q ≡ r.procedure → ⊥) →
        cell_address (row_at after q) (place_at p n s) ≡ pick (names (selection_of p r) q n s) now
        (cell_address (row_at g.grid q) (place_at p n s))
    other_place q n s other =
        let there : row_at after q ≡ row_at g.grid q = its_row q ∙ rw (ne_eqb q r.procedure other) in
        rw (there, unconcerned p whole r q other)

    found_after :
        (q n s : ℕ) →
        found_in p after q n s ≡ pick (names (selection_of p r) q n s) (pick (has_place p n s) now none) (found_in p g.grid q n s)
    found_after q n s =
        by_bool _ (ltb q grid_procedures)
        (λ (e : ltb q grid_procedures ≡ true).
        by_bool _ (has_place p n s)
        (λ (h : has_place p n s ≡ true).
        rw (e, h)
        (by_bool _ (eqb q r.procedure)
        (λ (same : eqb q r.procedure ≡ true). own_place q n s (eqb-true q r.procedure same) h)
        (λ (other : eqb q r.procedure ≡ false). other_place q n s (eqb-false q r.procedure other))))
        (λ (h : has_place p n s ≡ false). rw (e, h) (pick_same (names (selection_of p r) q n s) none)))
        (λ (e : ltb q grid_procedures ≡ false).
        let past = ltb-false q grid_procedures e in
        rw (e, unconcerned p whole r q (λ same. omega (arith, past, known, same))))

    pub grid_becomes :
        (most limit : ℕ) → grid_table_good most p g ≡ true → grid_table_good limit p (grid_with_row r.procedure next g) ≡ true →
        Becomes p (selection_of p r) now (holds g.grid) (holds after)
    grid_becomes most limit good kept q n s =
        found_holds q n s limit p whole after (good_grid limit p (grid_with_row r.procedure next g) kept)
        ∙ found_after q n s
        ∙ ap (λ (o : Option Address). pick (names (selection_of p r) q n s) (pick (has_place p n s) now none) o)
        (sym (found_holds q n s most p whole g.grid (good_grid most p g good)))
