-- What a request lists of a grid and of a run that hold the same: the same entries in the same order. Assumes nothing.
use Prim.Native.Nat.{◌<◌, ℕ}
use mathlib.Core.Bool.{Bool, false, true}
use mathlib.Core.List.{List, [], ◌∷◌, map}
use mathlib.Core.Path.{◌∙◌, ◌≡◌, ap, refl, sym}
use native.Mathlib.Omega.{arith}
use lib.ListN.{length, length-map}
use Rattle.laws.specs.Pick.{pick}
use Rattle.laws.specs.Places.{gathered, places_where}
use Rattle.laws.specs.Those.{those}
use Rattle.laws.proofs.Chosen.{gathered_same}
use Rattle.laws.proofs.Picks.{by_bool, pick_ind}
use Rattle.laws.proofs.Thoses.{those_none}
use Rattle.requests.specs.declared.request.Request.{Request}
use Rattle.profile.specs.declared.profile.Profile.{Profile}
use Rattle.lists.specs.declared.entry.Entry.{Entry}
use Rattle.instances.specs.Instance.{chosen, selected}
use Rattle.instances.specs.Run.{entry_for, listed}
use Rattle.instances.specs.declared.instance.Instance.{Instance}
use Rattle.instances.proofs.Choices.{chosen_of}
use Rattle.instances.proofs.Listeds.{served_own}
use Rattle.rules.specs.Selection.{selection_of}
use Rattle.grid.specs.Grid.{grid_procedures, row_at}
use Rattle.grid.specs.Holds.{grid_instance, holds, place_instances}
use Rattle.grid.specs.Row.{Row, active, active_of, entry_of_place, grid_entries, grid_selected, number_of_place, places}
use Rattle.grid.specs.Selection.{cell_places}
use Rattle.grid.specs.Table.{GridTable, grid_table_good}
use Rattle.grid.proofs.Cells.{both_at, entries_at}
use Rattle.grid.proofs.Gathers.{gathered_count, gathered_nothing, gathered_one, map_gathered, those_gathered, those_one}
use Rattle.grid.proofs.Listings.{entries_places}
use Rattle.grid.proofs.ProfilePlaces.{WholeProfile}
use Rattle.grid.proofs.RowInstances.{row_of, rows_all}
use Rattle.grid.proofs.Rows.{active_count, active_rules, pick_same}
use Rattle.grid.proofs.SameSelections.{concerned, marks_same, unconcerned}
use Rattle.grid.proofs.Tables.{table_row}

-- ---- those that a request selects

module _ (most : ℕ) (p : Profile) (whole : WholeProfile p) (g : GridTable) (good : grid_table_good most p g ≡ true) (r : Request)
    (known : r.procedure < grid_procedures) where
  abbrev row : Row
  row = row_at g.grid r.procedure

  abbrev one : ℕ → ℕ → Instance
  one = grid_instance g.grid

  abbrev mine : Instance → Bool
  mine = chosen (selection_of p r)

  place_chosen : (j : ℕ) → j < places → active row j ≡ true → mine (one r.procedure j) ≡ grid_selected (cell_places p r) j
  place_chosen j lt there =
      let ruled = active_rules most p r.procedure row (table_row most p g good r.procedure known) j lt there in
      chosen_of (selection_of p r) (one r.procedure j)
      ∙ rw (concerned p whole r r.procedure refl)
      (ap (selected (selection_of p r) (number_of_place j)) ruled.service
      ∙ sym (marks_same p whole r j lt ruled.number ruled.slot))

  place_listed :
      (j : ℕ) → j < places →
      those mine (place_instances r.procedure row j) ≡ pick (grid_selected (cell_places p r) j) (place_instances r.procedure row j) []
  place_listed j lt =
      by_bool _ (active row j)
      (λ (e : active row j ≡ true).
      rw e
      (those_one mine (one r.procedure j)
      ∙ ap (λ b. pick b (one r.procedure j ∷ []) []) (place_chosen j lt e)))
      (λ (e : active row j ≡ false).
      rw e
      (those_none mine [] refl
      ∙ pick_same (grid_selected (cell_places p r) j) []))

  -- none of another procedure
  other_chosen : (k j : ℕ) → (k ≡ r.procedure → ⊥) → mine (one k j) ≡ false
  other_chosen k j other = chosen_of (selection_of p r) (one k j) ∙ rw (unconcerned p whole r k other)

  other_listed : (k : ℕ) → (k ≡ r.procedure → ⊥) → those mine (row_of g.grid k) ≡ []
  other_listed k other =
      those_gathered mine (place_instances k (row_at g.grid k)) places
      ∙ gathered_nothing (λ j. those mine (place_instances k (row_at g.grid k) j)) places (λ j _.
      pick_ind (λ l. those mine l ≡ []) (active (row_at g.grid k) j)
      (λ _. those_one mine (one k j) ∙ ap (λ b. pick b (one k j ∷ []) []) (other_chosen k j other))
      (λ _. those_none mine [] refl))

  listed_holds :
      listed (selection_of p r) (holds g.grid)
      ≡ gathered (λ j. pick (grid_selected (cell_places p r) j) (place_instances r.procedure row j) []) places
  listed_holds =
      ap (those mine) (rows_all g.grid)
      ∙ those_gathered mine (row_of g.grid) grid_procedures
      ∙ gathered_one (λ k. those mine (row_of g.grid k)) grid_procedures r.procedure known (λ k _. other_listed k)
      ∙ those_gathered mine (place_instances r.procedure row) places
      ∙ gathered_same (λ j. those mine (place_instances r.procedure row j))
      (λ j. pick (grid_selected (cell_places p r) j) (place_instances r.procedure row j) []) places place_listed

  -- ---- and their entries

  entry_same : (j : ℕ) → j < places → entry_for p.numbers (one r.procedure j) ≡ entry_of_place p r.procedure row j
  unfolding entry_of_place
  entry_same j lt = rw (served_own p.numbers (number_of_place j) (omega (arith, lt)))

  place_entries :
      (j : ℕ) → j < places → (a b : Bool) →
      map (entry_for p.numbers) (pick a (pick b (one r.procedure j ∷ []) []) [])
      ≡ pick a (pick b (entry_of_place p r.procedure row j ∷ []) []) []
  place_entries j lt true true = ap (λ (e : Entry). e ∷ []) (entry_same j lt)
  place_entries j lt true false = refl
  place_entries j lt false b = refl

  -- "every active selected instance, by profile number, then service code"
  pub entries_same : map (entry_for p.numbers) (listed (selection_of p r) (holds g.grid)) ≡ grid_entries p r.procedure (cell_places p r) row
  unfolding grid_entries
  entries_same =
      let picked : ℕ → List Instance = λ j. pick (grid_selected (cell_places p r) j) (place_instances r.procedure row j) [] in
      ap (map (entry_for p.numbers)) listed_holds
      ∙ map_gathered (entry_for p.numbers) picked places
      ∙ gathered_same (λ j. map (entry_for p.numbers) (picked j)) (entries_at p r.procedure (cell_places p r) row) places
      (λ j lt. place_entries j lt (grid_selected (cell_places p r) j) (active row j))

  -- as many as are active
  pub listed_count : length (listed (selection_of p r) (holds g.grid)) ≡ active_of (cell_places p r) row
  listed_count =
      let both : ℕ → Bool = both_at (cell_places p r) row in
      sym (length-map (listed (selection_of p r) (holds g.grid)) (entry_for p.numbers))
      ∙ ap length (entries_same ∙ entries_places (cell_places p r) row p r.procedure)
      ∙ length-map (places_where both places) (entry_of_place p r.procedure row)
      ∙ gathered_count both (λ j. j) places
      ∙ sym (active_count (cell_places p r) row)
