-- Which instances of a row are active where it is selected: those that are listed, in order, or none. Assumes nothing.
use Prim.Native.Nat.{◌<◌, ℕ}
use mathlib.Core.Bool.{Bool, false, true}
use mathlib.Core.List.{List, [], ◌∷◌, map}
use mathlib.Core.Path.{◌∙◌, ◌≡◌, refl}
use Rattle.laws.specs.Pick.{pick}
use Rattle.laws.specs.Places.{places_where}
use Rattle.laws.proofs.Chosen.{count_nothing, gathered_places, gathered_same, nothing_counted}
use Rattle.laws.proofs.Picks.{pick_ind}
use Rattle.profile.specs.declared.profile.Profile.{Profile}
use Rattle.grid.specs.Row.{Places, Row, active, active_of, entry_of_place, grid_entries, grid_selected, places}
use Rattle.grid.proofs.Cells.{both_at, entries_at}

pick_both : {A : Type 0} (a b : Bool) (x : List A) → pick a (pick b x []) [] ≡ pick (pick a b false) x []
pick_both true b x = refl
pick_both false b x = refl

module _ (w : Places) (row : Row) where
  -- one entry for each place that is selected and active, in order
  pub entries_places :
      (p : Profile) (procedure : ℕ) →
      grid_entries p procedure w row ≡ map (entry_of_place p procedure row) (places_where (both_at w row) places)
  unfolding grid_entries
  entries_places p procedure =
      gathered_same (entries_at p procedure w row) (λ j. pick (both_at w row j) (entry_of_place p procedure row j ∷ []) []) places
      (λ j _. pick_both (grid_selected w j) (active row j) (entry_of_place p procedure row j ∷ []))
      ∙ gathered_places (both_at w row) (entry_of_place p procedure row) places

  -- none is counted exactly if no selected instance is active
  pub none_active : active_of w row ≡ 0 → (j : ℕ) → j < places → grid_selected w j ≡ true → active row j ≡ false
  unfolding active_of
  none_active none j h chosen = rw chosen at (nothing_counted (both_at w row) places none j h)

  pub active_none :
      ((j : ℕ) → j < places → grid_selected w j ≡ true → active row j ≡ false) → active_of w row ≡ 0
  unfolding active_of
  active_none silent =
      count_nothing (both_at w row) places (λ j h.
      pick_ind (λ t. t ≡ false) (grid_selected w j) (λ chosen. silent j h chosen) (λ _. refl))
