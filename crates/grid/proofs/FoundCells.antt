-- What is found in what a grid holds: the address in the cell of a number and a service, where the profile has them. Assumes nothing.
use Prim.Native.Nat.{◌<◌, suc, zero, ℕ}
use mathlib.Core.Bool.{false, false≢true, true}
use mathlib.Core.List.{List, [], ◌∷◌}
use mathlib.Core.Logic.{⊎_elim}
use mathlib.Core.Option.{Option, none, some}
use mathlib.Core.Path.{◌∙◌, ◌≡◌, ap, refl, sym}
use native.Mathlib.Nat.{eq-or-lt_of_le}
use native.Mathlib.Omega.{arith}
use lib.Dec.{ltb}
use borrow.Author.Tests.{ltb-false, ltb-true}
use Rattle.laws.specs.Pick.{pick}
use Rattle.laws.specs.Places.{gathered}
use Rattle.laws.proofs.Picks.{by_bool, pick_ind}
use Rattle.laws.proofs.Walks.{gathered_ind, gathered_more}
use Rattle.codes.specs.Codes.{place_of}
use Rattle.numbers.specs.declared.address.Address.{Address}
use Rattle.profile.specs.Profile.{subscribed_services}
use Rattle.profile.specs.declared.profile.Profile.{Profile}
use Rattle.instances.specs.Instance.{is_at}
use Rattle.instances.specs.Run.{forwarded_to}
use Rattle.instances.specs.declared.instance.Instance.{Instance}
use Rattle.instances.proofs.Choices.{find_here, find_none, find_on}
use Rattle.instances.proofs.Finds.{has_place}
use Rattle.instances.proofs.Founds.{found_after, found_before, is_at_lem, not_at}
use Rattle.grid.specs.Grid.{Grid, grid_good, grid_procedures, row_at}
use Rattle.grid.specs.Holds.{holds, instance_in, place_instances, row_instances}
use Rattle.grid.specs.Row.{Row, active, cell_at, number_of_place, places, row_good, service_of_place}
use Rattle.grid.proofs.Grids.{grid_row}
use Rattle.grid.proofs.ProfilePlaces.{WholeProfile, has_place_lem, place_has, place_at}
use Rattle.grid.proofs.RowInstances.{row_of, rows_all, slot_is}
use Rattle.grid.proofs.Rows.{Ruled, active_rules}

-- the address at a place of a row, and that of a procedure, number and service, as it stands in its cell
abbrev pub cell_address : Row → ℕ → Option Address
cell_address row j = pick (active row j) (some (cell_at row j).address) none

abbrev pub found_in : Profile → Grid → ℕ → ℕ → ℕ → Option Address
found_in p grid q n s =
    pick (ltb q grid_procedures) (pick (has_place p n s) (cell_address (row_at grid q) (place_at p n s)) none) none

module _ (q n s : ℕ) where
  abbrev find : List Instance → Option Address
  find = forwarded_to q n s

  -- ---- what is found in what is gathered

  gathered_nowhere : (f : ℕ → List Instance) (m : ℕ) → ((j : ℕ) → j < m → find (f j) ≡ none) → find (gathered f m) ≡ none
  gathered_nowhere f m h =
      gathered_ind (λ l. find l ≡ none) (find_none q n s [] refl) (λ xs ys a b. found_after q n s xs ys a ∙ b) f m h

  gathered_found :
      (f : ℕ → List Instance) (m k : ℕ) → k < m → ((j : ℕ) → j < m → (j ≡ k → ⊥) → find (f j) ≡ none) →
      find (gathered f m) ≡ find (f k)
  gathered_found f zero k lt others = absurd (omega arith)
  gathered_found f (suc m) k lt others =
      ap find (gathered_more f m)
      ∙ ⊎_elim
      (λ (last : k ≡ m).
      found_after q n s (gathered f m) (f m) (gathered_nowhere f m (λ j less. others j (omega arith) (λ e. omega arith)))
      ∙ ap (λ (j : ℕ). find (f j)) (sym last))
      (λ (less : k < m).
      found_before q n s (gathered f m) (f m) (others m (omega arith) (λ e. omega arith))
      ∙ gathered_found f m k less (λ j h. others j (omega arith)))
      (eq-or-lt_of_le (omega arith))

  -- ---- the instance of a place

  module _ (k : ℕ) (row : Row) (j : ℕ) where
    abbrev one : Instance
    one = instance_in k row j

    place_none : (active row j ≡ true → is_at q n s one ≡ false) → find (place_instances k row j) ≡ none
    place_none h =
        pick_ind (λ l. find l ≡ none) (active row j)
        (λ e. find_on q n s (one ∷ []) one [] refl (h e) ∙ find_none q n s [] refl)
        (λ _. find_none q n s [] refl)

    place_found : (active row j ≡ true → is_at q n s one ≡ true) → find (place_instances k row j) ≡ cell_address row j
    place_found h =
        by_bool (find (place_instances k row j) ≡ cell_address row j) (active row j)
        (λ e. rw e (find_here q n s (one ∷ []) one [] refl (h e)))
        (λ e. rw e (find_none q n s [] refl))

  -- the row of another procedure
  other_found : (k : ℕ) (row : Row) → (k ≡ q → ⊥) → find (row_instances k row) ≡ none
  other_found k row other =
      gathered_nowhere (place_instances k row) places (λ j _.
      place_none k row j (λ _. not_at q n s (one k row j) (λ a _ _. other a)))

  -- ---- the row of the procedure

  module _ (most : ℕ) (p : Profile) (whole : WholeProfile p) (row : Row) (good : row_good most p q row ≡ true) where
    module _ (j : ℕ) (lt : j < places) (there : active row j ≡ true) where
      ruled : Ruled p q j (cell_at row j)
      ruled = active_rules most p q row good j lt there

      slot : place_of (cell_at row j).service (subscribed_services p) ≡ service_of_place j
      slot = slot_is p whole.good whole.services q j (cell_at row j) ruled

      -- an instance stands at the place of its number and service, which the profile has
      at_place : number_of_place j ≡ n → (cell_at row j).service ≡ s → (j ≡ place_at p n s) × (has_place p n s ≡ true)
      at_place number service =
          let its : place_of s (subscribed_services p) ≡ service_of_place j = ap (λ (c : ℕ). place_of c (subscribed_services p)) (sym service)
          ∙ slot in
          (omega (arith, its, number), place_has p whole n s (omega (arith, number, ruled.number)) (omega (arith, its, ruled.slot)))

    own_found : find (row_instances q row) ≡ pick (has_place p n s) (cell_address row (place_at p n s)) none
    own_found =
        by_bool _ (has_place p n s)
        (λ (e : has_place p n s ≡ true).
        let place = has_place_lem p whole n s e in
        rw e
        (gathered_found (place_instances q row) places (place_at p n s) place.inside (λ j lt other.
        place_none q row j (λ there. not_at q n s (one q row j) (λ _ number service. other (at_place j lt there number service).0)))
        ∙ place_found q row (place_at p n s) (λ there.
        is_at_lem q n s (one q row (place_at p n s)) refl place.numbered
        ((ruled (place_at p n s) place.inside there).service ∙ place.service))))
        (λ (e : has_place p n s ≡ false).
        rw e
        (gathered_nowhere (place_instances q row) places (λ j lt.
        place_none q row j (λ there.
        not_at q n s (one q row j) (λ _ number service. false≢true (sym e ∙ (at_place j lt there number service).1))))))

  -- ---- the grid

  pub found_holds :
      (most : ℕ) (p : Profile) → WholeProfile p → (grid : Grid) → grid_good most p grid ≡ true →
      forwarded_to q n s (holds grid) ≡ found_in p grid q n s
  found_holds most p whole grid good =
      ap find (rows_all grid)
      ∙ by_bool _ (ltb q grid_procedures)
      (λ (e : ltb q grid_procedures ≡ true).
      let lt = ltb-true q grid_procedures e in
      rw e
      (gathered_found (row_of grid) grid_procedures q lt (λ k _ other. other_found k (row_at grid k) other)
      ∙ own_found most p whole (row_at grid q) (grid_row most p grid q lt good)))
      (λ (e : ltb q grid_procedures ≡ false).
      let past = ltb-false q grid_procedures e in
      rw e
      (gathered_nowhere (row_of grid) grid_procedures (λ k lt. other_found k (row_at grid k) (λ same. omega (arith, past, lt, same)))))
