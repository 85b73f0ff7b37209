-- The instances of a grid on which instances were placed in their order: exactly these. Assumes nothing.
use Prim.Native.Nat.{◌*◌, ◌+◌, ◌<◌, ◌≤◌, suc, ℕ}
use mathlib.Core.Bool.{false≢true, true}
use mathlib.Core.List.{List, [], ◌++◌, ◌∷◌, append_assoc, append-nil}
use mathlib.Core.Logic.{⊎_elim}
use mathlib.Core.Path.{◌∙◌, ◌≡◌, ap, refl, sym}
use native.Mathlib.Omega.{arith}
use lib.Dec.{eqb}
use lib.ListN.{length, length-take}
use borrow.Author.Tests.{eqb-false, eqb-true, ne_eqb}
use Rattle.laws.proofs.Chosen.{gathered_same}
use Rattle.laws.proofs.Eaches.{Each, Up}
use Rattle.laws.proofs.Picks.{by_bool, pick_ind}
use Rattle.profile.specs.Profile.{profile_good, services_most, subscribed_services}
use Rattle.profile.specs.declared.profile.Profile.{Profile}
use Rattle.profile.proofs.Profiles.{good_profile}
use Rattle.profile.proofs.Rising.{rising_order}
use Rattle.instances.specs.Instance.{key_of}
use Rattle.instances.specs.declared.instance.Instance.{Instance}
use Rattle.instances.proofs.Keys.{key_earlier}
use Rattle.grid.specs.Grid.{Grid, GridShaped, grid_procedures, no_grid, row_at}
use Rattle.grid.specs.Row.{active, number_of_place, places}
use Rattle.grid.specs.Holds.{holds, place_instances}
use Rattle.grid.specs.Sheets.{all_placed, grid_all_in, place_of_instance, grid_placed}
use Rattle.grid.proofs.Cells.{active_same}
use Rattle.grid.proofs.Gathers.{gathered_last, gathered_nothing}
use Rattle.grid.proofs.PlacedCells.{Fitting, Holdable, all_parts, cell_else, cell_here, few_numbers}
use Rattle.grid.proofs.PlacedCells.{few_services, fitting, none_there, place_inside, place_number, placed_shaped}
use Rattle.grid.proofs.RowInstances.{cell_instances, place_same, row_of, rows_all}
use Rattle.grid.proofs.Shapes.{shaped_none}

-- ---- places in the order of procedures

abbrev rank : Profile → Instance → ℕ
rank p i = places * i.procedure + place_of_instance p i

-- every instance that is active stands before a place
abbrev Behind : Grid → ℕ → Type 0
Behind grid n = (k j : ℕ) → k < grid_procedures → j < places → active (row_at grid k) j ≡ true → places * k + j < n

silent :
    (grid : Grid) (n k j : ℕ) → Behind grid n → k < grid_procedures → j < places → n ≤ places * k + j →
    place_instances k (row_at grid k) j ≡ []
silent grid n k j behind h lt after =
    pick_ind (λ is. is ≡ []) (active (row_at grid k) j)
    (λ there. absurd (omega (arith, after, behind k j h lt there)))
    (λ _. refl)

nothing_placed : (grid : Grid) → Behind grid 0 → holds grid ≡ []
nothing_placed grid behind =
    rows_all grid
    ∙ gathered_nothing (row_of grid) grid_procedures (λ k h.
    gathered_nothing (place_instances k (row_at grid k)) places (λ j lt. silent grid 0 k j behind h lt (omega arith)))

-- a fresh grid holds none
none_behind : Behind no_grid 0
none_behind k j h lt there = absurd (false≢true (sym (none_there k j h lt) ∙ there))

pub fresh_none : holds no_grid ≡ []
fresh_none = nothing_placed no_grid none_behind

-- ---- one instance more, after all others

module _ (p : Profile) (profile : profile_good p ≡ true) (grid : Grid) (shaped : GridShaped grid) (i : Instance) (fits : Fitting p i)
    (service : i.service ≡ 0 → ⊥) (behind : Behind grid (rank p i)) where
  abbrev k : ℕ
  k = i.procedure

  abbrev m : ℕ
  m = place_of_instance p i

  abbrev more : Grid
  more = grid_placed p grid i

  inside : k < grid_procedures
  inside = fits.procedure

  its_room : m < places
  its_room = place_inside p profile i fits

  same_place :
      (l j : ℕ) → (l ≡ k → j ≡ m → ⊥) → place_instances l (row_at more l) j ≡ place_instances l (row_at grid l) j
  same_place l j other =
      place_same l (row_at more l) j
      ∙ ap (cell_instances l (number_of_place j)) (cell_else p grid shaped i inside its_room l j other)
      ∙ sym (place_same l (row_at grid l) j)

  abbrev numbered : ℕ → Instance
  numbered n = record { procedure = i.procedure; number = n; service = i.service; address = i.address }

  its_place : place_instances k (row_at more k) m ≡ i ∷ []
  its_place =
      place_same k (row_at more k) m
      ∙ ap (cell_instances k (number_of_place m)) (cell_here p grid shaped i inside its_room)
      ∙ rw (ne_eqb i.service 0 service) (ap (λ (n : ℕ). numbered n ∷ []) (place_number p profile i fits))

  its_row : row_of more k ≡ row_of grid k ++ (i ∷ [])
  its_row =
      gathered_last (place_instances k (row_at grid k)) (place_instances k (row_at more k)) places m (i ∷ []) its_room
      (λ j _ other. same_place k j (λ _. other))
      (rw (silent grid (rank p i) k m behind inside its_room (omega arith)) its_place)
      (λ j up lt. silent grid (rank p i) k j behind inside lt (omega (arith, up)))

  other_row : (l : ℕ) → (l ≡ k → ⊥) → row_of more l ≡ row_of grid l
  other_row l other =
      gathered_same (place_instances l (row_at more l)) (place_instances l (row_at grid l)) places (λ j _.
      same_place l j (λ e. absurd (other e)))

  -- it comes last
  one_more : holds more ≡ holds grid ++ (i ∷ [])
  one_more =
      rows_all more
      ∙ gathered_last (row_of grid) (row_of more) grid_procedures k (i ∷ []) inside (λ l _. other_row l) its_row
      (λ l up h.
      gathered_nothing (place_instances l (row_at grid l)) places (λ j lt.
      silent grid (rank p i) l j behind h lt (omega (arith, up, its_room))))
      ∙ ap (λ (is : List Instance). is ++ (i ∷ [])) (sym (rows_all grid))

  behind_more : Behind more (suc (rank p i))
  behind_more l j h lt there =
      by_bool _ (eqb (places * l + j) (rank p i))
      (λ e. omega (arith, eqb-true (places * l + j) (rank p i) e))
      (λ e.
      let other : l ≡ k → j ≡ m → ⊥ = λ a b. eqb-false (places * l + j) (rank p i) e (rw (a, b)) in
      let before = sym (active_same (row_at more l) j (row_at grid l) (cell_else p grid shaped i inside its_room l j other)) ∙ there in
      omega (arith, behind l j h lt before))

-- ---- all of them

module _ (p : Profile) (profile : profile_good p ≡ true) where
  -- instances for which there is a place, each after the one before it, the first not before n
  abbrev Lined : ℕ → List Instance → Type 0
  Lined n [] = Unit {0}
  Lined n (i ∷ is) = Fitting p i × (i.service ≡ 0 → ⊥) × (n ≤ rank p i) × Lined (suc (rank p i)) is

  -- the grid of fitting instances is whole
  lined_shaped : (grid : Grid) (n : ℕ) (is : List Instance) → GridShaped grid → Lined n is → GridShaped (all_placed p grid is)
  unfolding all_placed
  lined_shaped grid n [] shaped lined = shaped
  lined_shaped grid n (i ∷ is) shaped lined =
      lined_shaped (grid_placed p grid i) (suc (rank p i)) is
      (placed_shaped p grid shaped i lined.0.procedure (place_inside p profile i lined.0)) lined.3

  lined_placed :
      (grid : Grid) (n : ℕ) (is : List Instance) → GridShaped grid → Behind grid n → Lined n is →
      holds (all_placed p grid is) ≡ holds grid ++ is
  unfolding all_placed
  lined_placed grid n [] shaped behind lined = sym (append-nil (holds grid))
  lined_placed grid n (i ∷ is) shaped behind lined =
      let fits = lined.0 in
      let its_room = place_inside p profile i fits in
      let up : Behind grid (rank p i) = λ k j h lt there. omega (arith, behind k j h lt there, lined.2) in
      lined_placed (grid_placed p grid i) (suc (rank p i)) is (placed_shaped p grid shaped i fits.procedure its_room)
      (behind_more p profile grid shaped i fits lined.1 up) lined.3
      ∙ ap (λ (l : List Instance). l ++ is) (one_more p profile grid shaped i fits lined.1 up)
      ∙ append_assoc (holds grid) (i ∷ []) is

  module _ (long : length p.services ≡ services_most) where
    -- of two of the profile, the one with the lower key has the earlier place
    rank_order : (i k : Instance) → Fitting p i → Fitting p k → k.service < 256 → key_of i < key_of k → rank p i < rank p k
    rank_order i k a b code first =
        let so = good_profile p profile in
        let count : length (subscribed_services p) ≡ p.servicecount =
        omega (arith, long, so.services_few, length-take p.servicecount p.services) in
        let one = few_services p profile i a in
        let two = few_services p profile k b in
        let low = few_numbers p profile i a in
        ⊎_elim
        (λ (lt : i.procedure < k.procedure). omega (arith, one, low, lt))
        (λ same.
        ⊎_elim
        (λ (lt : i.number < k.number). omega (arith, one, same.0, lt))
        (λ rest.
        let slots =
        rising_order 0 (subscribed_services p) i.service k.service so.rises (omega (arith, count, a.slot))
        (omega (arith, count, b.slot)) rest.1 in
        omega (arith, same.0, rest.0, slots))
        same.1)
        (key_earlier i.procedure i.number i.service k.procedure k.number k.service
        (omega (arith, few_numbers p profile k b)) (omega (arith, code)) first)

    lined_after :
        (i : Instance) (is : List Instance) → Fitting p i → Up key_of (key_of i) is → Each Holdable is → grid_all_in p is ≡ true →
        Lined (suc (rank p i)) is
    lined_after i [] fits asc each all = tt
    lined_after i (k ∷ ks) fits asc each all =
        let parts = all_parts p k ks all in
        let next = fitting p k each.0.procedure parts.0 in
        (next, each.0.some, rank_order i k fits next each.0.small asc.0, lined_after k ks next asc.1 each.1 parts.1)

    lined : (is : List Instance) → Up key_of 0 is → Each Holdable is → grid_all_in p is ≡ true → Lined 0 is
    lined [] asc each all = tt
    lined (i ∷ is) asc each all =
        let parts = all_parts p i is all in
        let first = fitting p i each.0.procedure parts.0 in
        (first, each.0.some, omega arith, lined_after i is first asc.1 each.1 parts.1)

    -- instances that ascend and are in the profile are those of the grid on which they are placed
    pub placed_instances :
        (is : List Instance) → Up key_of 0 is → Each Holdable is → grid_all_in p is ≡ true → holds (all_placed p no_grid is) ≡ is
    placed_instances is asc each all =
        lined_placed no_grid 0 is shaped_none none_behind (lined is asc each all) ∙ ap (λ (l : List Instance). l ++ is) fresh_none

    pub all_shaped :
        (is : List Instance) → Up key_of 0 is → Each Holdable is → grid_all_in p is ≡ true → GridShaped (all_placed p no_grid is)
    all_shaped is asc each all = lined_shaped no_grid 0 is shaped_none (lined is asc each all)
