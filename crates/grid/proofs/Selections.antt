-- The places that a request selects: each has the code of its service, and its number and service are the profile's. Assumes nothing.
use Prim.Native.Nat.{◌%◌, ◌/◌, ◌<◌, ℕ}
use mathlib.Core.Bool.{Bool, false, true}
use mathlib.Core.List.{[], ◌∷◌}
use mathlib.Core.Path.{◌∙◌, ◌≡◌, refl, sym}
use native.Mathlib.Nat.{zero-add}
use native.Mathlib.Omega.{arith}
use lib.Dec.{eqb, ltb}
use lib.ListN.{get_or, length, length-take}
use lib.Seq.{get_or-take}
use borrow.Author.Tests.{eq-eqb, lt-ltb, ltb-true, ne_eqb}
use Rattle.laws.specs.Pick.{pick}
use Rattle.laws.proofs.Each.{get_d_each}
use Rattle.laws.proofs.Picks.{pick_first, pick_ind}
use Rattle.laws.proofs.Tests.{all_at}
use Rattle.requests.specs.declared.request.Request.{Request}
use Rattle.requests.specs.declared.request.Served.{Served}
use Rattle.profile.specs.Profile.{place_in, rising, served_numbers, services_most, subscribed_services}
use Rattle.profile.specs.declared.profile.Profile.{Profile}
use Rattle.profile.proofs.Profiles.{rising_above}
use Rattle.grid.specs.Row.{grid_selected, number_of_place, places, service_of_place}
use Rattle.grid.specs.Selection.{cell_places, grid_number_chosen, grid_selects, grid_service_chosen}
use Rattle.grid.proofs.Cells.{is_selected, not_selected}

-- ---- which numbers and services are chosen

any_last : (b : Bool) → pick b true false ≡ b
any_last true = refl
any_last false = refl

module _ (p : Profile) (s : Served) (k : ℕ) where
  pub number_ignored : p.msn ≡ 0 → grid_number_chosen p s k ≡ true
  unfolding grid_number_chosen
  number_ignored ignored = rw (eq-eqb _ _ ignored)

  pub number_all : (p.msn ≡ 0 → ⊥) → s.all ≡ 1 → grid_number_chosen p s k ≡ true
  unfolding grid_number_chosen
  number_all msn all = rw (ne_eqb _ _ msn, eq-eqb _ _ all)

  pub number_one :
      (p.msn ≡ 0 → ⊥) → (s.all ≡ 1 → ⊥) → grid_number_chosen p s k ≡ eqb (place_in p s.number (served_numbers p)) k
  unfolding grid_number_chosen
  number_one msn one = rw (ne_eqb _ _ msn, ne_eqb _ _ one) (any_last (eqb (place_in p s.number (served_numbers p)) k))

module _ (service code : ℕ) where
  pub service_all : service ≡ 0 → grid_service_chosen service code ≡ true
  unfolding grid_service_chosen
  service_all none = rw (eq-eqb _ _ none)

  pub service_one : (service ≡ 0 → ⊥) → grid_service_chosen service code ≡ eqb service code
  unfolding grid_service_chosen
  service_one some = rw (ne_eqb _ _ some) (any_last (eqb service code))

-- ---- the places

module _ (p : Profile) (r : Request) where
  -- the code of a place
  abbrev place_code : ℕ → ℕ
  place_code j = pick (grid_selects p r j) (get_or p.services (service_of_place j) 0) 0

  pub code_places :
      (j : ℕ) → j < places →
      get_or (cell_places p r).codes j 0 ≡ pick (grid_selects p r j) (get_or p.services (j % services_most) 0) 0
  unfolding cell_places
  code_places j h = rw zero-add at (get_d_each place_code places 0 j 0 h)

  -- a place of the array that is selected: its number and its service are the profile's, and it holds that service's code
  pub record CellSelected (j : ℕ) : Type 0 where
    pub number : j / services_most < p.numbercount
    pub service : j % services_most < p.servicecount
    pub code : get_or (cell_places p r).codes j 0 ≡ get_or p.services (j % services_most) 0
    pub some : get_or (cell_places p r).codes j 0 ≡ 0 → ⊥

  -- what it says that a place is selected
  pub record Selects (j : ℕ) : Type 0 where
    pub number : number_of_place j < p.numbercount
    pub service : service_of_place j < p.servicecount
    pub bynumber : grid_number_chosen p r.served (number_of_place j) ≡ true
    pub byservice : grid_service_chosen r.service (get_or p.services (service_of_place j) 0) ≡ true

  pub selects_says : (j : ℕ) → grid_selects p r j ≡ true → Selects j
  unfolding grid_selects
  selects_says j h =
      let number : Bool = grid_number_chosen p r.served (number_of_place j) in
      let service : Bool = grid_service_chosen r.service (get_or p.services (service_of_place j) 0) in
      let counted : Bool = ltb (number_of_place j) p.numbercount in
      let each = all_at (counted ∷ ltb (service_of_place j) p.servicecount ∷ number ∷ service ∷ []) in
      record { number = ltb-true _ _ (each 0 h); service = ltb-true _ _ (each 1 h); bynumber = each 2 h; byservice = each 3 h }

  pub selects_if : (j : ℕ) → Selects j → grid_selects p r j ≡ true
  unfolding grid_selects
  selects_if j so = rw (lt-ltb _ _ so.number, lt-ltb _ _ so.service, so.bynumber, so.byservice)

  pub places_good :
      rising 0 (subscribed_services p) ≡ true → length p.services ≡ services_most →
      (j : ℕ) → j < places → grid_selects p r j ≡ true →
      CellSelected j
  places_good rises long j h chosen =
      let slot : ℕ = j % services_most in
      let has = selects_says j chosen in
      let counted : slot < length (subscribed_services p) = omega (arith, has.service, length-take p.servicecount p.services) in
      let above : 0 < get_or p.services slot 0 =
      rw (get_or-take p.servicecount p.services slot 0 has.service) at (rising_above 0 (subscribed_services p) slot rises counted) in
      let code : get_or (cell_places p r).codes j 0 ≡ get_or p.services slot 0 = rw (code_places j h, chosen) in
      record { number = has.number; service = has.service; code = code; some = λ none. omega (arith, above, code, none) }

  -- a code that is not 0 stands at a selected place
  pub places_only : (j : ℕ) → j < places → (get_or (cell_places p r).codes j 0 ≡ 0 → ⊥) → grid_selects p r j ≡ true
  places_only j h some =
      pick_first (grid_selects p r j) (get_or p.services (j % services_most) 0) 0 (λ none. some (code_places j h ∙ none))

  -- so a place is marked exactly if it is selected
  pub selected_selects :
      rising 0 (subscribed_services p) ≡ true → length p.services ≡ services_most →
      (j : ℕ) → j < places → grid_selected (cell_places p r) j ≡ grid_selects p r j
  selected_selects rises long j h =
      pick_ind (λ (_ : Bool). grid_selected (cell_places p r) j ≡ grid_selects p r j) (grid_selects p r j) {x = true} {y = true}
      (λ chosen. is_selected (cell_places p r) j (places_good rises long j h chosen).some ∙ sym chosen)
      (λ left. not_selected (cell_places p r) j (rw left at (code_places j h)) ∙ sym left)
