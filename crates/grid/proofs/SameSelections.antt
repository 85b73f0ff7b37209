-- A request selects the same places of a grid as of a run: the number that it asks for, and its service. Assumes nothing.
use Prim.Native.Nat.{◌<◌, ℕ}
use mathlib.Core.Bool.{false, true}
use mathlib.Core.Path.{◌∙◌, ◌≡◌, ap, sym}
use native.Mathlib.Omega.{arith}
use lib.Dec.{eqb}
use lib.ListN.{get_or}
use borrow.Author.Tests.{eqb-false, eqb-true, lt-ltb}
use Rattle.laws.proofs.Picks.{by_bool, pick_last}
use Rattle.requests.specs.declared.request.Request.{Request}
use Rattle.profile.specs.Profile.{served_numbers}
use Rattle.profile.specs.declared.profile.Profile.{Profile}
use Rattle.profile.proofs.Profiles.{place_most}
use Rattle.instances.specs.Instance.{concerns, every_number, every_service, named, selected}
use Rattle.instances.specs.declared.instance.Selection.{Selection}
use Rattle.instances.proofs.Choices.{concerns_is, concerns_own, named_every, named_one}
use Rattle.instances.proofs.Finds.{has_place}
use Rattle.instances.proofs.Founds.{selected_is}
use Rattle.rules.specs.Selection.{number_asked, selection_of}
use Rattle.rules.proofs.Selections as asked
use Rattle.grid.specs.Row.{grid_selected, number_of_place, places, service_of_place}
use Rattle.grid.specs.Selection.{cell_places, grid_number_chosen, grid_selects, grid_service_chosen}
use Rattle.grid.proofs.ProfilePlaces.{WholeProfile, has_place_lem, numbers_many, place_at, rules}
use Rattle.grid.proofs.Selections.{number_all, number_ignored, number_one, selected_selects, service_all, service_one}

module _ (p : Profile) (whole : WholeProfile p) (r : Request) where
  abbrev sel : Selection
  sel = selection_of p r

  -- ---- the number and the service

  pub number_same : (k : ℕ) → grid_number_chosen p r.served k ≡ named every_number (number_asked p r.served) k
  number_same k =
      let one : ℕ = number_asked p r.served in
      let every : one ≡ every_number → named every_number one k ≡ true = named_every every_number one k in
      by_bool (grid_number_chosen p r.served k ≡ named every_number one k) (eqb p.msn 0)
      (λ e.
      let ignored = eqb-true p.msn 0 e in
      number_ignored p r.served k ignored ∙ sym (every (asked.number_ignored p r.served ignored)))
      (λ e.
      let msn = eqb-false p.msn 0 e in
      by_bool (grid_number_chosen p r.served k ≡ named every_number one k) (eqb r.served.all 1)
      (λ f.
      let all = eqb-true r.served.all 1 f in
      number_all p r.served k msn all ∙ sym (every (asked.number_all p r.served msn all)))
      (λ f.
      let single = eqb-false r.served.all 1 f in
      let is = asked.number_one p r.served msn single in
      let low = place_most p r.served.number (served_numbers p) in
      number_one p r.served k msn single
      ∙ ap (λ (n : ℕ). eqb n k) (sym is)
      ∙ sym (named_one every_number one k (λ h. omega (arith, h, is, low, numbers_many p whole, (rules p whole).few)))))

  service_same : (code : ℕ) → grid_service_chosen r.service code ≡ named every_service r.service code
  service_same code =
      by_bool (grid_service_chosen r.service code ≡ named every_service r.service code) (eqb r.service 0)
      (λ e.
      let every = eqb-true r.service 0 e in
      service_all r.service code every ∙ sym (named_every every_service r.service code every))
      (λ e.
      let single = eqb-false r.service 0 e in
      service_one r.service code single ∙ sym (named_one every_service r.service code single))

  -- ---- places

  -- a place of the profile is selected exactly if its number and its service are
  selects_same :
      (j : ℕ) → number_of_place j < p.numbercount → service_of_place j < p.servicecount →
      grid_selects p r j ≡ selected sel (number_of_place j) (get_or p.services (service_of_place j) 0)
  unfolding grid_selects
  selects_same j number slot =
      let code : ℕ = get_or p.services (service_of_place j) 0 in
      rw (
        lt-ltb _ _ number,
        lt-ltb _ _ slot,
        number_same (number_of_place j),
        service_same code,
        pick_last (named every_service r.service code),
        selected_is sel (number_of_place j) code,
        asked.selection_number p r,
        asked.selection_service p r,
      )

  pub marks_same :
      (j : ℕ) → j < places → number_of_place j < p.numbercount → service_of_place j < p.servicecount →
      grid_selected (cell_places p r) j ≡ selected sel (number_of_place j) (get_or p.services (service_of_place j) 0)
  marks_same j lt number slot =
      selected_selects p r (rules p whole).rises whole.services j lt ∙ selects_same j number slot

  -- so is the place of a number and a service
  pub marked_place :
      (n s : ℕ) → has_place p n s ≡ true → grid_selected (cell_places p r) (place_at p n s) ≡ selected sel n s
  marked_place n s h =
      let place = has_place_lem p whole n s h in
      marks_same (place_at p n s) place.inside (omega (arith, place.numbered, place.number))
      (omega (arith, place.slotted, place.slot))
      ∙ ap (λ (k : ℕ). selected sel k (get_or p.services (service_of_place (place_at p n s)) 0)) place.numbered
      ∙ ap (selected sel n) place.service

  -- ---- the procedure

  pub concerned : (q : ℕ) → q ≡ r.procedure → concerns sel q ≡ true
  concerned q e = ap (concerns sel) (e ∙ sym (asked.selection_procedure p r)) ∙ concerns_own sel

  pub unconcerned : (q : ℕ) → (q ≡ r.procedure → ⊥) → concerns sel q ≡ false
  unconcerned q other =
      by_bool (concerns sel q ≡ false) (concerns sel q)
      (λ e. absurd (other (concerns_is sel q e ∙ asked.selection_procedure p r)))
      (λ e. e)
