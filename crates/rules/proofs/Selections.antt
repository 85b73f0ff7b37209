-- Laws of the selection that a request makes, over plain values. Assumes nothing.
use mathlib.Core.Path.{◌≡◌, refl}
use borrow.Author.Tests.{eq-eqb, ne_eqb}
use Rattle.profile.specs.Profile.{served_numbers, place_in}
use Rattle.profile.specs.declared.profile.Profile.{Profile}
use Rattle.requests.specs.declared.request.Served.{Served}
use Rattle.requests.specs.declared.request.Request.{Request}
use Rattle.instances.specs.Instance.{every_number}
use Rattle.rules.specs.Selection.{number_asked, selection_of}

-- ---- what is selected

module _ (p : Profile) (r : Request) where
  pub selection_procedure : (selection_of p r).procedure ≡ r.procedure
  unfolding selection_of
  selection_procedure = refl

  pub selection_number : (selection_of p r).number ≡ number_asked p r.served
  unfolding selection_of
  selection_number = refl

  pub selection_service : (selection_of p r).service ≡ r.service
  unfolding selection_of
  selection_service = refl

-- ---- the number that is asked for

module _ (p : Profile) (s : Served) where
  pub number_ignored : p.msn ≡ 0 → number_asked p s ≡ every_number
  unfolding number_asked
  number_ignored ignored = rw (eq-eqb p.msn 0 ignored)

  pub number_all : (p.msn ≡ 0 → ⊥) → s.all ≡ 1 → number_asked p s ≡ every_number
  unfolding number_asked
  number_all msn all = rw (ne_eqb p.msn 0 msn, eq-eqb s.all 1 all)

  pub number_one :
      (p.msn ≡ 0 → ⊥) → (s.all ≡ 1 → ⊥) → number_asked p s ≡ place_in p s.number (served_numbers p)
  unfolding number_asked
  number_one msn one = rw (ne_eqb p.msn 0 msn, ne_eqb s.all 1 one)
