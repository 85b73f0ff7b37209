-- Which instances a request selects (document 01, "Replies": "Served number").
use Rattle.std.specs.Prelude.{ℕ, ◌≡◌, eqb}
use Rattle.laws.specs.Pick.{pick}
use Rattle.profile.specs.Profile.{served_numbers, place_in}
use Rattle.profile.specs.declared.profile.Profile.{Profile}
use Rattle.requests.specs.declared.request.Served.{Served}
use Rattle.requests.specs.declared.request.Request.{Request}
use Rattle.instances.specs.Instance.{every_number}
use Rattle.instances.specs.declared.instance.Selection.{Selection}

-- "without MSN it's read but ignored": all numbers, or the one that is named, by its place in the profile
unfoldable pub number_asked : Profile → Served → ℕ
number_asked p served =
    pick (eqb p.msn 0) every_number
    (pick (eqb served.all 1) every_number (place_in p served.number (served_numbers p)))

-- "every selected number and service": the procedure that a request names, its number or all, its service or all
unfoldable pub selection_of : Profile → Request → Selection
selection_of p r = record {
  procedure = r.procedure;
  number = number_asked p r.served;
  service = r.service;
}

-- what `selection_of` promises
abbrev pub SelectionOf : Profile → Request → Selection → Type 0
SelectionOf p r sel = sel ≡ selection_of p r
