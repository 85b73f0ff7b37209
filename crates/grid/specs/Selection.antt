-- Which places of a row a request selects, by its served number and its service (document 01, "Replies, in the order checked": "Served
-- number").
use Rattle.std.specs.Prelude.{ℕ, Bool, [], ◌∷◌, eqb, ltb, get_or}
use Rattle.laws.specs.Pick.{pick}
use Rattle.laws.specs.Places.{each_from}
use Rattle.laws.specs.Tests.{all, any}
use Rattle.requests.specs.declared.request.Request.{Request}
use Rattle.requests.specs.declared.request.Served.{Served}
use Rattle.profile.specs.Profile.{place_in, served_numbers}
use Rattle.profile.specs.declared.profile.Profile.{Profile}
use Rattle.grid.specs.Row.{Places, number_of_place, places, service_of_place}

-- "without MSN it's read but ignored": a number of the profile, by its place, is selected by all, or by its own name
unfoldable pub grid_number_chosen : Profile → Served → ℕ → Bool
grid_number_chosen p served k =
    any (eqb p.msn 0 ∷ eqb served.all 1 ∷ eqb (place_in p served.number (served_numbers p)) k ∷ [])

-- "code 0: all subscribed"
unfoldable pub grid_service_chosen : ℕ → ℕ → Bool
grid_service_chosen service code = any (eqb service 0 ∷ eqb service code ∷ [])

-- a place is selected if its number and its service are, and the profile has them
unfoldable pub grid_selects : Profile → Request → ℕ → Bool
grid_selects p r j =
    all
    (ltb (number_of_place j) p.numbercount
    ∷ ltb (service_of_place j) p.servicecount
    ∷ grid_number_chosen p r.served (number_of_place j)
    ∷ grid_service_chosen r.service (get_or p.services (service_of_place j) 0)
    ∷ [])

-- the procedure that a request names is the one that it concerns
abbrev pub grid_concerns : Request → ℕ → Bool
grid_concerns r procedure = eqb procedure r.procedure

-- the places that a request selects, each by the code of its service
unfoldable pub cell_places : Profile → Request → Places
cell_places p r = record {
  codes = each_from (λ j. pick (grid_selects p r j) (get_or p.services (service_of_place j) 0) 0) places 0;
}
