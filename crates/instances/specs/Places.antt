-- The places of a profile: each number with each service (document 01, "Profile and table").
use Rattle.std.specs.Prelude.{ℕ, zero, suc, ◌*◌, min, ◌≡◌, Bool, List, [], ◌++◌, map, length}
use Rattle.laws.specs.Those.{those}
use Rattle.lists.specs.Entries.{instances_most}
use Rattle.profile.specs.Profile.{served_numbers, subscribed_services}
use Rattle.profile.specs.declared.profile.Profile.{Profile}
use Rattle.instances.specs.Instance.{procedures, selected}
use Rattle.instances.specs.declared.instance.Selection.{Selection}
use Rattle.instances.specs.declared.places.Place.{Place}

-- "at most 8 for each procedure", so this many in all; a profile has no more places
abbrev pub run_most : ℕ
run_most = procedures * instances_most

abbrev pub place_for : ℕ → ℕ → Place
place_for number service = record { number = number; service = service }

-- the places of `many` numbers, the first of which is `from`: by number, then service code
unfoldable pub places_from : List ℕ → ℕ → ℕ → List Place
places_from services zero from = []
places_from services (suc many) from = map (place_for from) services ++ places_from services many (suc from)

-- "every selected number and service (code 0: all subscribed)"
abbrev pub picks : Selection → Place → Bool
picks sel w = selected sel w.number w.service

unfoldable pub places_of : Profile → Selection → List Place
places_of p sel = those (picks sel) (places_from (subscribed_services p) (length (served_numbers p)) 0)

-- what `stored` promises: a count that says more than there is room for means all that there is
abbrev pub Stored : ℕ → ℕ → ℕ → Type 0
Stored count size r = r ≡ min count size
