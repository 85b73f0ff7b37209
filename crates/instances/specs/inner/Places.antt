-- The numbers and services that a selection names, and the places of these.
use Rattle.std.specs.Prelude.{ℕ, zero, suc, List, [], ◌++◌, map, ltb, eqb}
use Rattle.laws.specs.Pick.{pick}
use Rattle.laws.specs.Those.{those}
use Rattle.instances.specs.Instance.{every_number, every_service, named}
use Rattle.instances.specs.Places.{place_for}
use Rattle.instances.specs.declared.places.Place.{Place}

-- how many of the first `many` numbers a selection names; a number goes by its place
abbrev pub numbers_named : ℕ → ℕ → ℕ
numbers_named asked many = pick (eqb asked every_number) many (pick (ltb asked many) 1 0)

-- the services that a selection names
abbrev pub services_named : ℕ → List ℕ → List ℕ
services_named asked services = those (named every_service asked) services

-- of `many` numbers, the first of which is `from`, those that are asked for, each with each of the services
unfoldable pub places_named : ℕ → List ℕ → ℕ → ℕ → List Place
places_named asked services zero from = []
places_named asked services (suc many) from =
    pick (named every_number asked from) (map (place_for from) services) [] ++ places_named asked services many (suc from)
