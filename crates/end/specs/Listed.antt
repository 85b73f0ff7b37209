-- What the end makes of a list (document 01, "The customer end").
use Rattle.std.specs.Prelude.{ℕ, Bool, List, [], ◌∷◌, map}
use Rattle.laws.specs.Tests.{all}
use Rattle.profile.specs.Profile.{served_numbers, place_in}
use Rattle.profile.specs.declared.profile.Profile.{Profile}
use Rattle.lists.specs.declared.entry.Entry.{Entry}
use Rattle.instances.specs.Instance.{instance_of, every_number, every_service}
use Rattle.instances.specs.Run.{merged, deactivated, is_of, each_good, instances_good}
use Rattle.instances.specs.declared.instance.Instance.{Instance}
use Rattle.instances.specs.declared.instance.Selection.{Selection}

-- an entry's instance, its number by the place in the profile; a number that is not there has the place after the last
abbrev pub instance_for : Profile → Entry → Instance
instance_for p x = instance_of x.procedure (place_in p x.served (served_numbers p)) x.service x.address

-- entries come in any order
unfoldable pub sorted : List Instance → List Instance
sorted [] = []
sorted (x ∷ xs) = merged (x ∷ []) (sorted xs)

-- the instances of a list, ascending
unfoldable pub instances_listed : Profile → List Entry → List Instance
instances_listed p es = sorted (map (instance_for p) es)

-- a list is good if it has no "wrong procedure", and its instances obey the table's rules: at most 8, none repeated, numbers and services of
-- the profile, addresses that a table holds
unfoldable pub list_good : ℕ → Profile → ℕ → List Instance → Bool
list_good most p procedure is = all (each_good (is_of procedure) is ∷ instances_good most p is ∷ [])

-- every instance of a procedure
abbrev pub every_of : ℕ → Selection
every_of procedure = record { procedure = procedure; number = every_number; service = every_service }

-- "a good list replaces the picture": the procedure's instances make way for the list's
abbrev pub replaced : ℕ → List Instance → List Instance → List Instance
replaced procedure new is = merged new (deactivated (every_of procedure) is)
