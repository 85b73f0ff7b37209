-- What a reader found, as its code answers it.
use Rattle.std.specs.Prelude.{Option, Some, None}
use Rattle.laws.specs.Got.{Got, got, wrong}
use Rattle.octets.specs.declared.found.Found.{Found}

-- a thing and the place after it; None where a definition says that it is nothing of the kind
abbrev pub found : {A : Type 0} → Got A → Option (Found A)
found (got a place) = Some (record { value = a; next = place })
found wrong = None

-- the thing alone
abbrev pub only_found : {A : Type 0} → Got A → Option A
only_found (got a place) = Some a
only_found wrong = None
