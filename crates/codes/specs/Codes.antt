-- The codes of document 01, "Profile and table", and of EN 300 207-1, clause 7.1.
use Rattle.std.specs.Prelude.{ℕ, suc, ◌≡◌, Bool, true, List, [], ◌∷◌, length, get_or, ltb, eqb}
use Rattle.laws.specs.Pick.{pick}
use Rattle.laws.specs.Tests.{all, any}

-- "a table of sixteen codes besides 0, all services: 1 to 5 and 32 to 42"
abbrev pub services : List ℕ
services = 1 ∷ 2 ∷ 3 ∷ 4 ∷ 5 ∷ 32 ∷ 33 ∷ 34 ∷ 35 ∷ 36 ∷ 37 ∷ 38 ∷ 39 ∷ 40 ∷ 41 ∷ 42 ∷ []

-- the reasons on the trunk, at the place of our own: "busy is 1, no reply 2, unconditional 3"; 0 is unknown
abbrev pub trunk_reasons : List ℕ
trunk_reasons = 0 ∷ 3 ∷ 1 ∷ 2 ∷ []

-- the first place at which a code stands; the length where it stands nowhere
unfoldable pub place_of : ℕ → List ℕ → ℕ
place_of code [] = 0
place_of code (x ∷ xs) = pick (eqb x code) 0 (suc (place_of code xs))

-- each code is above the one before it, the first above `below`: the ascending rule as a test
unfoldable pub ascends : ℕ → List ℕ → Bool
ascends below [] = true
ascends below (x ∷ xs) = all (ltb below x ∷ ascends x xs ∷ [])

-- no code stands twice, as a test
unfoldable pub apart : List ℕ → Bool
apart [] = true
apart (x ∷ xs) = all (eqb (place_of x xs) (length xs) ∷ apart xs ∷ [])

-- whether a request may name a service: one of the sixteen, or 0, all of them
unfoldable pub service_code : ℕ → Bool
service_code code = any (eqb code 0 ∷ ltb (place_of code services) (length services) ∷ [])

-- "procedure cfu 0, cfb 1, cfnr 2"
unfoldable pub procedure_code : ℕ → Bool
procedure_code code = ltb code 3

-- "Operations: activation 7, deactivation 8, interrogation 11."
abbrev pub activation : ℕ
activation = 7

abbrev pub deactivation : ℕ
deactivation = 8

abbrev pub interrogation : ℕ
interrogation = 11

-- what `service_place` promises
abbrev pub ServicePlace : ℕ → ℕ → Type 0
ServicePlace code r = r ≡ place_of code services

-- what `trunkreason` promises: an unlisted reason is unknown
abbrev pub TrunkReason : ℕ → ℕ → Type 0
TrunkReason reason r = r ≡ get_or trunk_reasons reason 0

-- what `service_code` promises
abbrev pub ServiceCode : ℕ → Bool → Type 0
ServiceCode code r = r ≡ service_code code
