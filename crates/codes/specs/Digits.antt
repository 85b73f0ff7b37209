-- What the characters and the type of a number may be (document 01, "Numbers").
use Rattle.std.specs.Prelude.{ℕ, ◌≡◌, Bool, not, List, [], ◌∷◌, map, leb, eqb}
use Rattle.laws.specs.Tests.{all}

-- "only 0 to 9": the characters 48 to 57
abbrev pub digit : ℕ → Bool
digit c = all (leb 48 c ∷ leb c 57 ∷ [])

unfoldable pub all_digits : List ℕ → Bool
all_digits cs = all (map digit cs)

-- "an enumerated type (0, 1, 2, 3, 4 or 6)"
unfoldable pub type_good : ℕ → Bool
type_good kind = all (leb kind 6 ∷ not (eqb kind 5) ∷ [])

-- what `all_digits` promises
abbrev pub AllDigits : List ℕ → Bool → Type 0
AllDigits s r = r ≡ all_digits s

-- what `type_good` promises
abbrev pub TypeGood : ℕ → Bool → Type 0
TypeGood kind r = r ≡ type_good kind
