-- Octets that must stay as they were.
use Rattle.std.specs.Prelude.{ℕ, ◌≡◌, Bool, true, List, length, get_or, ltb, eqb}
use Rattle.laws.specs.Pick.{pick}
use Rattle.laws.specs.Places.{every_to}

-- whether x, at the place i, is `octet` or stands from `from` up to `to`
unfoldable pub octet_passes : ℕ → ℕ → ℕ → ℕ → ℕ → Bool
octet_passes i x from to octet = pick (ltb i from) (eqb x octet) (pick (ltb i to) true (eqb x octet))

-- what `all_outside` promises
abbrev pub AllOutside : List ℕ → ℕ → ℕ → ℕ → Bool → Type 0
AllOutside s from to octet r = r ≡ every_to (λ i. octet_passes i (get_or s i 0) from to octet) (length s)
