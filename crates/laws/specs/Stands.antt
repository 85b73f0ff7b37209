-- Octets that stand at a place of others: what every round trip is said over.
use Rattle.std.specs.Prelude.{ℕ, ◌+◌, ◌<◌, ◌≡◌, List, length, get_or}

unfoldable pub Stands : List ℕ → ℕ → List ℕ → Type 0
Stands s at ws = (i : ℕ) → i < length ws → get_or s (at + i) 0 ≡ get_or ws i 0
