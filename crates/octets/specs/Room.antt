-- Whether octets have room: how every writer that is offered to all decides (`room` of laws), and how a reader sees that octets are there.
use Rattle.std.specs.Prelude.{ℕ, ◌+◌, ◌≡◌, Bool, List, length, leb}

-- what `has_room` promises: whether xs have `need` octets from `at` on
abbrev pub HasRoom : List ℕ → ℕ → ℕ → Bool → Type 0
HasRoom xs at need r = r ≡ leb (at + need) (length xs)
