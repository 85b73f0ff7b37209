-- The fewest octets, groups or the like that will do: how "shortest form" is said everywhere.
use Rattle.std.specs.Prelude.{ℕ, zero, suc, Bool}
use Rattle.laws.specs.Pick.{pick}

-- the first k from `from` on that will do, of at most `more` further ones; the last of them where none will
unfoldable pub fewest_from : (ℕ → Bool) → ℕ → ℕ → ℕ
fewest_from will zero from = from
fewest_from will (suc more) from = pick (will from) from (fewest_from will more (suc from))

-- the fewest that will do, of at most `most`
abbrev pub fewest : (ℕ → Bool) → ℕ → ℕ
fewest will most = fewest_from will most 0
