-- The promise of the crate skip admits one answer. Assumes nothing.
use Prim.Native.Nat.{ℕ}
use mathlib.Core.Path.{◌≡◌}
use mathlib.Core.List.{List}
use Rattle.std.specs.Prelude.{Option}
use Rattle.laws.proofs.Picks.{both}
use Rattle.skip.specs.Skip.{SkipAt}

pub only_skip_at : (s : List ℕ) (at end : ℕ) {a b : Option ℕ} → SkipAt s at end a → SkipAt s at end b → a ≡ b
only_skip_at s at end = both
