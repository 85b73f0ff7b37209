-- The promise of the crate reader admits one answer. Assumes nothing.
use Prim.Native.Nat.{ℕ}
use mathlib.Core.Path.{◌≡◌}
use mathlib.Core.List.{List}
use Rattle.std.specs.Prelude.{Option}
use Rattle.laws.proofs.Picks.{both}
use Rattle.octets.specs.declared.head.Head.{Head}
use Rattle.reader.specs.Reader.{OneElement}

pub only_one_element : (depth : ℕ) (s : List ℕ) {a b : Option Head} → OneElement depth s a → OneElement depth s b → a ≡ b
only_one_element depth s = both
