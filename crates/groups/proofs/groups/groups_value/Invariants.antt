use mathlib.Core.Path.{◌≡◌}
use Prim.Native.Nat.{◌+◌, ◌-◌}
use Rattle.groups.specs.inner.Groups.{groups_value}
use Rattle.groups.proofs.groups.groups_value.Given as goal

abbrev pub invariant-loop-i : goal.invariant-loop-i
invariant-loop-i l = l.v ≡ groups_value (l.k - l.i) l.s (l.at + l.i)
