use mathlib.Core.Path.{◌≡◌}
use Prim.Native.Nat.{◌+◌}
use lib.ListN.{length}
use Rattle.laws.specs.Over.{over}
use Rattle.groups.specs.Groups.{groups}
use Rattle.groups.proofs.groups.write_groups.Given as goal

abbrev pub invariant-loop-rest : goal.invariant-loop-rest
invariant-loop-rest l =
    (length l.out ≡ length l.initial.out) × (l.p + length (groups l.rest) ≡ l.at + length (groups l.n))
    × (over l.out l.p (groups l.rest) ≡ over l.initial.out l.at (groups l.n))

abbrev pub decreases-loop-rest : goal.decreases-loop-rest
decreases-loop-rest l = l.rest
