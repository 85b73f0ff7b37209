use Prim.Native.Nat.{min}
use mathlib.Core.Path.{◌≡◌}
use Rattle.lists.specs.Entries.{instances_most}
use Rattle.end.proofs.Sorted.{array_from}
use Rattle.end.proofs.list.run_from.Given as goal

abbrev pub invariant-loop-i : goal.invariant-loop-i
invariant-loop-i l = (l.n ≡ min l.list.count instances_most) × (l.next.run ≡ array_from l.p l.list l.n l.i)
