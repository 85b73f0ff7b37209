use Prim.Native.Nat.{◌≤◌, min}
use mathlib.Core.Path.{◌≡◌}
use lib.ListN.{length}
use Rattle.lists.proofs.Measures.{Measured, Writing}
use Rattle.lists.specs.Entries.{instances_most}
use Rattle.lists.proofs.list.put_list.Given as goal

abbrev pub invariant-loop-i : goal.invariant-loop-i
invariant-loop-i l =
    (l.i ≤ l.n) × (l.n ≡ min l.list.count instances_most) × (length l.list.entries ≡ instances_most) × (length l.sizes ≡ instances_most) ×
    Measured l.list.entries l.i l.sizes l.size

abbrev pub invariant-loop-j : goal.invariant-loop-j
invariant-loop-j l =
    (length l.out ≡ length l.initial.out) × Writing l.list.entries l.n l.sizes l.size l.initial.out l.initial.at l.j l.at l.out
