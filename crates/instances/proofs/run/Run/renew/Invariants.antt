use Prim.Native.Nat.{min}
use mathlib.Core.Path.{◌≡◌}
use lib.ListN.{length}
use Rattle.instances.specs.Instance.{blank_instance}
use Rattle.instances.specs.Places.{run_most}
use Rattle.instances.proofs.Renewals.{renewed_to}
use Rattle.instances.proofs.run.Run.renew.Given as goal

abbrev pub invariant-loop-i : goal.invariant-loop-i
invariant-loop-i l =
    (l.n ≡ min l.initial.next.count run_most) × (length l.initial.next.run ≡ run_most) × (l.none ≡ blank_instance) ×
    (l.next.run ≡ renewed_to l.sel l.address l.n l.initial.next.run l.i)
