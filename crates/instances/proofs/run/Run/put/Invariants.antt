use Prim.Native.Nat.{◌+◌, ◌-◌, ◌≤◌}
use lib.ListN.{length, drop}
use Rattle.instances.specs.Instance.{blank_instance}
use Rattle.instances.specs.Places.{run_most}
use Rattle.instances.specs.Run.{activated_at}
use Rattle.laws.proofs.Filled.{Filled}
use Rattle.instances.proofs.run.Run.put.Given as goal

abbrev pub invariant-loop-k : goal.invariant-loop-k
invariant-loop-k l =
    (l.i ≤ length l.held) × (l.m ≤ length l.places) × (l.k ≤ run_most) ×
    Filled run_most blank_instance (activated_at l.sel l.address l.places l.held)
    (activated_at l.sel l.address (drop l.m l.places) (drop l.i l.held)) l.k l.next.run

abbrev pub decreases-loop-k : goal.decreases-loop-k
decreases-loop-k l = (length l.held - l.i) + (length l.places - l.m)
