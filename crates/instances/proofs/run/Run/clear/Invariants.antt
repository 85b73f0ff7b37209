use Prim.Native.Nat.{◌≤◌}
use lib.ListN.{drop}
use Rattle.instances.specs.Instance.{blank_instance}
use Rattle.instances.specs.Places.{run_most}
use Rattle.instances.specs.Run.{deactivated}
use Rattle.laws.proofs.Filled.{Filled}
use Rattle.instances.proofs.run.Run.clear.Given as goal

abbrev pub invariant-loop-x : goal.invariant-loop-x
invariant-loop-x l =
    (l.k ≤ l.x-index) ×
    Filled run_most blank_instance (deactivated l.sel l.x-items) (deactivated l.sel (drop l.x-index l.x-items)) l.k l.next.run
