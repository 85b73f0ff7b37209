use Prim.Native.Nat.{◌≤◌}
use mathlib.Core.Path.{◌≡◌}
use lib.ListN.{drop}
use Rattle.instances.specs.Instance.{instance_good}
use Rattle.instances.proofs.Orders.{sound}
use Rattle.instances.proofs.Blocks.{Blocks}
use Rattle.instances.proofs.run.Run.good.Given as goal

abbrev pub invariant-loop-i : goal.invariant-loop-i
invariant-loop-i l =
    (l.from ≤ l.i) ×
    (sound (instance_good l.fn.p) 0 l.held ≡ sound (instance_good l.fn.p) l.below (drop l.i l.held)) ×
    Blocks l.fn.p.subscribed l.held (drop l.i l.held) l.beyond l.from l.below l.i
