use Prim.Native.Nat.{◌+◌, ◌≤◌}
use mathlib.Core.Path.{◌≡◌}
use lib.ListN.{length, drop}
use Rattle.instances.specs.Run.{listed, deactivated, count_of}
use Rattle.instances.proofs.run.Run.count_after.Given as goal

abbrev pub invariant-loop-x : goal.invariant-loop-x
invariant-loop-x l =
    (l.found ≤ l.x-index) × (l.others ≤ l.x-index) ×
    (l.found + length (listed l.sel (drop l.x-index l.x-items)) ≡ length (listed l.sel l.x-items)) ×
    (l.others + count_of l.sel.procedure (deactivated l.sel (drop l.x-index l.x-items)) ≡
    count_of l.sel.procedure (deactivated l.sel l.x-items))
