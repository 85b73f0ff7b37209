use mathlib.Core.Path.{◌≡◌}
use lib.ListN.{drop}
use Rattle.instances.specs.Run.{forwarded_to}
use Rattle.instances.proofs.run.Run.find.Given as goal

abbrev pub invariant-loop-x : goal.invariant-loop-x
invariant-loop-x l =
    let find = forwarded_to l.key.procedure l.key.number l.key.service in
    find l.x-items ≡ find (drop l.x-index l.x-items)
