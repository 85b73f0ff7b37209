use mathlib.Core.Path.{◌≡◌}
use lib.ListN.{drop}
use Rattle.instances.specs.Run.{ascending}
use Rattle.instances.proofs.Tallies.{Tallied}
use Rattle.instances.proofs.run.Run.ordered.Given as goal

abbrev pub invariant-loop-x : goal.invariant-loop-x
invariant-loop-x l =
    (ascending 0 l.x-items ≡ ascending l.under (drop l.x-index l.x-items)) × Tallied l.x-items (drop l.x-index l.x-items) l.counts
