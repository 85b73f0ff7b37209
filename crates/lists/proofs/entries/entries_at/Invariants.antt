use Rattle.lists.proofs.Readers.{Reached}
use Rattle.lists.specs.Entries.{instances_most}
use Prim.Native.Nat.{◌-◌}
use Rattle.lists.proofs.entries.entries_at.Given as goal

abbrev pub invariant-loop-here : goal.invariant-loop-here
invariant-loop-here l = Reached instances_most l.s l.at l.end l.count l.here l.entries

abbrev pub decreases-loop-here : goal.decreases-loop-here
decreases-loop-here l = instances_most - l.count
