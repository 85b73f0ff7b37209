use Prim.Native.Nat.{◌≤◌}
use lib.ListN.{drop}
use Rattle.lists.specs.Entry.{no_entry}
use Rattle.lists.specs.Entries.{instances_most}
use Rattle.laws.proofs.Filled.{Filled}
use Rattle.instances.proofs.Listings.{entries_for}
use Rattle.instances.proofs.run.Run.entries.Given as goal

abbrev pub invariant-loop-x : goal.invariant-loop-x
invariant-loop-x l =
    (l.k ≤ instances_most) ×
    Filled instances_most no_entry (entries_for l.numbers l.sel l.x-items) (entries_for l.numbers l.sel (drop l.x-index l.x-items)) l.k l.list.entries
