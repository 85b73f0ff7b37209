use mathlib.Core.Path.{◌≡◌}
use lib.ListN.{length, drop}
use Rattle.instances.specs.inner.Few.{items_in}
use Rattle.instances.proofs.Listings.{entries_for}
use Rattle.instances.proofs.Picked.{entry_at, Picked, Listing}
use Rattle.instances.proofs.run.Run.put_listed.Given as goal

abbrev pub invariant-loop-i : goal.invariant-loop-i
invariant-loop-i l =
    Picked (entry_at l.numbers l.held) (entries_for l.numbers l.sel l.held) (entries_for l.numbers l.sel (drop l.i l.held)) l.i
    (items_in l.places) l.size

abbrev pub invariant-loop-place : goal.invariant-loop-place
invariant-loop-place l =
    (length l.out ≡ length l.initial.out) ×
    Listing (entry_at l.numbers l.held) l.place-items l.size l.initial.out l.initial.at l.place-index l.at l.out
