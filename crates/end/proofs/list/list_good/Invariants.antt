use mathlib.Core.Path.{◌≡◌}
use lib.ListN.{length}
use Rattle.profile.specs.Profile.{subscribed_services}
use Rattle.end.proofs.Judged.{Judged}
use Rattle.end.proofs.list.list_good.Given as goal

abbrev pub invariant-loop-x : goal.invariant-loop-x
invariant-loop-x l =
    (l.services ≡ length (subscribed_services l.p)) × Judged l.p l.procedure l.x-items l.below l.x-index
