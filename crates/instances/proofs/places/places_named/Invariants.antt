use Prim.Native.Nat.{◌+◌, ◌*◌, ◌≤◌}
use mathlib.Core.Path.{◌≡◌}
use mathlib.Core.List.{◌++◌}
use lib.ListN.{length}
use Rattle.profile.specs.Profile.{services_most}
use Rattle.instances.specs.inner.Few.{items_in}
use Rattle.instances.specs.inner.Places.{places_named}
use Rattle.instances.proofs.Placings.{places_left, row_left}
use Rattle.instances.proofs.places.places_named.Given as goal

abbrev pub invariant-loop-service : goal.invariant-loop-service
invariant-loop-service l =
    (length (items_in l.places) ≤ l.a * services_most + l.service-index) ×
    (items_in l.places ++ (row_left l.services l.a l.service-index ++ places_left l.asked l.services l.numbers (l.a + 1)) ≡
    places_named l.asked l.services l.numbers 0)

abbrev pub invariant-loop-a : goal.invariant-loop-a
invariant-loop-a l =
    (length (items_in l.places) ≤ l.a * services_most) ×
    (items_in l.places ++ places_left l.asked l.services l.numbers l.a ≡ places_named l.asked l.services l.numbers 0)
