use Prim.Native.Nat.{◌≤◌}
use mathlib.Core.Path.{◌≡◌}
use mathlib.Core.List.{◌++◌}
use lib.ListN.{length, drop}
use Rattle.instances.specs.inner.Few.{items_in}
use Rattle.instances.specs.inner.Places.{services_named}
use Rattle.instances.proofs.places.services_named.Given as goal

abbrev pub invariant-loop-code : goal.invariant-loop-code
invariant-loop-code l =
    (length (items_in l.named) ≤ l.code-index) ×
    (items_in l.named ++ services_named l.service (drop l.code-index l.codes) ≡ services_named l.service l.codes)
