use Rattle.requests.specs.Request.{privates}
use mathlib.Core.Path.{◌≡◌}
use Prim.Native.Nat.{◌-◌}
use Rattle.requests.proofs.argument.only_privates.Given as goal

abbrev pub invariant-loop-here : goal.invariant-loop-here
invariant-loop-here l = privates l.s l.at l.end ≡ privates l.s l.here l.end

abbrev pub decreases-loop-here : goal.decreases-loop-here
decreases-loop-here l = l.end - l.here
