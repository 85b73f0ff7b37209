use mathlib.Core.Path.{◌≡◌}
use lib.ListN.{drop}
use Rattle.rules.specs.Judge.{selected_same}
use Rattle.rules.proofs.tests.selected_same.Given as goal

abbrev pub invariant-loop-k : goal.invariant-loop-k
invariant-loop-k l = selected_same l.fn.p l.asked l.to 0 l.numbers ≡ selected_same l.fn.p l.asked l.to l.k (drop l.k l.numbers)
