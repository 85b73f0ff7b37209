use mathlib.Core.Path.{◌≡◌}
use lib.ListN.{drop}
use Rattle.numbers.specs.Number.{digits_of}
use Rattle.rules.specs.Prefix.{begins_any}
use Rattle.rules.proofs.prefix.begins_any.Given as goal

abbrev pub invariant-loop-f : goal.invariant-loop-f
invariant-loop-f l = begins_any l.f-items (digits_of l.n) ≡ begins_any (drop l.f-index l.f-items) (digits_of l.n)
