use Rattle.groups.specs.inner.Groups.{LastAt}
use Rattle.groups.proofs.groups.last_group.Given as goal

abbrev pub invariant-loop-i : goal.invariant-loop-i
invariant-loop-i l = LastAt l.s l.at l.i l.i
