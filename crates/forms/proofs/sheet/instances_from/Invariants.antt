use Rattle.forms.proofs.Instances.{Going}
use Rattle.forms.proofs.sheet.instances_from.Given as goal

abbrev pub invariant-loop-i : goal.invariant-loop-i
invariant-loop-i l = Going l.f l.s l.at l.count l.i l.here l.run.run
