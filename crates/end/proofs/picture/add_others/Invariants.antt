use Rattle.std.proofs.Common.{◌++◌, drop}
use Rattle.instances.specs.Run.{instances_of, packed}
use Rattle.end.proofs.Replaced.{Adding, others}
use Rattle.end.proofs.picture.add_others.Given as goal

abbrev pub invariant-loop-x : goal.invariant-loop-x
invariant-loop-x l =
    Adding (packed (instances_of l.initial.next ++ others l.procedure l.instances)) (others l.procedure (drop l.x-index l.instances)) l.next
