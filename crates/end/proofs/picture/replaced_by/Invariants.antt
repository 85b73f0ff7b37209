use Rattle.std.proofs.Common.{◌++◌, drop}
use Rattle.instances.specs.Run.{instances_of, packed}
use Rattle.end.proofs.Replaced.{Adding}
use Rattle.end.proofs.picture.replaced_by.Given as goal

abbrev pub invariant-loop-x : goal.invariant-loop-x
invariant-loop-x l = Adding (packed (instances_of l.initial.next ++ l.new)) (drop l.x-index l.new) l.next
