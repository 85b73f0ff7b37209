use lib.ListN.{take}
use Rattle.instances.specs.Run.{instances_of}
use Rattle.sheets.specs.inner.Write.{WroteInstances}
use Rattle.sheets.proofs.write.write_run.Given as goal

abbrev pub invariant-loop-x : goal.invariant-loop-x
invariant-loop-x l = WroteInstances l.initial.out l.at (take l.x-index (instances_of l.run)) l.p l.out
