use lib.ListN.{drop}
use Rattle.texts.proofs.Pens.{Going}
use Rattle.listings.specs.Listing.{instance_lines}
use Rattle.listings.proofs.line.write_lines.Given as goal

abbrev pub invariant-loop-x : goal.invariant-loop-x
invariant-loop-x l = Going l.initial.out l.at (instance_lines l.instances) l.out l.p (instance_lines (drop l.x-index l.instances))
