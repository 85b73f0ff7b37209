use Rattle.laws.proofs.Over.{wrote_two}
use native.Mathlib.Omega.{arith}
use lib.ListN.{length-set}
use Rattle.lists.proofs.list.write_short.Goals as goal

pub bounds-out-at-2 : goal.bounds-out-at-2
bounds-out-at-2 c = omega (arith, c.requires, length-set c.args.out.now c.args.at c.args.tag)

pub returns : goal.returns
returns c = wrote_two c.args.out.now c.args.at c.args.tag c.args.n
