use native.Mathlib.Omega.{arith}
use borrow.Author.Rules.{rules}
use Rattle.groups.proofs.GroupTurns.{size_more, size_last}
use Rattle.groups.proofs.GroupLaws.{groups_length}
use Rattle.groups.proofs.groups.groups_size.Goals as goal

pub overflow_add-k : goal.overflow_add-k
overflow_add-k c = omega (arith, groups_length 4 c.args.n (omega arith))

pub loop-rest-preserved : goal.loop-rest-preserved
loop-rest-preserved c = (search rules, size_more _ _ _ c.loop-rest-test.true c.loop-rest.invariant.1)

pub returns : goal.returns
returns c = omega (arith, size_last _ _ _ c.loop-rest-test.false c.loop-rest.invariant.1)
