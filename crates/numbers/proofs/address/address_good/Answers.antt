use borrow.Author.Tests.{le-leb, lt-leb}
use Rattle.laws.proofs.Picks.{pick_last}
use Rattle.numbers.specs.Address.{address_good}
use Rattle.numbers.proofs.address.address_good.Goals as goal

pub returns-then-a-le-MOST : goal.returns-then-a-le-MOST
unfolding address_good
returns-then-a-le-MOST c = rw (le-leb _ _ c.if-a-le-MOST.true, pick_last _) c.number_good.ensures

pub returns-else-a-le-MOST : goal.returns-else-a-le-MOST
unfolding address_good
returns-else-a-le-MOST c = rw (lt-leb _ _ c.if-a-le-MOST.false)
