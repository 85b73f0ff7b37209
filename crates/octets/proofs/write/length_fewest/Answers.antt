use Rattle.octets.specs.Element.{length_holds}
use Rattle.laws.proofs.Fewest.{fewest_step, fewest_none}
use Rattle.octets.proofs.Lengths.{fewest_short, fewest_long}
use borrow.Author.Tests.{lt-ltb, le-ltb}
use mathlib.Core.Path.{sym}
use Rattle.octets.proofs.write.length_fewest.Goals as goal

pub returns-then-n-lt128 : goal.returns-then-n-lt128
returns-then-n-lt128 c = sym (fewest_short c.args.n c.if-n-lt128.true)

pub returns-then-n-lt256 : goal.returns-then-n-lt256
unfolding length_holds
returns-then-n-lt256 c =
    let n = c.args.n in
    rw (fewest_long n c.if-n-lt128.false, fewest_step (length_holds n) 0 1, lt-ltb n 256 c.if-n-lt256.true)

pub returns-else-n-lt256 : goal.returns-else-n-lt256
unfolding length_holds
returns-else-n-lt256 c =
    let n = c.args.n in
    rw (fewest_long n c.if-n-lt128.false, fewest_step (length_holds n) 0 1, le-ltb n 256 c.if-n-lt256.false, fewest_none (length_holds n) 2)
