use borrow.Author.Tests.{le-leb, lt-leb}
use Rattle.numbers.specs.Number.{fair}
use Rattle.numbers.specs.Address.{octets_in}
use Rattle.numbers.proofs.Readers.{sub_made}
use Rattle.numbers.proofs.address.octets_in.Goals as goal
use Rattle.numbers.proofs.address.octets_in.Goals.{then-n-lt1-via-then-n-lt1, then-n-lt1-via-else-n-lt1+then-n-gt-MOST}

pub returns-then-n-lt1 : goal.returns-then-n-lt1
unfolding octets_in fair
returns-then-n-lt1 c =
    elim c.then-n-lt1.branch [
      | then-n-lt1-via-then-n-lt1 w ↦ rw (lt-leb _ _ w.if-n-lt1.true)
      | then-n-lt1-via-else-n-lt1+then-n-gt-MOST w ↦ rw (le-leb _ _ w.if-n-lt1.false, lt-leb _ _ w.if-n-gt-MOST.true)
    ]

pub returns : goal.returns
returns c =
    let a = c.args in
    sub_made a.s.now a.start a.stop c.requires.1 c.if-n-lt1.false c.if-n-gt-MOST.false _ c.padded_of.ensures
