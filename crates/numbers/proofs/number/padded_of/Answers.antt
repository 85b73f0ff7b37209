use Rattle.numbers.proofs.Readers.{padded_over}
use Rattle.numbers.proofs.number.padded_of.Goals as goal

pub returns : goal.returns
returns c = padded_over c.requires c.put_all.ensures
