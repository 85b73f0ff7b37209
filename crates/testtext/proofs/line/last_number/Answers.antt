use Rattle.std.proofs.Common.{rules}
use Rattle.testtext.proofs.Lines.{number_folded}
use Rattle.testtext.proofs.line.last_number.Goals as goal

pub returns : goal.returns
returns c = rw (← number_folded) (search rules)
