use borrow.Author.Rules.{rules}
use Rattle.std.proofs.iter.runs.Made.{chains}
use Rattle.instances.proofs.Choices.{those_count}
use Rattle.instances.proofs.run.Run.chosen_count.Goals as goal

pub returns : goal.returns
returns c = rw those_count (search (rules, chains))
