use Rattle.rules.specs.Selection.{selection_of}
use Rattle.rules.proofs.selection.selection_of.Goals as goal

pub returns : goal.returns
unfolding selection_of
returns c = rw (← c.number_asked.ensures)
