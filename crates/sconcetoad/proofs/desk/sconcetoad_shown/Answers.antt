use Rattle.sconcetoad.specs.Desk.{page_of}
use mathlib.Core.Path.{ap, ◌∙◌}
use Rattle.sconcetoad.proofs.desk.sconcetoad_shown.Goals as goal

pub returns : goal.returns
returns c = c.page_of.ensures ∙ ap page_of c.shown-shown.ensures
