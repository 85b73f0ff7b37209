use mathlib.Core.Path.{◌∙◌}
use Rattle.explanations.proofs.Rows.{number_tried}
use Rattle.explanations.proofs.row.operation_no.Goals as goal

pub returns : goal.returns
returns c = c.unwrap_or.ensures ∙ number_tried _ _ c.ranges.value c.try_from.ensures
