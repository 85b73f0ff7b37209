use Rattle.std.proofs.Common.{sym}
use Rattle.std.proofs.lemmas.List.{length-take-le}
use Rattle.explanations.proofs.Components.{explains_within}
use Rattle.explain.proofs.told.Goals as goal

pub slice_bounds-out-end : goal.slice_bounds-out-end
slice_bounds-out-end g c = explains_within (rw c.in-Ok.is at c.explain.ensures)

pub slice_bounds-say-end : goal.slice_bounds-say-end
slice_bounds-say-end g c = sym (length-take-le _ _ (explains_within (rw c.in-Ok.is at c.explain.ensures)))
