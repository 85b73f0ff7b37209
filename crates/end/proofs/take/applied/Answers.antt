use Rattle.end.specs.End.{closed}
use Rattle.end.proofs.Movings.{applied_passes}
use mathlib.Core.Path.{◌∙◌}
use Rattle.end.proofs.take.applied.Goals as goal

pub returns-in-Ok : goal.returns-in-Ok
unfolding closed
returns-in-Ok c =
    rw c.apply_request-e.ensures at c.restored.ensures
    ∙ applied_passes c.args.p c.args.e.now _ c.judge_request.ensures.verdict _ c.in-Ok.is
