use Rattle.refusals.specs.Refusal.{refusal_in}
use mathlib.Core.Path.{ap, ◌∙◌}
use Rattle.sconcetoad.proofs.desk.sconcetoad_deactivate.Goals as goal

pub returns : goal.returns
returns c = record {
  refusal = c.refusal_in.ensures ∙ ap refusal_in c.deactivate-sent.ensures.told;
  count = c.count_in.ensures ∙ c.deactivate-sent.ensures.count;
  end = c.deactivate-sent.ensures.end;
  lent = c.deactivate-sent.ensures.lent;
}
