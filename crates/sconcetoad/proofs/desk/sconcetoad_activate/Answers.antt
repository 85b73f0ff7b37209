use Rattle.refusals.specs.Refusal.{refusal_in}
use mathlib.Core.Path.{ap, ◌∙◌}
use Rattle.sconcetoad.proofs.desk.sconcetoad_activate.Goals as goal

pub returns : goal.returns
returns c = record {
  refusal = c.refusal_in.ensures ∙ ap refusal_in c.activate-sent.ensures.told;
  count = c.count_in.ensures ∙ c.activate-sent.ensures.count;
  end = c.activate-sent.ensures.end;
  lent = c.activate-sent.ensures.lent;
}
