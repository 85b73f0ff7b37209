use Rattle.refusals.specs.Refusal.{refusal_in}
use mathlib.Core.Path.{ap, ◌∙◌}
use Rattle.sconcetoad.proofs.desk.sconcetoad_interrogate.Goals as goal

pub returns : goal.returns
returns c = record {
  refusal = c.refusal_in.ensures ∙ ap refusal_in c.interrogate-sent.ensures.told;
  count = c.count_in.ensures ∙ c.interrogate-sent.ensures.count;
  end = c.interrogate-sent.ensures.end;
  lent = c.interrogate-sent.ensures.lent;
}
