use Rattle.refusals.specs.Refusal.{refusal_in}
use mathlib.Core.Path.{ap, ◌∙◌}
use Rattle.sconcetoad.proofs.desk.sconcetoad_give_up.Goals as goal

pub returns : goal.returns
returns c =
    record {
      refusal = c.refusal_in.ensures
          ∙ ap refusal_in c.give_up-moved.ensures.told;
      end = c.give_up-moved.ensures.end;
    }
