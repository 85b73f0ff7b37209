use Rattle.std.specs.Prelude.{Result, Ok}
use Rattle.refusals.specs.declared.refusal.Refusal.{Refusal}
use Rattle.end.specs.declared.show.Shown.{Shown}
use Rattle.sconcetoad.specs.Desk.{page_of}
use Rattle.end.specs.Shown.{shown_no}
use mathlib.Core.Path.{sym, ap, ◌∙◌}
use Rattle.sconcetoad.proofs.desk.page_of.Goals as goal

pub returns-in-Err : goal.returns-in-Err
returns-in-Err c = rw c.from.ensures (ap (λ (s : Result Shown Refusal). page_of (shown_no s)) (sym c.in-Err.is))

pub returns-in-Known : goal.returns-in-Known
returns-in-Known c = ap (λ (s : Result Shown Refusal). page_of (shown_no s)) (sym (c.in-Ok.is ∙ ap Ok c.in-Known.is))

pub returns-in-Doubt : goal.returns-in-Doubt
returns-in-Doubt c = ap (λ (s : Result Shown Refusal). page_of (shown_no s)) (sym (c.in-Ok.is ∙ ap Ok c.in-Doubt.is))
