use mathlib.Core.Path.{sym, ◌∙◌}
use native.Mathlib.Omega.{arith}
use Rattle.instances.proofs.Choices.{find_here, find_on, find_none}
use Rattle.instances.proofs.Runs.{next_of, none_of, outside}
use Rattle.instances.proofs.run.Run.find.Goals as goal

pub returns-then-is_at : goal.returns-then-is_at
returns-then-is_at c =
    let l = c.loop-x in
    let k = c.args.key in
    let on = next_of c.instances-x-items.result.now l.x-index outside (omega arith) in
    let here = find_here k.procedure k.number k.service _ _ _ on (sym c.is_at.ensures ∙ c.if-is_at.true) in
    rw (← c.instances-x-items.ensures.held, l.invariant ∙ here)

pub loop-x-preserved : goal.loop-x-preserved
loop-x-preserved c =
    let l = c.loop-x in
    let k = c.args.key in
    let on = next_of c.instances-x-items.result.now l.x-index outside (omega arith) in
    l.invariant ∙ find_on k.procedure k.number k.service _ _ _ on (sym c.is_at.ensures ∙ c.if-is_at.false)

pub returns : goal.returns
returns c =
    let l = c.loop-x in
    let k = c.args.key in
    let none = find_none k.procedure k.number k.service _ (none_of c.instances-x-items.result.now l.x-index (omega arith)) in
    rw (← c.instances-x-items.ensures.held, l.invariant ∙ none)
