use Rattle.exchange.proofs.Questions.{from_zero_fits}
use Rattle.exchange.proofs.Steps.{machine_below, machine_moves, after_stays}
use mathlib.Core.Path.{sym}
use Rattle.exchange.proofs.arrive.last_after.Goals as goal

pub returns-then-identifier-lt0 : goal.returns-then-identifier-lt0
returns-then-identifier-lt0 c =
    machine_below c.args.p c.args.identifier c.ranges.identifier c.args.last c.if-identifier-lt0.true

pub overflow_cast-result : goal.overflow_cast-result
overflow_cast-result c =
    from_zero_fits c.args.identifier c.ranges.identifier c.if-identifier-lt0.false

pub returns-then-p-eq1 : goal.returns-then-p-eq1
returns-then-p-eq1 c =
    machine_moves c.args.p c.args.identifier c.ranges.identifier c.args.last c.if-identifier-lt0.false c.if-p-eq1.true

pub returns : goal.returns
returns c =
    let a = c.args in sym (after_stays a.p a.identifier a.last c.if-p-eq1.false)
