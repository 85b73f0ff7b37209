use Rattle.exchange.proofs.Questions.{below_zero, from_zero, from_zero_fits}
use Rattle.exchange.proofs.question.not_above.Goals as goal

pub returns-then-identifier-lt0 : goal.returns-then-identifier-lt0
returns-then-identifier-lt0 c =
    let a = c.args in below_zero a.identifier c.ranges.identifier a.last c.if-identifier-lt0.true

pub overflow_cast-result : goal.overflow_cast-result
overflow_cast-result c = from_zero_fits c.args.identifier c.ranges.identifier c.if-identifier-lt0.false

pub returns : goal.returns
returns c =
    let a = c.args in from_zero a.identifier c.ranges.identifier a.last c.if-identifier-lt0.false
