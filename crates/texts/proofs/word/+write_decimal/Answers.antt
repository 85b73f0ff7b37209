use Rattle.std.proofs.Common.{arith}
use Rattle.texts.proofs.Words.{decimal_one, decimal_more}
use Rattle.texts.proofs.Pens.{pen_then}
use Rattle.texts.proofs.word.+write_decimal.Goals as goal

pub returns-then-n-lt10 : goal.returns-then-n-lt10
returns-then-n-lt10 t c = rw (decimal_one _ c.if-n-lt10.true) c.pen.ensures

pub returns : goal.returns
returns t c =
    rw (decimal_more _ c.if-n-lt10.false (omega (arith, c.ranges.n)))
    (pen_then c.write_decimal-p.ensures c.pen-2.ensures)
