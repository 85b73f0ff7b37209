use Rattle.texts.proofs.Pens.{pen_then}
use Rattle.texts.proofs.Words.{decimal_one}
use Rattle.listings.proofs.line.write_number.Goals as goal

pub returns-then-n-lt10 : goal.returns-then-n-lt10
returns-then-n-lt10 c = rw (decimal_one _ c.if-n-lt10.true) (pen_then c.write_text-p.ensures c.write_text.ensures)

pub returns : goal.returns
returns c = pen_then c.write_decimal-p.ensures c.write_text-2.ensures
