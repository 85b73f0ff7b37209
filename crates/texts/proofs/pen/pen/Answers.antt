use Rattle.texts.proofs.Pens.{pen_one, pen_past}
use Rattle.texts.proofs.pen.pen.Goals as goal

pub returns-then-at-out : goal.returns-then-at-out
returns-then-at-out c = pen_one _ _ _ c.if-at-out.true

pub returns : goal.returns
returns c = pen_past _ _ _ c.if-at-out.false
