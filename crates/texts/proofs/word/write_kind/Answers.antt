use Rattle.texts.proofs.Words.{kind_unknown, kind_public}
use Rattle.texts.proofs.Pens.{pen_then}
use Rattle.texts.proofs.word.write_kind.Goals as goal

pub returns-then-form-eq-UNKNOWN : goal.returns-then-form-eq-UNKNOWN
returns-then-form-eq-UNKNOWN c = rw (kind_unknown _ _ c.if-form-eq-UNKNOWN.true) c.write_text.ensures

pub returns : goal.returns
returns c =
    rw (kind_public _ _ c.if-form-eq-UNKNOWN.false) (pen_then
    c.write_text-p.ensures (pen_then
    (rw c.from.ensures at c.write_decimal-q.ensures) c.write_text-2.ensures))
