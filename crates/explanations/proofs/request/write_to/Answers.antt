use Rattle.explanations.specs.Text.{to_text}
use borrow.Author.Tests.{eq-eqb, ne_eqb}
use Rattle.texts.proofs.Pens.{pen_none, pen_then}
use Rattle.explanations.proofs.request.write_to.Goals as goal

pub returns-then-operation-ne-ACTIVATIONNO : goal.returns-then-operation-ne-ACTIVATIONNO
unfolding to_text
returns-then-operation-ne-ACTIVATIONNO c = rw (ne_eqb _ _ c.if-operation-ne-ACTIVATIONNO.true) pen_none

pub returns : goal.returns
unfolding to_text
returns c =
    rw (eq-eqb _ _ c.if-operation-ne-ACTIVATIONNO.false)
    (pen_then (pen_then (pen_then
    c.write_text-p.ensures
    c.write_number-q.ensures)
    c.write_text-k.ensures)
    c.write_subaddress.ensures)
