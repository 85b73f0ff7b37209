use Rattle.explanations.specs.Text.{argument_text}
use Rattle.texts.proofs.Pens.{pen_then}
use Rattle.explanations.proofs.request.write_argument.Goals as goal

pub returns : goal.returns
unfolding argument_text
returns c =
    pen_then (pen_then (pen_then (pen_then (pen_then
    c.write_procedure-p.ensures
    c.write_text-q.ensures)
    (rw c.from.ensures at c.write_decimal-k.ensures))
    c.write_text-m.ensures)
    c.write_served-t.ensures)
    c.write_to.ensures
