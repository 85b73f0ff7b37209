use Rattle.explanations.specs.Text.{number_text}
use borrow.Author.Tests.{eq-eqb, ne_eqb}
use Rattle.texts.proofs.Pens.{pen_then}
use Rattle.explanations.proofs.request.write_number.Goals as goal

pub returns-then-number-eq-OTHER : goal.returns-then-number-eq-OTHER
unfolding number_text
returns-then-number-eq-OTHER c = rw (eq-eqb _ _ c.if-number-eq-OTHER.true) c.write_text.ensures

pub returns : goal.returns
unfolding number_text
returns c =
    rw (ne_eqb _ _ c.if-number-eq-OTHER.false) (pen_then c.write_kind-p.ensures (rw c.stored.ensures at c.write_text-2.ensures))
