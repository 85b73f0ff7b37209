use Rattle.exchange.specs.Question.{duplicate}
use mir.Facts.{to_z-of_z}
use borrow.Author.Tests.{eq-eqb, ne_eqb}
use Rattle.exchange.proofs.question.is_duplicate.Goals as goal

pub returns-then-p-eq1 : goal.returns-then-p-eq1
unfolding duplicate
returns-then-p-eq1 c =
    let id = to_z-of_z c.ranges.identifier in
    rw (eq-eqb _ _ c.if-p-eq1.true) (rw id at c.not_above.ensures)

pub returns : goal.returns
unfolding duplicate
returns c = rw (ne_eqb _ _ c.if-p-eq1.false)
