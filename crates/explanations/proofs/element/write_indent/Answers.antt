use Rattle.texts.proofs.Pens.{going_next, going_last}
use Rattle.explanations.proofs.Lines.{indent_step, indent_none}
use Rattle.explanations.proofs.element.write_indent.Goals as goal

pub loop-preserved : goal.loop-preserved
loop-preserved c = going_next c.loop.invariant _ _ (indent_step c.loop.counter c.loop-test.true) c.write_text-p.ensures

pub returns : goal.returns
returns c = going_last c.loop.invariant (indent_none c.loop.counter c.loop-test.false)
