use Rattle.texts.proofs.Pens.{going_last}
use Rattle.listings.proofs.Lines.{going_next, lines_past}
use Rattle.listings.proofs.line.write_lines.Goals as goal

pub loop-x-preserved : goal.loop-x-preserved
loop-x-preserved c =
    going_next c.args.instances.now c.loop-x.x-index _ c.loop-x-test.true c.loop-x.invariant c.write_line-p.ensures

pub returns : goal.returns
returns c = going_last c.loop-x.invariant (lines_past c.args.instances.now c.loop-x.x-index c.loop-x-test.false)
