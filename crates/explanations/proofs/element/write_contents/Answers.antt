use Rattle.laws.proofs.Parts.{part_slice}
use Rattle.explanations.specs.Elements.{contents_text}
use borrow.Author.Tests.{eq-eqb, ne_eqb}
use Rattle.texts.proofs.Pens.{pen_none, pen_then}
use Rattle.explanations.proofs.element.write_contents.Goals as goal

pub returns-then-tag-ne0 : goal.returns-then-tag-ne0
unfolding contents_text
returns-then-tag-ne0 c = rw (ne_eqb _ _ c.if-tag-ne0.true) pen_none

pub returns-then-start-stop : goal.returns-then-start-stop
unfolding contents_text
returns-then-start-stop c = rw (eq-eqb _ _ c.if-tag-ne0.false, eq-eqb _ _ c.if-start-stop.true) pen_none

pub returns : goal.returns
unfolding contents_text
returns c =
    rw (
      eq-eqb _ _ c.if-tag-ne0.false,
      ne_eqb _ _
          c.if-start-stop.false,
    ) (pen_then
    c.write_text-q.ensures (rw (part_slice
    c.args.start
    c.args.stop
    c.args.s.now) at
    c.write_hex.ensures))
