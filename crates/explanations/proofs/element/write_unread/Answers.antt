use Rattle.laws.proofs.Parts.{part_slice}
use Rattle.explanations.specs.Elements.{unread_line}
use Rattle.texts.proofs.Pens.{pen_then}
use Rattle.explanations.proofs.element.write_unread.Goals as goal

pub returns : goal.returns
unfolding unread_line
returns c =
    let a = c.args in
    pen_then (pen_then (pen_then
    c.write_indent-q.ensures
    c.write_text-k.ensures)
    (rw (part_slice a.at a.end a.s.now) at c.write_hex-m.ensures))
    c.write_text.ensures
