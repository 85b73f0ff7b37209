use Prim.Native.Nat.{◌+◌}
use Rattle.laws.proofs.Parts.{part_slice}
use Rattle.explanations.specs.Elements.{element_line}
use Rattle.texts.proofs.Pens.{pen_then}
use Rattle.explanations.proofs.element.write_line.Goals as goal

pub returns : goal.returns
unfolding element_line
returns c =
    let a = c.args in
    pen_then (pen_then (pen_then (pen_then (pen_then (pen_then
    c.write_indent-q.ensures
    c.write_text-k.ensures)
    (rw (part_slice a.at (a.at + 1) a.s.now) at
    c.write_hex-m.ensures))
    c.write_text-t.ensures)
    (rw (part_slice (a.at + 1) a.start a.s.now) at
    c.write_hex-u.ensures))
    c.write_contents-v.ensures)
    c.write_text.ensures
