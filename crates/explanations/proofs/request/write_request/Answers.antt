use mir.Facts.{to_z-of_z}
use Rattle.explanations.specs.Text.{request_line}
use Rattle.texts.proofs.Pens.{pen_then}
use Rattle.explanations.proofs.request.write_request.Goals as goal

pub returns : goal.returns
unfolding request_line
returns c =
    let id = to_z-of_z c.ranges.identifier in
    pen_then (pen_then (pen_then (pen_then (pen_then
    c.write_text-p.ensures
    (rw id at c.write_signed-q.ensures))
    c.write_text-k.ensures)
    c.write_operation-m.ensures)
    c.write_argument-t.ensures)
    c.write_text.ensures
