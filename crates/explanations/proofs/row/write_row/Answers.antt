use mir.Facts.{to_z-of_z}
use Rattle.texts.proofs.Pens.{pen_then}
use Rattle.explanations.proofs.row.write_row.Goals as goal

pub returns : goal.returns
returns c =
    let id = to_z-of_z c.ranges.identifier in
    pen_then (pen_then c.write_text-p.ensures
    (rw id at
    c.write_signed-q.ensures)) c.write_text.ensures
