use Rattle.texts.proofs.Pens.{pen_then}
use Rattle.explanations.proofs.row.write_silent.Goals as goal

pub returns : goal.returns
returns c =
    pen_then (pen_then c.write_text-q.ensures
    c.write_reply-k.ensures) c.write_text.ensures
