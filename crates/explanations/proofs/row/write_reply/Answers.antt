use mathlib.Core.Path.{sym, ◌∙◌}
use Rattle.explanations.specs.Explained.{reply_text, reply_of}
use Rattle.texts.proofs.Pens.{pen_none, pen_then}
use Rattle.explanations.proofs.row.write_reply.Goals as goal

pub returns : goal.returns
unfolding reply_of reply_text
returns c =
    rw (sym c.head_at.ensures
    ∙ c.in-Some.is) (pen_then
    c.write_reply_word-q.ensures c.write_own.ensures)

pub returns-in_default : goal.returns-in_default
unfolding reply_of
returns-in_default c = rw (sym c.head_at.ensures ∙ c.in_default.is) pen_none
