use native.Mathlib.Omega.{arith}
use Rattle.texts.proofs.Pens.{pen_past, pen_copied, pen_whole}
use Rattle.texts.proofs.pen.write_text.Goals as goal

pub returns-then-out-at : goal.returns-then-out-at
returns-then-out-at c = pen_past _ _ _ c.if-out-at.true

pub returns-then-src-room : goal.returns-then-src-room
returns-then-src-room c = pen_whole _ _ _ c.if-out-at.false c.if-src-room.true _ c.copy_from_slice.ensures.after

pub returns : goal.returns
returns c = pen_copied _ _ _ c.if-out-at.false _ (omega (arith, c.if-src-room.false)) _ c.copy_from_slice-2.ensures.after
