use Rattle.texts.proofs.Pens.{pen_then}
use Rattle.listings.proofs.Lines.{header_text}
use Rattle.listings.proofs.line.write_header.Goals as goal

pub returns : goal.returns
returns c =
    rw header_text
    (pen_then c.write_text-p.ensures (pen_then (rw c.from.ensures at c.write_number-q.ensures) (pen_then c.write_text-k.ensures
    (pen_then c.write_decimal-m.ensures c.write_text.ensures))))
