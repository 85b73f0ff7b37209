use Rattle.std.proofs.Common.{◌≡◌, length, rules, arith}
use Rattle.numbers.specs.Number.{most}
use Rattle.texts.proofs.Pens.{pen_then}
use Rattle.texts.proofs.Words.{counted, sub_counted}
use Rattle.listings.proofs.Lines.{instance_wrote}
use Rattle.listings.proofs.line.write_line.Goals as goal

pub returns : goal.returns
returns c =
    let a = c.args.i.address in
    let long : length a.number.digits ≡ most = search (rules, c.well_formed) in
    let far : length a.sub ≡ most = search (rules, c.well_formed) in
    let digits = rw (counted a.number.count a.number.digits long c.stored.ensures) at c.write_text-t.ensures in
    let sub = rw (sub_counted a.subcount a.sub far (omega arith) c.stored-2.ensures) at c.write_sub-v.ensures in
    let number = rw c.from.ensures at c.write_number-q.ensures in
    let service = rw c.from-2.ensures at c.write_number-k.ensures in
    instance_wrote c.args.i c.write_procedure-p.ensures number service c.write_kind-m.ensures
    (pen_then digits c.write_text-u.ensures)
    (pen_then sub c.write_text.ensures)
