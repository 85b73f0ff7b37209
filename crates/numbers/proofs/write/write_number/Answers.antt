use Rattle.numbers.proofs.Writers.{unknown_wrote, public_wrote}
use Rattle.numbers.specs.Number.{most}
use lib.ListN.{length}
use mathlib.Core.Path.{◌≡◌}
use borrow.Author.Rules.{rules}
use Rattle.numbers.proofs.write.write_number.Goals as goal

pub returns-then-n-eq-UNKNOWN : goal.returns-then-n-eq-UNKNOWN
returns-then-n-eq-UNKNOWN c =
    let n = c.args.n in
    let long : length n.digits ≡ most = search (rules, c.well_formed) in
    unknown_wrote n long c.fewer-count.ensures c.if-n-eq-UNKNOWN.true c.requires
    c.put_head-p.ensures c.put_all.ensures

pub returns : goal.returns
returns c =
    let n = c.args.n in
    let long : length n.digits ≡ most = search (rules, c.well_formed) in
    public_wrote n long c.fewer-count.ensures c.if-n-eq-UNKNOWN.false
    c.requires c.put_head-p-2.ensures
    c.put_enumerated-q.ensures
    c.put_head-k.ensures c.put_all-2.ensures
