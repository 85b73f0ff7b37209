use Rattle.numbers.proofs.Writers.{sub_wrote, sub_unwritten}
use Rattle.numbers.specs.Number.{most}
use lib.ListN.{length}
use mathlib.Core.Path.{◌≡◌}
use borrow.Author.Rules.{rules}
use Rattle.numbers.proofs.write.write_sub.Goals as goal

pub returns-then-count-eq0 : goal.returns-then-count-eq0
returns-then-count-eq0 c = let a = c.args.a in
    let long : length a.sub ≡ most = search (rules, c.well_formed) in
    sub_unwritten a long c.fewer-count.ensures c.if-count-eq0.true

pub returns : goal.returns
returns c =
    let a = c.args.a in
    let long : length a.sub ≡ most = search (rules, c.well_formed) in
    sub_wrote a long c.fewer-count.ensures c.if-count-eq0.false c.requires
    c.put_head-p.ensures c.put_all.ensures
