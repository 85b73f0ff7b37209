use Rattle.numbers.proofs.Sizes.{number_size_lem}
use Rattle.numbers.specs.Number.{most}
use lib.ListN.{length}
use mathlib.Core.Path.{◌≡◌}
use borrow.Author.Tests.{eq-eqb, ne_eqb}
use borrow.Author.Rules.{rules}
use Rattle.numbers.proofs.write.number_size.Goals as goal

pub returns-then-n-eq-UNKNOWN : goal.returns-then-n-eq-UNKNOWN
returns-then-n-eq-UNKNOWN c = let n = c.args.n in
    let long : length n.digits ≡ most = search (rules, c.well_formed) in
    rw (number_size_lem n long, eq-eqb _ _ c.if-n-eq-UNKNOWN.true, c.fewer-count.ensures)

pub returns-else-n-eq-UNKNOWN : goal.returns-else-n-eq-UNKNOWN
returns-else-n-eq-UNKNOWN c = let n = c.args.n in
    let long : length n.digits ≡ most = search (rules, c.well_formed) in
    rw (number_size_lem n long, ne_eqb _ _ c.if-n-eq-UNKNOWN.false, c.fewer-count.ensures)
