use Rattle.std.proofs.Common.{◌≡◌, length, rules}
use Rattle.numbers.specs.Number.{most}
use Rattle.explanations.specs.Text.{sub_word}
use borrow.Author.Tests.{eq-eqb, ne_eqb}
use Rattle.explanations.proofs.Words.{octets_counted}
use Rattle.explanations.proofs.request.write_subaddress.Goals as goal

pub returns-then-to-eq1 : goal.returns-then-to-eq1
unfolding sub_word
returns-then-to-eq1 c = rw (eq-eqb _ _ c.if-to-eq1.true) c.write_text.ensures

pub returns : goal.returns
unfolding sub_word
returns c =
    let a = c.args.to.address in
    let long : length a.sub ≡ most = search (rules, c.well_formed) in
    rw (ne_eqb _ _ c.if-to-eq1.false) (rw (octets_counted a.subcount a.sub long c.stored.ensures) at c.write_sub.ensures)
