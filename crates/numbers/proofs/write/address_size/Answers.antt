use Rattle.numbers.proofs.Sizes.{every_contents_most, address_long}
use Rattle.numbers.specs.Number.{most}
use lib.ListN.{length}
use mathlib.Core.Path.{◌≡◌}
use native.Mathlib.Omega.{arith}
use borrow.Author.Rules.{rules}
use Rattle.numbers.proofs.write.address_size.Goals as goal

pub overflow_add-result : goal.overflow_add-result
overflow_add-result c = let a = c.args.a in
    let digits : length a.number.digits ≡ most = search (rules, c.well_formed) in
    let sub : length a.sub ≡ most = search (rules, c.well_formed) in
    omega (arith, c.contents_size.ensures, every_contents_most a digits sub)

pub returns : goal.returns
returns c = let a = c.args.a in
    let digits : length a.number.digits ≡ most = search (rules, c.well_formed) in
    let sub : length a.sub ≡ most = search (rules, c.well_formed) in
    omega (arith, c.contents_size.ensures, address_long a (every_contents_most a digits sub))
