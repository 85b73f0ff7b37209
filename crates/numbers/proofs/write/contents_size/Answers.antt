use Rattle.numbers.proofs.Sizes.{every_number_most, contents_size}
use Rattle.numbers.specs.Number.{most}
use Rattle.laws.specs.Pick.{pick}
use lib.Dec.{eqb}
use lib.ListN.{length}
use mathlib.Core.Path.{◌≡◌, sym}
use Prim.Native.Nat.{◌+◌, min}
use native.Mathlib.Omega.{arith}
use borrow.Author.Tests.{eq-eqb, ne_eqb}
use borrow.Author.Rules.{rules}
use Rattle.numbers.proofs.write.contents_size.Goals as goal

pub overflow_add-result : goal.overflow_add-result
overflow_add-result c = let a = c.args.a in
    let long : length a.number.digits ≡ most = search (rules, c.well_formed) in
    omega (arith, c.number_size-size.ensures, every_number_most a.number long, c.fewer-count.ensures)

pub overflow_add-result-else-count-eq0 : goal.overflow_add-result-else-count-eq0
overflow_add-result-else-count-eq0 c = let a = c.args.a in
    let long : length a.number.digits ≡ most = search (rules, c.well_formed) in
    omega (arith, c.number_size-size.ensures, every_number_most a.number long, c.fewer-count.ensures)

pub returns-then-count-eq0 : goal.returns-then-count-eq0
returns-then-count-eq0 c = let a = c.args.a in
    let long : length a.sub ≡ most = search (rules, c.well_formed) in
    let size = contents_size a long in
    let part : pick (eqb (min a.subcount most) 0) 0 (min a.subcount most + 2) ≡ 0 = rw
    (sym c.fewer-count.ensures, eq-eqb _ _ c.if-count-eq0.true) in
    omega (arith, size, part, c.number_size-size.ensures)

pub returns-else-count-eq0 : goal.returns-else-count-eq0
returns-else-count-eq0 c = let a = c.args.a in
    let long : length a.sub ≡ most = search (rules, c.well_formed) in
    let size = contents_size a long in
    let part : pick (eqb (min a.subcount most) 0) 0 (min a.subcount most + 2) ≡ c.fewer-count.result + 2 = rw
    (sym c.fewer-count.ensures, ne_eqb _ _ c.if-count-eq0.false) in
    omega (arith, size, part, c.number_size-size.ensures)
