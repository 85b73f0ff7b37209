use mathlib.Core.Path.{◌≡◌, sym, ◌∙◌}
use native.Mathlib.Omega.{arith}
use lib.ListN.{length}
use lib.Seq.{length-take-le}
use borrow.Author.Rules.{rules}
use borrow.Author.Tests.{le-leb, lt-leb, eq-eqb}
use Rattle.laws.proofs.Cases.{cases}
use Rattle.numbers.specs.Number.{most, digits_of, number_good}
use Rattle.numbers.proofs.Readers.{digits_few, record_good}
use Rattle.numbers.proofs.number.number_good.Goals as goal
use Rattle.numbers.proofs.number.number_good.Goals.{then-count-gt-MOST-via-then-count-gt-MOST, then-count-gt-MOST-via-else-count-gt-MOST+then-count-lt1, then-count-gt-MOST-via-else-count-gt-MOST+else-count-lt1+then-not-all_digits}

pub returns-then-count-gt-MOST : goal.returns-then-count-gt-MOST
unfolding number_good
returns-then-count-gt-MOST c =
    let n = c.args.n in
    let long : length n.digits ≡ most = search rules in
    elim c.then-count-gt-MOST.branch [
      | then-count-gt-MOST-via-then-count-gt-MOST w ↦ rw (lt-leb _ _ w.if-count-gt-MOST.true)
      | then-count-gt-MOST-via-else-count-gt-MOST+then-count-lt1 w ↦
          rw (le-leb _ _ w.if-count-gt-MOST.false, digits_few (digits_of n) n.count (length-take-le _ _ (omega arith)) w.if-count-lt1.true)
      | then-count-gt-MOST-via-else-count-gt-MOST+else-count-lt1+then-not-all_digits w ↦
          sym (record_good n w.if-count-lt1.false w.if-count-gt-MOST.false long ∙ rw (sym w.all_digits.ensures ∙ w.if-not-all_digits.true))
    ]

pub returns-in-0 : goal.returns-in-0
returns-in-0 c =
    let n = c.args.n in
    let long : length n.digits ≡ most = search rules in
    rw (
      record_good n c.if-count-lt1.false c.if-count-gt-MOST.false long,
      sym c.all_digits.ensures ∙ c.if-not-all_digits.false,
      eq-eqb _ _ c.in-0.is,
    )

pub returns-in-1 : goal.returns-in-1
returns-in-1 c =
    let n = c.args.n in
    let long : length n.digits ≡ most = search rules in
    rw (
      record_good n c.if-count-lt1.false c.if-count-gt-MOST.false long,
      sym c.all_digits.ensures ∙ c.if-not-all_digits.false,
      c.in-1.is,
    )
    c.type_good.ensures

pub returns-in_default : goal.returns-in_default
returns-in_default c =
    let n = c.args.n in
    let long : length n.digits ≡ most = search rules in
    rw (
      record_good n c.if-count-lt1.false c.if-count-gt-MOST.false long,
      sym c.all_digits.ensures ∙ c.if-not-all_digits.false,
    )
    (search cases)
