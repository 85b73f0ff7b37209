use mathlib.Core.Path.{sym, ◌∙◌}
use lib.Seq.{length-slice}
use Rattle.numbers.specs.Number.{digits_in}
use Rattle.numbers.proofs.Readers.{digits_few, digits_many, part_digits, number_made}
use Rattle.numbers.proofs.number.digits_in.Goals as goal
use Rattle.numbers.proofs.number.digits_in.Goals.{then-n-lt1-via-then-n-lt1, then-n-lt1-via-else-n-lt1+then-n-gt-MOST, then-n-lt1-via-else-n-lt1+else-n-gt-MOST+then-not-all_digits}

pub returns-then-n-lt1 : goal.returns-then-n-lt1
unfolding digits_in
returns-then-n-lt1 c =
    let a = c.args in
    let long = length-slice a.start a.stop a.s.now c.requires.1 in
    elim c.then-n-lt1.branch [
      | then-n-lt1-via-then-n-lt1 w ↦ rw (digits_few _ _ long w.if-n-lt1.true)
      | then-n-lt1-via-else-n-lt1+then-n-gt-MOST w ↦ rw (digits_many _ _ long w.if-n-lt1.false w.if-n-gt-MOST.true)
      | then-n-lt1-via-else-n-lt1+else-n-gt-MOST+then-not-all_digits w ↦
          rw (
            part_digits a.s.now a.start a.stop c.requires.1 w.if-n-lt1.false w.if-n-gt-MOST.false,
            sym w.all_digits.ensures ∙ w.if-not-all_digits.true,
          )
    ]

pub returns : goal.returns
returns c =
    let a = c.args in
    number_made a.s.now a.start a.stop c.requires.1 c.if-n-lt1.false c.if-n-gt-MOST.false _ _ _ _
    (sym c.all_digits.ensures ∙ c.if-not-all_digits.false) c.padded_of.ensures
