use native.Mathlib.Omega.{arith}
use mathlib.Core.Path.{sym, ◌∙◌}
use borrow.Author.Tests.{eq-eqb, ne_eqb}
use Rattle.octets.proofs.Within.{within}
use Rattle.numbers.specs.Number.{string_at}
use Rattle.numbers.proofs.number.string_at.Goals as goal
use Rattle.numbers.proofs.number.string_at.Goals.{then-tag-ne18-via-then-tag-ne18, then-tag-ne18-via-else-tag-ne18+then-next-end}

pub returns-in_err-tag : goal.returns-in_err-tag
unfolding string_at
returns-in_err-tag c = rw (c.from_residual.ensures, sym c.head_at.ensures ∙ c.in_err-tag.was)

pub returns-then-tag-ne18 : goal.returns-then-tag-ne18
unfolding string_at
returns-then-tag-ne18 c =
    let found = sym c.head_at.ensures ∙ c.in_ok-tag.was in
    elim c.then-tag-ne18.branch [
      | then-tag-ne18-via-then-tag-ne18 w ↦ rw (found, ne_eqb _ _ w.if-tag-ne18.true)
      | then-tag-ne18-via-else-tag-ne18+then-next-end w ↦ rw (found, eq-eqb _ _ w.if-tag-ne18.false, ne_eqb _ _ w.if-next-end.true)
    ]

pub digits_in-requires : goal.digits_in-requires
digits_in-requires c =
    let a = c.args in
    let found = sym c.head_at.ensures ∙ c.in_ok-tag.was in
    omega (arith, rw found at (within a.depth a.s.now a.at a.end))

pub returns : goal.returns
unfolding string_at
returns c =
    let found = sym c.head_at.ensures ∙ c.in_ok-tag.was in
    rw (found, eq-eqb _ _ c.if-tag-ne18.false, eq-eqb _ _ c.if-next-end.false) c.digits_in.ensures
