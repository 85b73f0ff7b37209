use native.Mathlib.Omega.{arith}
use mathlib.Core.Path.{sym, ◌∙◌}
use borrow.Author.Tests.{eq-eqb, ne_eqb}
use Rattle.laws.proofs.Cases.{cases}
use Rattle.octets.proofs.Within.{within}
use Rattle.numbers.specs.Address.{sub_at}
use Rattle.numbers.proofs.address.sub_at.Goals as goal

pub returns-then-at-end : goal.returns-then-at-end
unfolding sub_at
returns-then-at-end c = rw (eq-eqb _ _ c.if-at-end.true, c.blank_sub.ensures)

pub returns-in_err-tag : goal.returns-in_err-tag
unfolding sub_at
returns-in_err-tag c = rw (ne_eqb _ _ c.if-at-end.false, c.from_residual.ensures, sym c.head_at.ensures ∙ c.in_err-tag.was)

pub returns-then-next-end : goal.returns-then-next-end
unfolding sub_at
returns-then-next-end c =
    let found = sym c.head_at.ensures ∙ c.in_ok-tag.was in
    rw (ne_eqb _ _ c.if-at-end.false, found, ne_eqb _ _ c.if-next-end.true)

pub octets_in-requires : goal.octets_in-requires
octets_in-requires c =
    let a = c.args in
    let found = sym c.head_at.ensures ∙ c.in_ok-tag.was in
    omega (arith, rw found at (within a.depth a.s.now a.at a.end))

pub returns-in-48 : goal.returns-in-48
unfolding sub_at
returns-in-48 c =
    let found = sym c.head_at.ensures ∙ c.in_ok-tag.was in
    rw (ne_eqb _ _ c.if-at-end.false, found, eq-eqb _ _ c.if-next-end.false, eq-eqb _ _ c.in-48.is, c.user_sub.ensures)

pub returns-in-4 : goal.returns-in-4
unfolding sub_at
returns-in-4 c =
    let found = sym c.head_at.ensures ∙ c.in_ok-tag.was in
    rw (ne_eqb _ _ c.if-at-end.false, found, eq-eqb _ _ c.if-next-end.false, c.in-4.is) c.octets_in.ensures

pub returns-in_default : goal.returns-in_default
unfolding sub_at
returns-in_default c =
    let found = sym c.head_at.ensures ∙ c.in_ok-tag.was in
    search (cases, found)
