use native.Mathlib.Omega.{arith}
use mathlib.Core.Path.{sym, ◌∙◌}
use borrow.Author.Tests.{eq-eqb}
use Rattle.laws.proofs.Cases.{cases}
use Rattle.octets.proofs.Within.{within}
use Rattle.numbers.specs.Number.{number_at}
use Rattle.numbers.proofs.number.number_at.Goals as goal

pub returns-in_err-tag : goal.returns-in_err-tag
unfolding number_at
returns-in_err-tag c = rw (c.from_residual.ensures, sym c.head_at.ensures ∙ c.in_err-tag.was)

pub digits_in-requires : goal.digits_in-requires
digits_in-requires c =
    let a = c.args in
    let found = sym c.head_at.ensures ∙ c.in_ok-tag.was in
    omega (arith, rw found at (within a.depth a.s.now a.at a.end))

pub overflow_sub-depth : goal.overflow_sub-depth
overflow_sub-depth c =
    let a = c.args in
    let found = sym c.head_at.ensures ∙ c.in_ok-tag.was in
    omega (arith, rw found at (within a.depth a.s.now a.at a.end))

pub returns-in-128 : goal.returns-in-128
unfolding number_at
returns-in-128 c =
    let found = sym c.head_at.ensures ∙ c.in_ok-tag.was in
    rw (found, eq-eqb _ _ c.in-128.is) c.digits_in.ensures

pub returns-in-161 : goal.returns-in-161
unfolding number_at
returns-in-161 c =
    let found = sym c.head_at.ensures ∙ c.in_ok-tag.was in
    rw (found, c.in-161.is) c.public_in.ensures

pub returns-in_default : goal.returns-in_default
unfolding number_at
returns-in_default c =
    let found = sym c.head_at.ensures ∙ c.in_ok-tag.was in
    let good = sym c.other_tag.ensures ∙ c.if-other_tag.true in
    search (cases, found, good, c.other_number.ensures)

pub returns-in_default-2 : goal.returns-in_default-2
unfolding number_at
returns-in_default-2 c =
    let found = sym c.head_at.ensures ∙ c.in_ok-tag.was in
    let bad = sym c.other_tag.ensures ∙ c.if-other_tag.false in
    search (cases, found, bad)
