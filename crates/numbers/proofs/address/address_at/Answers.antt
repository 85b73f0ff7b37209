use native.Mathlib.Omega.{arith}
use mathlib.Core.Path.{sym, ◌∙◌}
use borrow.Author.Tests.{eq-eqb, ne_eqb}
use Rattle.octets.proofs.Founds.{found_got, found_wrong, only_got, only_wrong}
use Rattle.octets.proofs.Within.{within}
use Rattle.numbers.specs.Number.{number_at}
use Rattle.numbers.specs.Address.{sub_at, address_at}
use Rattle.numbers.proofs.address.address_at.Goals as goal

pub returns-in_err-tag : goal.returns-in_err-tag
unfolding address_at
returns-in_err-tag c = rw (c.from_residual.ensures, sym c.head_at.ensures ∙ c.in_err-tag.was)

pub returns-then-tag-ne48 : goal.returns-then-tag-ne48
unfolding address_at
returns-then-tag-ne48 c =
    let found = sym c.head_at.ensures ∙ c.in_ok-tag.was in
    rw (found, ne_eqb _ _ c.if-tag-ne48.true)

pub overflow_sub-depth : goal.overflow_sub-depth
overflow_sub-depth c =
    let a = c.args in
    let found = sym c.head_at.ensures ∙ c.in_ok-tag.was in
    omega (arith, rw found at (within a.depth a.s.now a.at a.end))

pub returns-in_err-number : goal.returns-in_err-number
unfolding address_at
returns-in_err-number c =
    let found = sym c.head_at.ensures ∙ c.in_ok-tag.was in
    rw (
      c.from_residual-in_err-number.ensures,
      found,
      eq-eqb _ _ c.if-tag-ne48.false,
      found_wrong (number_at _ _ _ _) c.number_at.ensures c.in_err-number.was,
    )

pub overflow_sub-depth-2 : goal.overflow_sub-depth-2
overflow_sub-depth-2 c =
    let a = c.args in
    let found = sym c.head_at.ensures ∙ c.in_ok-tag.was in
    omega (arith, rw found at (within a.depth a.s.now a.at a.end))

pub returns-in_err-user : goal.returns-in_err-user
unfolding address_at
returns-in_err-user c =
    let found = sym c.head_at.ensures ∙ c.in_ok-tag.was in
    rw (
      c.from_residual-in_err-user.ensures,
      found,
      eq-eqb _ _ c.if-tag-ne48.false,
      found_got (number_at _ _ _ _) c.number_at.ensures c.in_ok-number.was,
      only_wrong (sub_at _ _ _ _) c.sub_at.ensures c.in_err-user.was,
    )

pub returns : goal.returns
unfolding address_at
returns c =
    let found = sym c.head_at.ensures ∙ c.in_ok-tag.was in
    rw (
      found,
      eq-eqb _ _ c.if-tag-ne48.false,
      found_got (number_at _ _ _ _) c.number_at.ensures c.in_ok-number.was,
      (only_got (sub_at _ _ _ _) c.sub_at.ensures c.in_ok-user.was).is,
    )
