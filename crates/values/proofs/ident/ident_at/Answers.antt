use borrow.Author.Tests.{eq-eqb, ne_eqb}
use Rattle.octets.proofs.Within.{within}
use Rattle.values.specs.Ident.{ident_at}
use mathlib.Core.Path.{sym, ◌∙◌}
use native.Mathlib.Omega.{arith}
use Rattle.values.proofs.ident.ident_at.Goals as goal

pub returns-then-tag-ne-IDENTTAG : goal.returns-then-tag-ne-IDENTTAG
unfolding ident_at
returns-then-tag-ne-IDENTTAG c =
    let found = sym c.head_at.ensures ∙ c.in_ok-tag.was in
    rw (found, ne_eqb _ _ c.if-tag-ne-IDENTTAG.true)

pub overflow_sub-stop : goal.overflow_sub-stop
overflow_sub-stop c =
    let a = c.args in
    let found = sym c.head_at.ensures ∙ c.in_ok-tag.was in
    omega (arith, rw found at (within a.depth a.s.now a.at a.end))

pub ident_in-requires : goal.ident_in-requires
ident_in-requires c =
    let a = c.args in
    let found = sym c.head_at.ensures ∙ c.in_ok-tag.was in
    omega (arith, rw found at (within a.depth a.s.now a.at a.end))

pub returns : goal.returns
unfolding ident_at
returns c =
    let found = sym c.head_at.ensures ∙ c.in_ok-tag.was in
    rw (found, eq-eqb _ _ c.if-tag-ne-IDENTTAG.false) c.ident_in.ensures

pub returns-in_err-tag : goal.returns-in_err-tag
unfolding ident_at
returns-in_err-tag c = rw (c.from_residual.ensures, sym c.head_at.ensures ∙ c.in_err-tag.was)
