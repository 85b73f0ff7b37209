use borrow.Author.Tests.{eq-eqb, ne_eqb}
use Rattle.octets.proofs.Within.{within}
use Rattle.values.specs.Enumerated.{enumerated_at}
use mathlib.Core.Path.{sym, ◌∙◌}
use native.Mathlib.Omega.{arith}
use Rattle.values.proofs.enumerated.enumerated_at.Goals as goal
use Rattle.values.proofs.enumerated.enumerated_at.Goals.{then-tag-ne-ENUMERATEDTAG-via-then-tag-ne-ENUMERATEDTAG, then-tag-ne-ENUMERATEDTAG-via-else-tag-ne-ENUMERATEDTAG+then-stop-start-ne1}

pub returns-in_err-tag : goal.returns-in_err-tag
unfolding enumerated_at
returns-in_err-tag c = rw (c.from_residual.ensures, sym c.head_at.ensures ∙ c.in_err-tag.was)

pub overflow_sub-stop : goal.overflow_sub-stop
overflow_sub-stop c =
    let a = c.args in
    let found = sym c.head_at.ensures ∙ c.in_ok-tag.was in
    omega (arith, rw found at (within a.depth a.s.now a.at a.end))

pub returns-then-tag-ne-ENUMERATEDTAG : goal.returns-then-tag-ne-ENUMERATEDTAG
unfolding enumerated_at
returns-then-tag-ne-ENUMERATEDTAG c =
    let found = sym c.head_at.ensures ∙ c.in_ok-tag.was in
    elim c.then-tag-ne-ENUMERATEDTAG.branch [
      | then-tag-ne-ENUMERATEDTAG-via-then-tag-ne-ENUMERATEDTAG w ↦ rw (found, ne_eqb _ _ w.if-tag-ne-ENUMERATEDTAG.true)
      | then-tag-ne-ENUMERATEDTAG-via-else-tag-ne-ENUMERATEDTAG+then-stop-start-ne1 w ↦
          rw (found, eq-eqb _ _ w.if-tag-ne-ENUMERATEDTAG.false, ne_eqb _ _ w.if-stop-start-ne1.true)
    ]

pub bounds-s-start : goal.bounds-s-start
bounds-s-start c =
    let a = c.args in
    let found = sym c.head_at.ensures ∙ c.in_ok-tag.was in
    omega (arith, rw found at (within a.depth a.s.now a.at a.end))

pub returns : goal.returns
unfolding enumerated_at
returns c =
    let found = sym c.head_at.ensures ∙ c.in_ok-tag.was in
    rw (found, eq-eqb _ _ c.if-tag-ne-ENUMERATEDTAG.false, eq-eqb _ _ c.if-stop-start-ne1.false)
