use Rattle.std.proofs.Common.{arith, sym, ◌∙◌, ◌-◌}
use borrow.Author.Tests.{eq-eqb, ne_eqb}
use Rattle.octets.proofs.Within.{within}
use Rattle.skip.specs.inner.Skip.{skip_contents}
use Rattle.skip.proofs.Skips.{then_some_if, further, contents_end, contents_step, element_step}
use Rattle.skip.proofs.skip.+skip_contents_skip_element.Goals as goal
use Rattle.skip.proofs.skip.+skip_contents_skip_element.Goals.{skip_element-then-tag-eq0, skip_element-else-tag-eq0}

pub skip_contents-loop-here-smaller : goal.skip_contents-loop-here-smaller
skip_contents-loop-here-smaller t c =
    let a = c.args in
    let found = sym c.skip_element.ensures ∙ c.in-Some.is in
    omega (arith, c.loop-here-test.true, rw found at (further a.depth a.s.now c.loop-here.here a.end))

pub skip_contents-loop-here-preserved : goal.skip_contents-loop-here-preserved
skip_contents-loop-here-preserved t c =
    let a = c.args in
    let found = sym c.skip_element.ensures ∙ c.in-Some.is in
    c.loop-here.invariant
    ∙ rw (contents_step a.depth a.s.now c.loop-here.here a.end c.loop-here-test.true, found)

pub skip_contents-returns-in_default : goal.skip_contents-returns-in_default
skip_contents-returns-in_default t c =
    let a = c.args in
    let found = sym c.skip_element.ensures ∙ c.in_default.is in
    rw (
      c.loop-here.invariant,
      contents_step a.depth a.s.now c.loop-here.here a.end c.loop-here-test.true,
      found,
    )

pub skip_contents-returns : goal.skip_contents-returns
skip_contents-returns t c =
    let a = c.args in
    sym (c.loop-here.invariant ∙ contents_end a.depth a.s.now c.loop-here.here a.end c.loop-here-test.false)

pub skip_element-overflow_sub-depth : goal.skip_element-overflow_sub-depth
skip_element-overflow_sub-depth t c =
    let a = c.args in
    let found = sym c.head_at.ensures ∙ c.in_ok-tag.was in
    omega (arith, rw found at (within a.depth a.s.now a.at a.end))

pub skip_element-skip_contents-passed-requires : goal.skip_element-skip_contents-passed-requires
skip_element-skip_contents-passed-requires t c =
    let a = c.args in
    let found = sym c.head_at.ensures ∙ c.in_ok-tag.was in
    omega (arith, rw found at (within a.depth a.s.now a.at a.end))

pub skip_element-returns-in_err-tag : goal.skip_element-returns-in_err-tag
skip_element-returns-in_err-tag t c =
    let a = c.args in
    rw (c.from_residual.ensures, element_step a.depth a.s.now a.at a.end, sym c.head_at.ensures ∙ c.in_err-tag.was)

pub skip_element-returns : goal.skip_element-returns
skip_element-returns t c =
    let a = c.args in
    let h = c.in_ok-tag.field-0 in
    let found = sym c.head_at.ensures ∙ c.in_ok-tag.was in
    c.then_some.ensures
    ∙ rw (element_step a.depth a.s.now a.at a.end, found)
    (elim c.if-tag-eq0.branch [
      | skip_element-then-tag-eq0 w ↦ rw (w.passed-is, eq-eqb _ _ w.if-tag-eq0.true)
      | skip_element-else-tag-eq0 w ↦
          rw (w.passed-is, w.skip_contents-passed.ensures, ne_eqb _ _ w.if-tag-eq0.false)
          (then_some_if (skip_contents (a.depth - 1) a.s.now h.start h.stop) h.next)
    ])
