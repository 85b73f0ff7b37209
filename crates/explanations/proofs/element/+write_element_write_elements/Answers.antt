use Rattle.std.proofs.Common.{arith, refl, sym, ◌∙◌}
use borrow.Author.Tests.{eq-eqb, ne_eqb}
use Rattle.octets.proofs.Within.{within}
use Rattle.texts.proofs.Pens.{pen_none, pen_then, going_next, going_last}
use Rattle.explanations.proofs.Lines.{further, lines_end, lines_step, element_lines_lem}
use Rattle.explanations.proofs.element.+write_element_write_elements.Goals as goal

pub write_element-write_line-q-requires : goal.write_element-write_line-q-requires
write_element-write_line-q-requires t c =
    let a = c.args in
    let found = sym c.head_at.ensures ∙ c.in-Some.is in
    let lies = rw found at (within a.depth a.s.now a.at a.end) in
    (lies.starts, lies.stops, omega (arith, lies))

pub write_element-returns-then-tag-eq0 : goal.write_element-returns-then-tag-eq0
write_element-returns-then-tag-eq0 t c =
    let a = c.args in
    let found = sym c.head_at.ensures ∙ c.in-Some.is in
    rw (element_lines_lem a.depth a.s.now a.at a.end, found, eq-eqb _ _ c.if-tag-eq0.true)
    (refl, pen_then c.write_line-q.ensures pen_none)

pub write_element-overflow_sub-depth : goal.write_element-overflow_sub-depth
write_element-overflow_sub-depth t c =
    let a = c.args in
    let found = sym c.head_at.ensures ∙ c.in-Some.is in
    let lies = rw found at (within a.depth a.s.now a.at a.end) in
    omega (arith, lies)

pub write_element-write_elements-place-requires : goal.write_element-write_elements-place-requires
write_element-write_elements-place-requires t c =
    let a = c.args in
    let found = sym c.head_at.ensures ∙ c.in-Some.is in
    let lies = rw found at (within a.depth a.s.now a.at a.end) in
    (omega (arith, lies, c.decreases), omega (arith, lies))

pub write_element-returns : goal.write_element-returns
write_element-returns t c =
    let a = c.args in
    let found = sym c.head_at.ensures ∙ c.in-Some.is in
    rw (element_lines_lem a.depth a.s.now a.at a.end, found, ne_eqb _ _ c.if-tag-eq0.false)
    (refl, pen_then c.write_line-q.ensures c.write_elements-place.ensures)

pub write_element-returns-in_default : goal.write_element-returns-in_default
write_element-returns-in_default t c =
    let a = c.args in
    let found = sym c.head_at.ensures ∙ c.in_default.is in
    rw (element_lines_lem a.depth a.s.now a.at a.end, found) (refl, c.write_unread-place.ensures)

pub write_elements-loop-here-smaller : goal.write_elements-loop-here-smaller
write_elements-loop-here-smaller t c =
    let a = c.args in
    let far = further a.depth a.s.now c.loop-here.here a.end c.loop-here-test.true in
    omega (arith, c.loop-here-test.true, far, c.write_element-line.ensures.0)

pub write_elements-loop-here-preserved : goal.write_elements-loop-here-preserved
write_elements-loop-here-preserved t c =
    let a = c.args in
    let l = c.loop-here in
    let line = c.write_element-line.ensures in
    rw line.0 (going_next l.invariant _ _ (lines_step a.depth a.s.now l.here a.end c.loop-here-test.true) line.1)

pub write_elements-returns : goal.write_elements-returns
write_elements-returns t c =
    let a = c.args in
    going_last c.loop-here.invariant (lines_end a.depth a.s.now c.loop-here.here a.end c.loop-here-test.false)
