use Rattle.skip.proofs.Skips.{further}
use Rattle.skip.specs.Skip.{skip_depth}
use Rattle.requests.proofs.Readers.{privates_past, privates_step}
use Rattle.requests.specs.Request.{private_at}
use native.Mathlib.Omega.{arith}
use borrow.Author.Tests.{eq-eqb, ne_eqb}
use mathlib.Core.Path.{refl, sym, ◌∙◌}
use Rattle.requests.proofs.argument.only_privates.Goals as goal

pub loop-here-init : goal.loop-here-init
loop-here-init c = refl

pub returns-then-s-here-ne3 : goal.returns-then-s-here-ne3
unfolding private_at
returns-then-s-here-ne3 c =
    let a = c.args in
    let step = privates_step a.s.now c.loop-here.here a.end c.loop-here-test.true in
    rw (c.loop-here.invariant, step, ne_eqb _ _ c.if-s-here-ne3.true)

pub loop-here-smaller : goal.loop-here-smaller
loop-here-smaller c =
    let a = c.args in
    let found = sym c.skip_at.ensures ∙ c.in-Some.is in
    let on = rw found at (further skip_depth a.s.now c.loop-here.here a.end) in
    omega (arith, c.loop-here-test.true, on)

pub loop-here-preserved : goal.loop-here-preserved
unfolding private_at
loop-here-preserved c =
    let a = c.args in
    let step = privates_step a.s.now c.loop-here.here a.end
    c.loop-here-test.true in
    let found = sym c.skip_at.ensures ∙ c.in-Some.is in
    c.loop-here.invariant
    ∙ rw (step, eq-eqb _ _ c.if-s-here-ne3.false, found)

pub returns-in_default : goal.returns-in_default
unfolding private_at
returns-in_default c =
    let a = c.args in
    let step = privates_step a.s.now c.loop-here.here a.end
    c.loop-here-test.true in
    let found = sym c.skip_at.ensures ∙ c.in_default.is in
    rw (c.loop-here.invariant, step, eq-eqb _ _ c.if-s-here-ne3.false, found)

pub returns : goal.returns
returns c =
    let a = c.args in
    sym (c.loop-here.invariant ∙ privates_past a.s.now c.loop-here.here a.end c.loop-here-test.false)
