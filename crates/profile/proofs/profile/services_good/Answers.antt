use Rattle.profile.proofs.Profiles.{services_fair, rising_step, rising_end}
use Rattle.profile.specs.Profile.{rising}
use Rattle.std.proofs.Common.{arith, length, take, ◌≡◌, ◌∙◌, sym, ap}
use borrow.Author.Tests.{le-ltb, lt-ltb}
use Prim.Native.Nat.{ℕ}
use Rattle.profile.proofs.profile.services_good.Goals as goal
use Rattle.profile.proofs.profile.services_good.Goals.{then-code-below-via-then-code-below, then-code-below-via-else-code-below+then-not-service_code}

pub returns-then-code-below : goal.returns-then-code-below
returns-then-code-below c =
    let p = c.args.p in
    let l = take c.from-count.result p.services in
    sym
    (services_fair p (omega arith) (omega arith)
    ∙ ap (λ (n : ℕ). rising 0 (take n p.services)) (sym c.from-count.ensures)
    ∙ c.loop-code.invariant
    ∙ rising_step c.loop-code.below l c.loop-code.code-index c.loop-code-test.true
    ∙ elim c.then-code-below.branch [
      | then-code-below-via-then-code-below w ↦ rw (le-ltb _ _ w.if-code-below.true)
      | then-code-below-via-else-code-below+then-not-service_code w ↦ rw (lt-ltb _ _ w.if-code-below.false, sym w.service_code.ensures ∙ w.if-not-service_code.true)
    ])

pub loop-code-preserved : goal.loop-code-preserved
loop-code-preserved c =
    let l = take c.from-count.result c.args.p.services in
    c.loop-code.invariant
    ∙ rising_step c.loop-code.below l c.loop-code.code-index c.loop-code-test.true
    ∙ rw (lt-ltb _ _ c.if-code-below.false, sym c.service_code.ensures ∙ c.if-not-service_code.false)

pub returns : goal.returns
returns c =
    let p = c.args.p in
    let l = take c.from-count.result p.services in
    let e : c.loop-code.code-index ≡ length l = omega arith in
    sym
    (services_fair p (omega arith) (omega arith)
    ∙ ap (λ (n : ℕ). rising 0 (take n p.services)) (sym c.from-count.ensures)
    ∙ c.loop-code.invariant
    ∙ rw e (rising_end c.loop-code.below l))
