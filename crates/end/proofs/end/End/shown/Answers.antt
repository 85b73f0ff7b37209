use Rattle.end.proofs.Shows.{shown_count}
use Rattle.end.specs.Shown.{seen_known}
use Rattle.refusals.specs.Refusal.{tells}
use Prim.Native.Nat.{ℕ}
use Rattle.end.proofs.Shows.{shown_profile, shown_end, shown_none, shown_doubt, shown_known}
use Rattle.profile.proofs.Records.{read_some, read_none}
use borrow.Author.Tests.{not-true, not-false}
use native.Mathlib.Omega.{arith}
use mathlib.Core.Path.{sym, ap, ◌∙◌}
use Rattle.end.proofs.end.End.shown.Goals as goal

pub returns-in_default : goal.returns-in_default
returns-in_default c =
    let a = c.args in
    sym (shown_profile a.access.now a.self a.procedure
    (read_none _ _ c.read_access.ensures c.in_default.is))

pub returns-then-not-end_good : goal.returns-then-not-end_good
returns-then-not-end_good c =
    let a = c.args in
    sym (shown_end a.access.now a.self a.procedure
    ((read_some _ _ _ c.read_access.ensures c.in-Some.is).0)
    (rw (← (read_some _ _ _ c.read_access.ensures c.in-Some.is).1) at
    (sym c.end_good.ensures ∙ c.if-not-end_good.true)))

pub returns-then-procedure-ge-PROCEDURES : goal.returns-then-procedure-ge-PROCEDURES
returns-then-procedure-ge-PROCEDURES c =
    let a = c.args in
    sym (shown_none a.access.now a.self a.procedure
    ((read_some _ _ _ c.read_access.ensures c.in-Some.is).0)
    (rw (← (read_some _ _ _ c.read_access.ensures c.in-Some.is).1) at
    (sym c.end_good.ensures ∙ c.if-not-end_good.false)) (omega (arith, c.if-procedure-ge-PROCEDURES.true)))

pub returns-then-mark_at-ne-KNOWN : goal.returns-then-mark_at-ne-KNOWN
returns-then-mark_at-ne-KNOWN c =
    let a = c.args in
    sym (shown_doubt a.access.now a.self a.procedure
    ((read_some _ _ _ c.read_access.ensures c.in-Some.is).0)
    (rw (← (read_some _ _ _ c.read_access.ensures c.in-Some.is).1) at
    (sym c.end_good.ensures ∙ c.if-not-end_good.false))
    (omega (arith, c.if-procedure-ge-PROCEDURES.false)) (λ h. c.if-mark_at-ne-KNOWN.true (c.mark_at.ensures ∙ h)))

pub returns : goal.returns
returns c =
    let a = c.args in
    ap (λ (n : ℕ). tells (seen_known n))
    (rw c.every_of-sel.ensures at c.chosen_count.ensures ∙ shown_count a.access.now a.self a.procedure)
    ∙ sym (shown_known a.access.now a.self a.procedure
    ((read_some _ _ _ c.read_access.ensures c.in-Some.is).0)
    (rw (← (read_some _ _ _ c.read_access.ensures c.in-Some.is).1) at
    (sym c.end_good.ensures
    ∙ c.if-not-end_good.false))
    (omega (arith, c.if-procedure-ge-PROCEDURES.false))
    (sym c.mark_at.ensures ∙ c.if-mark_at-ne-KNOWN.false))
