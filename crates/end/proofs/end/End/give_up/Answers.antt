use Rattle.end.proofs.Movings.{gives_profile, gives_end, gives_all, gave_nothing, gave_doubt, refused_moves, all_moves}
use Rattle.end.specs.Taking.{gives_up}
use Rattle.refusals.specs.declared.refusal.Refusal.TheVariants.{BadProfile, BadTable}
use Rattle.profile.proofs.Records.{read_some, read_none}
use borrow.Author.Tests.{not-true, not-false}
use mathlib.Core.Path.{sym, ap, ◌∙◌}
use Rattle.end.proofs.end.End.give_up.Goals as goal

pub returns-in_default : goal.returns-in_default
returns-in_default c =
    let a = c.args in
    refused_moves (gives_up a.access.now a.self) a.self BadProfile _
    (gives_profile a.access.now a.self
    (read_none _ _ c.read_access.ensures c.in_default.is))
    c.refuses.ensures

pub returns-then-not-end_good : goal.returns-then-not-end_good
returns-then-not-end_good c =
    let a = c.args in
    refused_moves (gives_up a.access.now a.self) a.self BadTable _
    (gives_end a.access.now a.self
    ((read_some _ _ _ c.read_access.ensures c.in-Some.is).0)
    (rw (← (read_some _ _ _ c.read_access.ensures c.in-Some.is).1) at
    (sym c.end_good.ensures ∙ c.if-not-end_good.true))) c.refuses-then-not-end_good.ensures

pub returns-then-self-ne1 : goal.returns-then-self-ne1
returns-then-self-ne1 c =
    let a = c.args in
    all_moves (gives_up a.access.now a.self) _ _
    (gives_all a.access.now a.self
    ((read_some _ _ _ c.read_access.ensures c.in-Some.is).0)
    (rw (← (read_some _ _ _ c.read_access.ensures c.in-Some.is).1) at
    (sym c.end_good.ensures ∙ c.if-not-end_good.false)))
    (sym (gave_nothing a.self c.if-self-ne1.true))

pub returns : goal.returns
returns c =
    let a = c.args in
    all_moves (gives_up a.access.now a.self) _ _
    (gives_all a.access.now a.self
    ((read_some _ _ _ c.read_access.ensures c.in-Some.is).0)
    (rw (← (read_some _ _ _ c.read_access.ensures c.in-Some.is).1) at
    (sym c.end_good.ensures ∙ c.if-not-end_good.false)))
    (c.doubted.ensures ∙ sym (gave_doubt a.self c.if-self-ne1.false))
