use borrow.Author.Rules.{rules}
use mathlib.Core.Path.{sym, ◌∙◌}
use native.Mathlib.Omega.{arith}
use lib.ListN.{take}
use Rattle.laws.proofs.Parts.{unmapped}
use Rattle.profile.specs.Profile.{no_number}
use Rattle.instances.proofs.Runs.{next_of, none_of, stored_is}
use Rattle.rules.proofs.TestLaws.{same_here, same_skip, same_other, same_none}
use Rattle.rules.proofs.tests.selected_same.Goals as goal
use Rattle.rules.proofs.tests.selected_same.Goals.{else-is_named-via-then-is_named+else-same, else-is_named-via-else-is_named}

pub returns-then-same : goal.returns-then-same
returns-then-same c =
    let l = c.loop-k in
    let a = c.args in
    let on = next_of (take c.stored.result a.p.numbers) l.k no_number (omega arith) in
    let here = same_here a.p a.asked a.to l.k _ _ _ on (sym c.is_named.ensures ∙ c.if-is_named.true) (sym c.same.ensures ∙ c.if-same.true) in
    let served = stored_is _ a.p.numbercount _ a.p.numbers c.stored.ensures (search (unmapped, rules)) in
    rw (← served) (sym (l.invariant ∙ here))

pub loop-k-preserved : goal.loop-k-preserved
loop-k-preserved c =
    let l = c.loop-k in
    let a = c.args in
    let on = next_of (take c.stored.result a.p.numbers) l.k no_number (omega arith) in
    let named = sym c.is_named.ensures in
    elim c.else-is_named.branch [
      | else-is_named-via-then-is_named+else-same v ↦ l.invariant ∙ same_other a.p a.asked a.to l.k _ _ _ on (named ∙ v.if-is_named.true) (sym v.same.ensures ∙ v.if-same.false)
      | else-is_named-via-else-is_named v ↦ l.invariant ∙ same_skip a.p a.asked a.to l.k _ _ _ on (named ∙ v.if-is_named.false)
    ]

pub returns : goal.returns
returns c =
    let l = c.loop-k in
    let a = c.args in
    let none = same_none a.p a.asked a.to l.k _ (none_of (take c.stored.result a.p.numbers) l.k (omega arith)) in
    let served = stored_is _ a.p.numbercount _ a.p.numbers c.stored.ensures (search (unmapped, rules)) in
    rw (← served) (sym (l.invariant ∙ none))
