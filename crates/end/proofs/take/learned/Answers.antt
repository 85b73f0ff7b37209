use Rattle.lists.specs.Entries.{instances_most, entries_from}
use Rattle.lists.proofs.Held.{accepted_held}
use Rattle.end.specs.End.{closed}
use Rattle.end.proofs.GoodLists.{list_own}
use Rattle.end.proofs.Learnings.{new_few, new_held, entered, learned_wrong, learned_bad, learned_good}
use Rattle.laws.proofs.Parts.{unmapped}
use borrow.Author.Tests.{not-true, not-false}
use lib.ListN.{length}
use mathlib.Core.Path.{◌≡◌, sym, ◌∙◌}
use borrow.Author.Rules.{rules}
use Rattle.end.proofs.take.learned.Goals as goal

pub list_good-requires : goal.list_good-requires
list_good-requires c =
    let a = c.args in
    let list = c.in-Some.list in
    let long : length list.entries ≡ instances_most = search (unmapped, rules) in
    let held = accepted_held a.s.now a.at a.end c.entries_at.result c.entries_at.ensures list c.in-Some.is in
    let made = c.run_from-new.ensures in
    (new_few a.p list long _ made, new_held a.p list long _ made held)

pub replaced_by-e-requires : goal.replaced_by-e-requires
replaced_by-e-requires c =
    let a = c.args in
    list_own instances_most a.p a.e.now.request.procedure _ (sym c.list_good.ensures ∙ c.if-not-list_good.false)

pub returns-in_default : goal.returns-in_default
returns-in_default c =
    let a = c.args in
    c.doubted.ensures ∙
    learned_wrong a.p a.e.now (entries_from instances_most a.s.now a.at a.end) _ c.entries_at.ensures c.in_default.is

pub returns-then-not-list_good : goal.returns-then-not-list_good
returns-then-not-list_good c =
    let a = c.args in
    let got = entered a.p a.e.now (entries_from instances_most a.s.now a.at a.end) _ c.in-Some.list c.entries_at.ensures c.in-Some.is in
    let long : length c.in-Some.list.entries ≡ instances_most =
    search (unmapped, rules) in
    c.doubted-then-not-list_good.ensures ∙
    learned_bad a.p a.e.now got.es _ got.is long _ c.run_from-new.ensures
    (sym c.list_good.ensures ∙ c.if-not-list_good.true) ∙
    got.by

pub returns : goal.returns
unfolding closed
returns c =
    let a = c.args in
    let got = entered a.p a.e.now (entries_from instances_most a.s.now a.at a.end) _ c.in-Some.list c.entries_at.ensures c.in-Some.is in
    let long : length c.in-Some.list.entries ≡ instances_most =
    search (unmapped, rules) in
    c.closed.ensures ∙
    learned_good a.p a.e.now got.es _ got.is long _ c.run_from-new.ensures
    (sym c.list_good.ensures ∙ c.if-not-list_good.false) _
    c.replaced_by-e.ensures ∙
    got.by
