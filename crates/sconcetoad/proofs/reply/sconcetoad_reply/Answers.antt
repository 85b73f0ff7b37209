use mir.Val.{SFits}
use mir.Syntax.{w16}
use Rattle.answers.proofs.Numbers.{replies_is}
use Rattle.sconcetoad.proofs.Replies.{told_found, told_none}
use Rattle.lists.specs.Entries.{entries_from}
use mir.Facts.{to_z-of_z}
use mathlib.Core.Path.{sym, ◌∙◌}
use borrow.Author.Tests.{not-true, not-false}
use borrow.Author.Rules.{rules}
use Rattle.sconcetoad.proofs.reply.sconcetoad_reply.Goals as goal

pub returns-in_default : goal.returns-in_default
returns-in_default c =
    let found = sym (replies_is (rw
    (to_z-of_z c.ranges.identifier) at
    c.reply_to.ensures))
    ∙ c.in-Listed.is in
    rw found (c.not_listed-in_default.ensures
    ∙ told_none (entries_from _ _ _ _) _ c.entries_at.ensures c.in_default.is)

pub returns-in-Dropped : goal.returns-in-Dropped
returns-in-Dropped c =
    rw (sym (replies_is (rw (to_z-of_z c.ranges.identifier) at
    c.reply_to.ensures)) ∙ c.in-Dropped.is) c.not_listed.ensures

pub returns-in-Rejected : goal.returns-in-Rejected
returns-in-Rejected c =
    rw (sym (replies_is (rw (to_z-of_z c.ranges.identifier) at
    c.reply_to.ensures)) ∙ c.in-Rejected.is) c.not_listed-in-Rejected.ensures

pub returns-in-Failed : goal.returns-in-Failed
returns-in-Failed c =
    let value : SFits w16 c.in-Failed.value = search rules in
    rw (sym (replies_is (rw (to_z-of_z c.ranges.identifier) at
    c.reply_to.ensures)) ∙ c.in-Failed.is)
    (rw (to_z-of_z value) at c.not_listed-in-Failed.ensures)

pub returns-in-Done : goal.returns-in-Done
returns-in-Done c =
    rw (sym (replies_is (rw (to_z-of_z c.ranges.identifier) at
    c.reply_to.ensures)) ∙ c.in-Done.is) c.not_listed-in-Done.ensures

pub returns-in-Some : goal.returns-in-Some
returns-in-Some c =
    let found = sym (replies_is (rw
    (to_z-of_z c.ranges.identifier) at
    c.reply_to.ensures))
    ∙ c.in-Listed.is in
    rw found (told_found (entries_from _ _ _ _) _ _ c.entries_at.ensures c.in-Some.is)

pub returns-in-Wrong : goal.returns-in-Wrong
returns-in-Wrong c =
    rw (sym (replies_is (rw (to_z-of_z c.ranges.identifier) at
    c.reply_to.ensures)) ∙ c.in-Wrong.is) c.not_listed-in-Wrong.ensures
