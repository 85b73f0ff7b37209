use mathlib.Core.Path.{sym, ◌∙◌}
use mir.Facts.{to_z-of_z}
use Rattle.answers.proofs.Numbers.{replies}
use Rattle.answers.proofs.Replies.{only_or}
use Rattle.answers.proofs.Filled.{reply_one}
use Rattle.answers.proofs.reply.reply_to.Goals as goal

pub returns-in_default : goal.returns-in_default
returns-in_default c = replies (sym (reply_one _ _ _ c.one_element.ensures c.in_default.is))

pub returns-then-not-reply_tag : goal.returns-then-not-reply_tag
returns-then-not-reply_tag c =
    let a = c.args in
    let found = reply_one a.identifier a.operation a.s.now c.one_element.ensures c.in-Some.is in
    replies (rw (found, sym c.reply_tag.ensures ∙ c.if-not-reply_tag.true))

pub returns : goal.returns
returns c =
    let a = c.args in
    let found = reply_one a.identifier a.operation a.s.now c.one_element.ensures c.in-Some.is in
    let own = rw (to_z-of_z c.ranges.identifier) at c.own_at.ensures in
    replies (rw (found, sym c.reply_tag.ensures ∙ c.if-not-reply_tag.false, c.unwrap_or.ensures, own, only_or _ _))
