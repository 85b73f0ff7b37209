use mathlib.Core.Path.{sym, ◌∙◌}
use mir.Facts.{to_z-of_z}
use mir.Val.{SFits}
use mir.Syntax.{w16}
use borrow.Author.Tests.{eq-eqb, ne_eqb}
use borrow.Author.Rules.{rules}
use Rattle.octets.proofs.Founds.{found_got}
use Rattle.values.specs.Ident.{ident_at}
use Rattle.skip.specs.Depth.{inside_depth}
use Rattle.answers.specs.Reply.{own_at, said_at}
use Rattle.answers.proofs.Replies.{same_bits, only_or}
use Rattle.answers.proofs.reply.own_at.Goals as goal

pub returns-then-value-identifier : goal.returns-then-value-identifier
unfolding own_at
returns-then-value-identifier c =
    let a = c.args in
    let id : SFits w16 c.in_ok-value.field-0.value = search rules in
    let found = found_got (ident_at inside_depth a.s.now a.at a.end) c.ident_at.ensures c.in_ok-value.was in
    let other = sym (same_bits _ _ id c.ranges.identifier) ∙ ne_eqb _ _ c.if-value-identifier.true in
    rw (found, other)

pub returns : goal.returns
unfolding own_at
returns c =
    let a = c.args in
    let id : SFits w16 c.in_ok-value.field-0.value = search rules in
    let found = found_got (ident_at inside_depth a.s.now a.at a.end) c.ident_at.ensures c.in_ok-value.was in
    let same = sym (same_bits _ _ id c.ranges.identifier) ∙ eq-eqb _ _ c.if-value-identifier.false in
    rw (found, same, c.unwrap_or.ensures, c.said_at.ensures, only_or _ _)
