use mathlib.Core.Path.{sym, ◌∙◌}
use lib.IntN.{pos}
use mir.Val.{SFits}
use mir.Syntax.{w16}
use borrow.Author.Tests.{eq-eqb, ne_eqb}
use borrow.Author.Rules.{rules}
use Rattle.octets.proofs.Founds.{found_got}
use Rattle.values.specs.Ident.{ident_at}
use Rattle.skip.specs.Depth.{argument_depth}
use Rattle.answers.specs.Reply.{sequence_at}
use Rattle.answers.proofs.Replies.{same_bits}
use Rattle.answers.proofs.reply.sequence_at.Goals as goal

pub returns-then-value-ne-INTERROGATIONVALUE : goal.returns-then-value-ne-INTERROGATIONVALUE
unfolding sequence_at
returns-then-value-ne-INTERROGATIONVALUE c =
    let a = c.args in
    let id : SFits w16 c.in_ok-value.field-0.value = search rules in
    let eleven : SFits w16 (pos 11) = search rules in
    let found = found_got (ident_at argument_depth a.s.now a.at a.end) c.ident_at.ensures c.in_ok-value.was in
    let other = sym (same_bits _ _ id eleven) ∙ ne_eqb _ _ c.if-value-ne-INTERROGATIONVALUE.true in
    rw (found, other)

pub returns : goal.returns
unfolding sequence_at
returns c =
    let a = c.args in
    let id : SFits w16 c.in_ok-value.field-0.value = search rules in
    let eleven : SFits w16 (pos 11) = search rules in
    let found = found_got (ident_at argument_depth a.s.now a.at a.end) c.ident_at.ensures c.in_ok-value.was in
    let same = sym (same_bits _ _ id eleven) ∙ eq-eqb _ _ c.if-value-ne-INTERROGATIONVALUE.false in
    rw (found, same) c.set_at.ensures
