use Rattle.octets.proofs.Founds.{only_got, only_wrong}
use Rattle.requests.proofs.Numbers.{hears_is}
use Rattle.sconcetoad.proofs.Saids.{asked_found, asked_none}
use Rattle.requests.specs.Request.{argument_at}
use mir.Facts.{to_z-of_z}
use mir.Val.{SFits}
use mir.Syntax.{w16}
use mathlib.Core.Path.{sym, ◌∙◌}
use borrow.Author.Tests.{not-true, not-false}
use borrow.Author.Rules.{rules}
use Rattle.sconcetoad.proofs.said.sconcetoad_said.Goals as goal

pub returns-in_default : goal.returns-in_default
returns-in_default c =
    let found = sym (hears_is c.hear.ensures)
    ∙ c.in-Asks.is in
    let identifier : SFits w16 c.in-Asks.identifier = search rules in
    let operation : SFits w16 c.in-Asks.operation.value = search rules in
    rw found ((rw (to_z-of_z identifier, to_z-of_z operation) at c.nothing_asked-in_default.ensures)
    ∙ asked_none _ _ (argument_at _ _ _ _) (only_wrong (argument_at _ _ _ _) c.argument_at.ensures c.in_default.is))

pub returns-in-NotOne : goal.returns-in-NotOne
returns-in-NotOne c = rw (sym (hears_is c.hear.ensures) ∙ c.in-NotOne.is) c.nothing_asked.ensures

pub returns-in-Silent : goal.returns-in-Silent
returns-in-Silent c = rw (sym (hears_is c.hear.ensures) ∙ c.in-Silent.is) c.nothing_asked-in-Silent.ensures

pub returns-in-OtherTag : goal.returns-in-OtherTag
returns-in-OtherTag c = rw (sym (hears_is c.hear.ensures) ∙ c.in-OtherTag.is) c.nothing_asked-in-OtherTag.ensures

pub returns-in-NoIdentifier : goal.returns-in-NoIdentifier
returns-in-NoIdentifier c = rw (sym (hears_is c.hear.ensures) ∙ c.in-NoIdentifier.is) c.nothing_asked-in-NoIdentifier.ensures

pub returns-in-NoOperation : goal.returns-in-NoOperation
returns-in-NoOperation c =
    let identifier : SFits w16 c.in-NoOperation.identifier = search rules in
    rw (sym (hears_is c.hear.ensures) ∙ c.in-NoOperation.is)
    (rw (to_z-of_z identifier) at c.nothing_asked-in-NoOperation.ensures)

pub returns-in-Some : goal.returns-in-Some
returns-in-Some c =
    let found = sym (hears_is c.hear.ensures)
    ∙ c.in-Asks.is in
    let identifier : SFits w16 c.in-Asks.identifier = search rules in
    let operation : SFits w16 c.in-Asks.operation.value = search rules in
    rw (to_z-of_z identifier, to_z-of_z operation, found)
    (asked_found _ _ (argument_at _ _ _ _) _ (only_got (argument_at _ _ _ _) c.argument_at.ensures c.in-Some.is))
