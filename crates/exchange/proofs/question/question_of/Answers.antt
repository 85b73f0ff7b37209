use mathlib.Core.Path.{sym, ◌∙◌}
use mir.Facts.{to_z-of_z}
use mir.Val.{SFits}
use mir.Syntax.{w16}
use borrow.Author.Rules.{rules}
use Rattle.requests.proofs.Numbers.{hears_is}
use Rattle.exchange.specs.Question.{question}
use Rattle.exchange.proofs.question.question_of.Goals as goal

pub returns-in-NotOne : goal.returns-in-NotOne
unfolding question
returns-in-NotOne c = rw (sym (hears_is c.hear.ensures) ∙ c.in-NotOne.is, c.rejects_null.ensures)

pub returns-in-Silent : goal.returns-in-Silent
unfolding question
returns-in-Silent c = rw (sym (hears_is c.hear.ensures) ∙ c.in-Silent.is)

pub returns-in-OtherTag : goal.returns-in-OtherTag
unfolding question
returns-in-OtherTag c = rw (sym (hears_is c.hear.ensures) ∙ c.in-OtherTag.is, c.rejects_null-in-OtherTag.ensures)

pub returns-in-NoIdentifier : goal.returns-in-NoIdentifier
unfolding question
returns-in-NoIdentifier c = rw (sym (hears_is c.hear.ensures) ∙ c.in-NoIdentifier.is, c.rejects_null-in-NoIdentifier.ensures)

pub returns-in-NoOperation : goal.returns-in-NoOperation
unfolding question
returns-in-NoOperation c =
    let id : SFits w16 c.in-NoOperation.identifier = search rules in
    rw (sym (hears_is c.hear.ensures) ∙ c.in-NoOperation.is, to_z-of_z id)

pub returns-in-Asks : goal.returns-in-Asks
unfolding question
returns-in-Asks c =
    let id : SFits w16 c.in-Asks.identifier = search rules in
    (rw (sym (hears_is c.hear.ensures) ∙ c.in-Asks.is)
    (rw (to_z-of_z id) at c.invoked_by.ensures))
