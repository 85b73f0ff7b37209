use mathlib.Core.Path.{sym, ◌∙◌}
use mir.Facts.{to_z-of_z}
use mir.Val.{SFits}
use mir.Syntax.{w16}
use Rattle.requests.proofs.Numbers.{hears_is}
use Rattle.explanations.specs.Explained.{said}
use borrow.Author.Rules.{rules}
use Rattle.explanations.proofs.row.write_said.Goals as goal

pub returns-in-NotOne : goal.returns-in-NotOne
unfolding said
returns-in-NotOne c =
    rw (sym (hears_is c.hear.ensures)
    ∙ c.in-NotOne.is) c.write_text.ensures

pub returns-in-Silent : goal.returns-in-Silent
unfolding said
returns-in-Silent c =
    rw (sym (hears_is c.hear.ensures)
    ∙ c.in-Silent.is) c.write_silent.ensures

pub returns-in-OtherTag : goal.returns-in-OtherTag
unfolding said
returns-in-OtherTag c =
    rw (sym (hears_is c.hear.ensures)
    ∙ c.in-OtherTag.is) c.write_text-in-OtherTag.ensures

pub returns-in-NoIdentifier : goal.returns-in-NoIdentifier
unfolding said
returns-in-NoIdentifier c =
    rw (sym (hears_is c.hear.ensures)
    ∙ c.in-NoIdentifier.is) c.write_text-in-NoIdentifier.ensures

pub returns-in-NoOperation : goal.returns-in-NoOperation
unfolding said
returns-in-NoOperation c =
    let id : SFits w16 c.in-NoOperation.identifier = search rules in
    rw (sym (hears_is c.hear.ensures)
    ∙ c.in-NoOperation.is) (rw (to_z-of_z id) at c.write_row.ensures)

pub returns-in-Asks : goal.returns-in-Asks
unfolding said
returns-in-Asks c =
    let id : SFits w16 c.in-Asks.identifier = search rules in
    rw (sym (hears_is c.hear.ensures)
    ∙ c.in-Asks.is) (rw (to_z-of_z id) at c.write_asked.ensures)
