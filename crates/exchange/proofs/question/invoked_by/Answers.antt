use mathlib.Core.Path.{sym, ◌∙◌}
use mir.Facts.{to_z-of_z}
use mir.Val.{SFits}
use mir.Syntax.{w16}
use borrow.Author.Rules.{rules}
use Rattle.octets.proofs.Founds.{only_got, only_wrong}
use Rattle.requests.specs.Request.{argument_at}
use Rattle.exchange.specs.Question.{invoked}
use Rattle.exchange.proofs.Questions.{code_fits, code_cast, argued_found, argued_none}
use Rattle.exchange.proofs.question.invoked_by.Goals as goal

pub returns-then-is_duplicate : goal.returns-then-is_duplicate
unfolding invoked
returns-then-is_duplicate c =
    let id = to_z-of_z c.ranges.identifier in
    let twice = sym (rw id at c.is_duplicate.ensures) ∙ c.if-is_duplicate.true in
    rw (twice, id)

pub returns-then-not-is_known : goal.returns-then-not-is_known
unfolding invoked
returns-then-not-is_known c =
    let id = to_z-of_z c.ranges.identifier in
    let operation : SFits w16 c.args.operation.value = search rules in
    let fresh = sym (rw id at c.is_duplicate.ensures) ∙ c.if-is_duplicate.false in
    let unknown = sym (rw (to_z-of_z operation) at c.is_known.ensures) ∙ c.if-not-is_known.true in
    rw (fresh, unknown, id)

pub returns-in_default : goal.returns-in_default
unfolding invoked
returns-in_default c =
    let a = c.args in
    let id = to_z-of_z c.ranges.identifier in
    let operation : SFits w16 a.operation.value = search rules in
    let fresh = sym (rw id at c.is_duplicate.ensures) ∙ c.if-is_duplicate.false in
    let is_known = sym (rw (to_z-of_z operation) at c.is_known.ensures) ∙ c.if-not-is_known.false in
    let argument = argument_at a.operation a.s.now a.at a.end in
    rw (id, fresh, is_known) (argued_none _ a.operation argument (only_wrong argument c.argument_at.ensures c.in_default.is))

pub overflow_cast-result : goal.overflow_cast-result
overflow_cast-result c =
    let operation : SFits w16 c.args.operation.value = search rules in
    let is_known = sym (rw (to_z-of_z operation) at c.is_known.ensures)
    ∙ c.if-not-is_known.false in
    code_fits _ operation is_known

pub returns : goal.returns
unfolding invoked
returns c =
    let a = c.args in
    let id = to_z-of_z c.ranges.identifier in
    let operation : SFits w16 a.operation.value = search rules in
    let fresh = sym (rw id at c.is_duplicate.ensures) ∙ c.if-is_duplicate.false in
    let is_known = sym (rw (to_z-of_z operation) at c.is_known.ensures) ∙ c.if-not-is_known.false in
    let argument = argument_at a.operation a.s.now a.at a.end in
    rw (id, code_cast _ operation is_known, fresh, is_known)
    (argued_found _ a.operation argument _ (only_got argument c.argument_at.ensures c.in-Some.is))
