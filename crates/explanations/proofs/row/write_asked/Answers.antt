use Rattle.octets.proofs.Founds.{only_got, only_wrong}
use mathlib.Core.Path.{sym, ◌∙◌}
use mir.Facts.{to_z-of_z}
use mir.Val.{SFits}
use mir.Syntax.{w16}
use Rattle.requests.specs.Request.{argument_at}
use Rattle.explanations.specs.Explained.{operation_no, asked_text}
use Rattle.explanations.proofs.Rows.{argument_untold, argument_told}
use borrow.Author.Rules.{rules}
use Rattle.explanations.proofs.row.write_asked.Goals as goal

pub returns-then-not-is_operation : goal.returns-then-not-is_operation
unfolding asked_text
returns-then-not-is_operation c =
    let a = c.args in
    let id = to_z-of_z c.ranges.identifier in
    let operation : SFits w16 a.operation.value = search rules in
    let number = rw (to_z-of_z operation) at c.operation_no-number.ensures in
    let unknown = rw number at (sym c.is_operation.ensures ∙ c.if-not-is_operation.true) in
    rw unknown (rw id at c.write_row.ensures)

pub returns-in_default : goal.returns-in_default
unfolding asked_text
returns-in_default c =
    let a = c.args in
    let id = to_z-of_z c.ranges.identifier in
    let operation : SFits w16 a.operation.value = search rules in
    let number = rw (to_z-of_z operation) at
    c.operation_no-number.ensures in
    let known = rw number at (sym c.is_operation.ensures
    ∙ c.if-not-is_operation.false) in
    let none = argument_untold a.identifier (operation_no a.operation.value) (argument_at a.operation a.s.now a.at a.end)
    (only_wrong (argument_at a.operation a.s.now a.at a.end) c.argument_at.ensures c.in_default.is) in
    rw (known, none) (rw id at c.write_row-in_default.ensures)

pub returns : goal.returns
unfolding asked_text
returns c =
    let a = c.args in
    let id = to_z-of_z c.ranges.identifier in
    let operation : SFits w16 a.operation.value = search rules in
    let number = rw (to_z-of_z operation) at
    c.operation_no-number.ensures in
    let known = rw number at (sym c.is_operation.ensures
    ∙ c.if-not-is_operation.false) in
    let found = argument_told a.identifier (operation_no a.operation.value) (argument_at a.operation a.s.now a.at a.end) _
    (only_got (argument_at a.operation a.s.now a.at a.end) c.argument_at.ensures c.in-Some.is) in
    rw (known, found) (rw (id, number) at c.write_request.ensures)
