use Rattle.rules.proofs.Changes.{put_applied, clear_applied, applied_other}
use mathlib.Core.Path.{sym}
use Rattle.rules.proofs.judge.apply_request.Goals as goal

pub returns-then-operation-eq-ACTIVATION : goal.returns-then-operation-eq-ACTIVATION
returns-then-operation-eq-ACTIVATION c =
    let s = c.args in
    put_applied s.p s.operation s.r s.run c.put.result c.selection_of-sel.result c.selection_of-sel.ensures
    c.if-operation-eq-ACTIVATION.true c.put.ensures

pub returns-then-operation-eq-DEACTIVATION : goal.returns-then-operation-eq-DEACTIVATION
returns-then-operation-eq-DEACTIVATION c =
    let s = c.args in
    clear_applied s.p s.operation s.r s.run c.clear.result c.selection_of-sel-then-operation-eq-DEACTIVATION.result
    c.selection_of-sel-then-operation-eq-DEACTIVATION.ensures c.if-operation-eq-ACTIVATION.false c.if-operation-eq-DEACTIVATION.true c.clear.ensures

pub returns : goal.returns
returns c =
    let s = c.args in
    sym (applied_other s.p s.operation s.r s.run c.if-operation-eq-ACTIVATION.false c.if-operation-eq-DEACTIVATION.false)
