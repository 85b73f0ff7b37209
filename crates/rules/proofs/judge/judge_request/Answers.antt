use borrow.Author.Rules.{rules}
use mathlib.Core.Path.{◌≡◌, sym, ◌∙◌}
use Rattle.std.specs.Prelude.{Err}
use Rattle.lists.specs.Entries.{instances_most}
use Rattle.instances.specs.Run.{instances_of}
use Rattle.rules.proofs.Judges.{judged_fails, judged_passes, judged_put, judged_clear, renews_other, judge_fails, judge_interrogation}
use Rattle.rules.proofs.judge.judge_request.Goals as goal

pub returns-in_err-judge_every : goal.returns-in_err-judge_every
returns-in_err-judge_every c =
    let s = c.args in
    let fails : c.from_residual.result ≡ Err c.in_err-judge_every.field-0.0 = search rules in
    rw (fails, judge_fails instances_most s.p s.operation s.r (instances_of s.run) _ (sym c.in_err-judge_every.ensures)) (judged_fails _ _)

pub returns-in_err-judge_activation : goal.returns-in_err-judge_activation
returns-in_err-judge_activation c =
    let s = c.args in
    let fails : c.from_residual-in_err-judge_activation.result ≡ Err c.in_err-judge_activation.field-0.0 = search rules in
    rw fails
    (judged_put instances_most s.p s.operation s.r (instances_of s.run) c.selection_of-sel.result (sym c.in_ok-judge_every.ensures)
    c.selection_of-sel.ensures c.count_after-after.result c.if-operation-eq-ACTIVATION.true c.count_after-after.ensures.count
    c.count_after-after.ensures.renews _ (rw (← c.in_err-judge_activation.ensures) (judged_fails _ _)))

pub returns-then-operation-eq-ACTIVATION : goal.returns-then-operation-eq-ACTIVATION
returns-then-operation-eq-ACTIVATION c =
    let s = c.args in
    judged_put instances_most s.p s.operation s.r (instances_of s.run) c.selection_of-sel.result (sym c.in_ok-judge_every.ensures)
    c.selection_of-sel.ensures c.count_after-after.result c.if-operation-eq-ACTIVATION.true c.count_after-after.ensures.count
    c.count_after-after.ensures.renews _ (rw (← c.in_ok-judge_activation.ensures) (judged_passes _))

pub returns-in_err-judge_deactivation : goal.returns-in_err-judge_deactivation
returns-in_err-judge_deactivation c =
    let s = c.args in
    let fails : c.from_residual-in_err-judge_deactivation.result ≡ Err c.in_err-judge_deactivation.field-0.0 = search rules in
    rw fails
    (judged_clear instances_most s.p s.operation s.r (instances_of s.run) c.selection_of-sel.result (sym c.in_ok-judge_every.ensures)
    c.selection_of-sel.ensures c.chosen_count.result c.if-operation-eq-ACTIVATION.false c.if-operation-eq-DEACTIVATION.true
    c.chosen_count.ensures _ (rw (← c.in_err-judge_deactivation.ensures) (judged_fails _ _)))

pub returns-in_ok-judge_deactivation : goal.returns-in_ok-judge_deactivation
returns-in_ok-judge_deactivation c =
    let s = c.args in
    judged_clear instances_most s.p s.operation s.r (instances_of s.run) c.selection_of-sel.result (sym c.in_ok-judge_every.ensures)
    c.selection_of-sel.ensures c.chosen_count.result c.if-operation-eq-ACTIVATION.false c.if-operation-eq-DEACTIVATION.true
    c.chosen_count.ensures _ (rw (← c.in_ok-judge_deactivation.ensures) (judged_passes _))

pub returns-else-operation-eq-DEACTIVATION : goal.returns-else-operation-eq-DEACTIVATION
returns-else-operation-eq-DEACTIVATION c =
    let s = c.args in
    let activates = c.if-operation-eq-ACTIVATION.false in
    rw (judge_interrogation instances_most s.p s.operation s.r (instances_of s.run) activates c.if-operation-eq-DEACTIVATION.false
    ∙ sym c.in_ok-judge_every.ensures)
    (rw (renews_other s.p s.operation s.r (instances_of s.run) activates) (judged_passes _))
