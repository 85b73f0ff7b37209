use Rattle.exchange.proofs.Arrivals.{done_short, done_long, done_profile, done_table, refused_arrives, read_good}
use Rattle.exchange.proofs.Arrivals.{says_arrives, fails_arrives, lists_arrives, changes_arrives, renews_applied}
use Rattle.exchange.proofs.Tables.{table_over, table_run}
use Rattle.refusals.specs.declared.refusal.Refusal.TheVariants.{ShortOutput, LongComponent, BadProfile, BadTable}
use Rattle.lists.specs.Entries.{instances_most}
use Rattle.rules.specs.Judge.{applied}
use Rattle.profile.proofs.Records.{read_some, read_none}
use lib.ListN.{length}
use mathlib.Core.Path.{◌≡◌, sym, ◌∙◌}
use mir.Facts.{to_z-of_z}
use mir.Syntax.{w16}
use mir.Val.{SFits}
use native.Mathlib.Omega.{arith}
use borrow.Author.Rules.{rules}
use Rattle.exchange.proofs.table.Table.arrive.Goals as goal
use Rattle.exchange.proofs.table.Table.arrive.Goals.{then-renews, else-renews}

pub returns-then-out-lt-OUTPUTLEAST : goal.returns-then-out-lt-OUTPUTLEAST
returns-then-out-lt-OUTPUTLEAST c =
    let a = c.args in
    refused_arrives a.access.now a.self a.component.now a.out.now ShortOutput _
    (done_short a.access.now a.self a.component.now (length a.out.now) (omega (arith, c.if-out-lt-OUTPUTLEAST.true)))
    c.refuses.ensures

pub returns-then-component-gt-COMPONENTMOST : goal.returns-then-component-gt-COMPONENTMOST
returns-then-component-gt-COMPONENTMOST c =
    let a = c.args in
    refused_arrives a.access.now a.self a.component.now a.out.now LongComponent _
    (done_long a.access.now a.self a.component.now (length a.out.now) (omega (arith, c.if-out-lt-OUTPUTLEAST.false))
    (omega (arith, c.if-component-gt-COMPONENTMOST.true)))
    c.refuses-then-component-gt-COMPONENTMOST.ensures

pub returns-in_default : goal.returns-in_default
returns-in_default c =
    let a = c.args in
    refused_arrives a.access.now a.self a.component.now a.out.now BadProfile _
    (done_profile a.access.now a.self a.component.now (length a.out.now)
    (omega (arith, c.if-out-lt-OUTPUTLEAST.false)) (omega (arith, c.if-component-gt-COMPONENTMOST.false))
    (read_none a.access.now _ c.read_access.ensures c.in_default.is))
    c.refuses-in_default.ensures

pub returns-then-self-gt-LASTMOST : goal.returns-then-self-gt-LASTMOST
returns-then-self-gt-LASTMOST c =
    let a = c.args in
    refused_arrives a.access.now a.self a.component.now a.out.now BadTable _
    (done_table a.access.now a.self a.component.now (length a.out.now)
    (omega (arith, c.if-out-lt-OUTPUTLEAST.false))
    (omega (arith, c.if-component-gt-COMPONENTMOST.false))
    (read_some a.access.now _ _ c.read_access.ensures c.in-Some.is).0
    (table_over instances_most _ a.self c.if-self-gt-LASTMOST.true))
    c.refuses-then-self-gt-LASTMOST.ensures

pub returns-then-not-good : goal.returns-then-not-good
returns-then-not-good c =
    let a = c.args in
    let read = read_some a.access.now _ _ c.read_access.ensures c.in-Some.is in
    refused_arrives a.access.now a.self a.component.now a.out.now BadTable _
    (done_table a.access.now a.self a.component.now (length a.out.now)
    (omega (arith, c.if-out-lt-OUTPUTLEAST.false))
    (omega (arith, c.if-component-gt-COMPONENTMOST.false))
    read.0
    (rw read.1
    (table_run instances_most _ a.self c.if-self-gt-LASTMOST.false ∙ sym c.good.ensures
    ∙ c.if-not-good.true)))
    c.refuses-then-not-good.ensures

pub returns-in-Err : goal.returns-in-Err
returns-in-Err c =
    let a = c.args in
    rw c.answers.ensures
    (says_arrives a.access.now a.self a.component.now a.out.now c.in-Some.p
    (read_some a.access.now _ _ c.read_access.ensures c.in-Some.is)
    (omega (arith, c.if-out-lt-OUTPUTLEAST.false))
    (omega (arith, c.if-component-gt-COMPONENTMOST.false))
    c.if-self-gt-LASTMOST.false (sym c.good.ensures ∙ c.if-not-good.false)
    c.question_of.result c.question_of.ensures _ _
    _ c.in-Err.is c.put_answer-count.ensures)

pub returns-in-Err-judge_request : goal.returns-in-Err-judge_request
returns-in-Err-judge_request c =
    let a = c.args in
    let id : SFits w16 c.in-Ok.asked.identifier = search rules in
    rw (c.answers-in-Err-judge_request.ensures, to_z-of_z id)
    (fails_arrives a.access.now a.self a.component.now a.out.now c.in-Some.p
    (read_some a.access.now _ _ c.read_access.ensures c.in-Some.is)
    (omega (arith, c.if-out-lt-OUTPUTLEAST.false))
    (omega (arith, c.if-component-gt-COMPONENTMOST.false))
    c.if-self-gt-LASTMOST.false (sym c.good.ensures ∙ c.if-not-good.false)
    c.question_of.result c.question_of.ensures _ _
    c.in-Ok.asked c.in-Ok.is _
    (rw (to_z-of_z id) at c.last_after-last.ensures)
    _ c.judge_request.ensures.verdict _
    c.in-Err-judge_request.is _ c.from.ensures
    (rw (to_z-of_z id) at c.put_answer-count-in-Err-judge_request.ensures))

pub returns-then-asked-eq-INTERROGATION : goal.returns-then-asked-eq-INTERROGATION
returns-then-asked-eq-INTERROGATION c =
    let a = c.args in
    let id : SFits w16 c.in-Ok.asked.identifier = search rules in
    rw (c.answers-then-asked-eq-INTERROGATION.ensures, to_z-of_z id)
    (lists_arrives a.access.now a.self a.component.now a.out.now c.in-Some.p
    (read_some a.access.now _ _ c.read_access.ensures c.in-Some.is)
    (omega (arith, c.if-out-lt-OUTPUTLEAST.false))
    (omega (arith, c.if-component-gt-COMPONENTMOST.false))
    c.if-self-gt-LASTMOST.false (sym c.good.ensures ∙ c.if-not-good.false)
    c.question_of.result c.question_of.ensures _ _
    c.in-Ok.asked c.in-Ok.is _ (rw (to_z-of_z id) at c.last_after-last.ensures)
    _ c.judge_request.ensures _
    c.in-Ok-judge_request.is
    c.if-asked-eq-INTERROGATION.true
    (rw c.selection_of-sel.ensures at
    (rw (to_z-of_z id) at c.put_listed-count.ensures)))

pub returns-in-Ok-judge_request : goal.returns-in-Ok-judge_request
returns-in-Ok-judge_request c =
    let a = c.args in
    let id : SFits w16 c.in-Ok.asked.identifier = search rules in
    let good = sym c.good.ensures ∙ c.if-not-good.false in
    let read = read_some a.access.now _ _ c.read_access.ensures c.in-Some.is in
    let applies : c.if-renews.next ≡ applied c.in-Some.p c.in-Ok.asked.operation c.in-Ok.asked.request a.self.run =
    elim c.if-renews.branch [
      | then-renews v ↦ v.next-is ∙ renews_applied c.in-Some.p
          (read_good a.access.now c.in-Some.p read) a.self.run good _ _ _ c.judge_request.ensures _
          c.in-Ok-judge_request.is v.if-renews.true _ v.renew_request-next.ensures
      | else-renews v ↦ v.next-is ∙ v.apply_request-next.ensures
    ] in
    rw (c.answers-in-Ok-judge_request.ensures, to_z-of_z id)
    (changes_arrives a.access.now a.self a.component.now a.out.now c.in-Some.p read
    (omega (arith, c.if-out-lt-OUTPUTLEAST.false))
    (omega (arith, c.if-component-gt-COMPONENTMOST.false))
    c.if-self-gt-LASTMOST.false good
    c.question_of.result c.question_of.ensures _ _
    c.in-Ok.asked c.in-Ok.is _ (rw (to_z-of_z id) at c.last_after-last.ensures)
    _ c.judge_request.ensures _
    c.in-Ok-judge_request.is
    c.if-asked-eq-INTERROGATION.false _ applies
    (rw (to_z-of_z id) at c.put_answer-count-in-Ok-judge_request.ensures))
