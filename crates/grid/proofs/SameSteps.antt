-- A step is the same over a grid and a run that hold the same: the answer, the entries of a list, and what is held afterwards.
-- Assumes nothing.
use Prim.Native.Nat.{ℕ}
use mathlib.Core.Bool.{false, true}
use mathlib.Core.List.{List, map}
use mathlib.Core.Option.{Option, none, some}
use mathlib.Core.Path.{◌∙◌, ◌≡◌, ap, refl, sym}
use lib.Dec.{eqb}
use lib.IntN.{ℤ}
use lib.Signed.{mag}
use borrow.Author.Tests.{eqb-false, eqb-true}
use Rattle.laws.proofs.Picks.{by_bool}
use Rattle.codes.specs.Codes.{activation, interrogation}
use Rattle.requests.specs.declared.request.Request.{Request}
use Rattle.requests.specs.Spelt.{Known, activation_is, deactivation_is, interrogation_is}
use Rattle.profile.specs.declared.profile.Profile.{Profile}
use Rattle.lists.specs.Entries.{instances_most}
use Rattle.instances.specs.Run.{entry_for, instances_of, listed}
use Rattle.instances.specs.declared.instance.Instance.{Instance}
use Rattle.rules.specs.Selection.{selection_of}
use Rattle.rules.specs.Judge.{changed, judge}
use Rattle.rules.proofs.Judges.{kind_known}
use Rattle.rules.proofs.Changes.{changed_activation, changed_deactivation}
use Rattle.exchange.specs.Question.{Question, asks, question, says}
use Rattle.exchange.specs.Step.{Step, handled, last_after, step}
use Rattle.exchange.specs.declared.table.Table.{Table}
use Rattle.exchange.proofs.Nexts.{applied_holds}
use Rattle.exchange.proofs.Questions.{RequestAsked, question_asks}
use Rattle.exchange.proofs.Steps.{after_moves, after_stays, handled_changes, handled_fails, handled_lists, step_asks, step_says}
use Rattle.grid.specs.Equal.{HoldSame}
use Rattle.grid.specs.Grid.{row_at}
use Rattle.grid.specs.Holds.{holds}
use Rattle.grid.specs.Judge.{grid_judge}
use Rattle.grid.specs.Row.{Row}
use Rattle.grid.specs.Selection.{cell_places}
use Rattle.grid.specs.Step.{GridStep, grid_asks, grid_moved, grid_step, grid_step_of}
use Rattle.grid.specs.Table.{GridTable, grid_with_row}
use Rattle.grid.proofs.HandledRequests.{asks_changed, asks_fails, asks_listed, grid_changed, subscribed}
use Rattle.grid.proofs.HeldListings.{entries_same}
use Rattle.grid.proofs.HeldRequests.{activation_held, clear_held}
use Rattle.grid.proofs.Judges.{applied_activation, applied_deactivation, judge_activation}
use Rattle.grid.proofs.ProfilePlaces.{WholeProfile}
use Rattle.grid.proofs.Questions.{step_is}
use Rattle.grid.proofs.SameJudges.{judge_same}
use Rattle.grid.proofs.Tables.{moved_grid, moved_last}

-- the same answer and entries, and tables that hold the same
pub record StepSame (x : GridStep) (y : Step) : Type 0 where
  pub answer : x.answer ≡ y.answer
  pub entries : x.entries ≡ y.entries
  pub last : x.next.last ≡ y.next.last
  pub held : holds x.next.grid ≡ instances_of y.next.run

module _ (p : Profile) (whole : WholeProfile p) (g : GridTable) (t : Table) (so : HoldSame p g t) where
  -- ---- a request that is judged

  module _ (identifier : ℤ) (operation : ℕ) (r : Request) (asked : RequestAsked p t.last identifier operation r) where
    abbrev row : Row
    row = row_at g.grid r.procedure

    abbrev verdict : Option ℕ
    verdict = grid_judge instances_most p operation r (cell_places p r) row

    verdict_same : verdict ≡ judge instances_most p operation r (instances_of t.run)
    verdict_same =
        judge_same p whole g so.shaped so.grid_good_lem operation r asked.procedure asked.to
        ∙ ap (judge instances_most p operation r) so.held

    -- "Only a result or an error on a counted end moves the last handled identifier": a negative one is no new one there
    last_same : (u : GridTable) → u.last ≡ t.last → (grid_moved p identifier u).last ≡ last_after p identifier t.last
    last_same u same =
        moved_last p identifier u
        ∙ by_bool _ (eqb p.counted 1)
        (λ (e : eqb p.counted 1 ≡ true).
        let counted = eqb-true p.counted 1 e in
        rw e
        (sym (after_moves p (mag identifier) t.last counted)
        ∙ ap (λ (z : ℤ). last_after p z t.last) (sym (asked.above counted).number)))
        (λ (e : eqb p.counted 1 ≡ false).
        rw e (same ∙ sym (after_stays p identifier t.last (eqb-false p.counted 1 e))))

    -- what the request makes of what is held
    changed_held :
        verdict ≡ none → Known operation → (operation ≡ interrogation → ⊥) →
        holds (grid_changed p g identifier operation r).grid ≡ changed p operation r (holds g.grid)
    changed_held passes (activation_is e) other =
        let judged : grid_judge instances_most p activation r (cell_places p r) row ≡ none = rw e at passes in
        let told = judge_activation instances_most p r (cell_places p r) row judged in
        let flag = subscribed instances_most p activation r row whole.good asked.procedure judged in
        let address = asked.to e (kind_known r.to.address.number told.kind) in
        rw e
        (ap (λ (x : Row). holds (grid_with_row r.procedure x g).grid) (applied_activation r (cell_places p r) row)
        ∙ activation_held p whole r g so.shaped asked.procedure flag address so.grid_good_lem told.room
        ∙ sym (changed_activation p r (holds g.grid)))
    changed_held passes (deactivation_is e) other =
        rw e
        (ap (λ (x : Row). holds (grid_with_row r.procedure x g).grid) (applied_deactivation r (cell_places p r) row)
        ∙ clear_held p whole r g so.shaped asked.procedure instances_most so.grid_good_lem
        ∙ sym (changed_deactivation p r (holds g.grid)))
    changed_held passes (interrogation_is e) other = absurd (other e)

    judged_same : (v : Option ℕ) → verdict ≡ v → StepSame (grid_asks p g identifier operation r) (handled p t identifier operation r)
    judged_same (some error) fails =
        rw (
          asks_fails p g identifier operation r error fails,
          handled_fails p t identifier operation r error (sym verdict_same ∙ fails),
        )
        (record {
          answer = refl;
          entries = refl;
          last = last_same g so.last;
          held = ap holds (moved_grid p identifier g) ∙ so.held;
        })
    judged_same none passes =
        let right : judge instances_most p operation r (instances_of t.run) ≡ none = sym verdict_same ∙ passes in
        by_bool _ (eqb operation interrogation)
        (λ (e : eqb operation interrogation ≡ true).
        let lists = eqb-true operation interrogation e in
        rw (asks_listed p g identifier operation r passes lists, handled_lists p t identifier operation r right lists)
        (record {
          answer = refl;
          entries =
              sym (entries_same instances_most p whole g so.grid_good_lem r asked.procedure)
              ∙ ap (λ (is : List Instance). map (entry_for p.numbers) (listed (selection_of p r) is)) so.held;
          last = last_same g so.last;
          held = ap holds (moved_grid p identifier g) ∙ so.held;
        }))
        (λ (e : eqb operation interrogation ≡ false).
        let changes = eqb-false operation interrogation e in
        rw (asks_changed p g identifier operation r passes changes, handled_changes p t identifier operation r right changes)
        (record {
          answer = refl;
          entries = refl;
          last = last_same (grid_changed p g identifier operation r) so.last;
          held =
              ap holds (moved_grid p identifier (grid_changed p g identifier operation r))
              ∙ changed_held passes asked.known changes
              ∙ ap (changed p operation r) so.held
              ∙ sym (applied_holds p t whole.good so.run_good_lem identifier operation r asked right changes);
        }))

    handled_same : StepSame (grid_asks p g identifier operation r) (handled p t identifier operation r)
    handled_same = judged_same verdict refl

  -- ---- a component

  module _ (s : List ℕ) where
    question_same : (q : Question) → question p t.last s ≡ q → StepSame (grid_step_of p g q) (step p t s)
    question_same (says a) e =
        rw (step_says p t s a e) (record { answer = refl; entries = refl; last = so.last; held = so.held })
    question_same (asks identifier operation r) e =
        rw (step_asks p t s identifier operation r e)
        (handled_same identifier operation r (question_asks p t.last s identifier operation r e))

    pub steps_same : StepSame (grid_step p g s) (step p t s)
    steps_same =
        let is : grid_step p g s ≡ grid_step_of p g (question p t.last s) =
        step_is p g s ∙ ap (λ (last : ℕ). grid_step_of p g (question p last s)) so.last in
        rw is (question_same (question p t.last s) refl)
