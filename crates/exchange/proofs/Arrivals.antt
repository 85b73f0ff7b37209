-- What arrives: its refusals, lowest first, and its step, whose reply fits the least output. Assumes nothing.
use Rattle.std.specs.Prelude.{Result, Ok, Err}
use Prim.Native.Nat.{ℕ, ◌≤◌, ◌<◌}
use mathlib.Core.Path.{◌≡◌, refl, sym, ap, ◌∙◌}
use mathlib.Core.Bool.{Bool, true, false}
use mathlib.Core.List.{List}
use mathlib.Core.Option.{none, some}
use native.Mathlib.Nat.{zero-add}
use native.Mathlib.Omega.{arith}
use lib.IntN.{ℤ}
use lib.ListN.{length, take}
use lib.Seq.{take_all, take-append_seam}
use borrow.Author.Tests.{lt-ltb, le-ltb}
use Rattle.refusals.specs.declared.refusal.Refusal.{Refusal}
use Rattle.refusals.specs.declared.refusal.Refusal.TheVariants.{ShortOutput, LongComponent, BadProfile, BadTable}
use Rattle.laws.specs.Over.{Puts}
use Rattle.laws.proofs.Over.{over_nil, wrote}
use Rattle.codes.specs.Codes.{interrogation}
use Rattle.profile.specs.Access.{access_read}
use Rattle.profile.specs.Profile.{profile_good}
use Rattle.profile.specs.declared.profile.Profile.{Profile}
use Rattle.profile.proofs.Profiles.{good_profile}
use Rattle.profile.proofs.Records.{access_good}
use Rattle.requests.specs.declared.request.Request.{Request}
use Rattle.lists.specs.Entries.{instances_most, entries_in, entries_of, all_good}
use Rattle.lists.specs.declared.entry.Entry.{Entry}
use Rattle.lists.proofs.Goods.{all_none}
use Rattle.instances.specs.Run.{instances_of, run_good, PutListed}
use Rattle.instances.specs.declared.run.Run.{Run}
use Rattle.instances.proofs.Goods.{run_good_lem}
use Rattle.instances.proofs.Listeds.{listed_most, listed_good}
use Rattle.rules.specs.Selection.{selection_of}
use Rattle.rules.specs.Judge.{verdict_no, applied, JudgeRequest, RenewRequest}
use Rattle.rules.specs.Error.{error_no}
use Rattle.rules.specs.declared.error.RequestError.{RequestError}
use Rattle.rules.proofs.Selections.{selection_procedure}
use Rattle.rules.proofs.Judges.{judge_errors, passes_none}
use Rattle.rules.proofs.Changes.{renew_applied}
use Rattle.answers.specs.Answer.{answer_octets, PutAnswer}
use Rattle.answers.specs.declared.answer.Answer.TheVariants as answer
use Rattle.answers.proofs.Fits.{EntriesFit, answer_most}
use Rattle.answers.proofs.Lists.{listing_put}
use Rattle.exchange.specs.Table.{last_most, table_of, table_good}
use Rattle.exchange.specs.Question.{question}
use Rattle.exchange.specs.Step.{Step, stays, last_after, handled, step}
use Rattle.refusals.specs.Refusal.{output_least, component_most}
use Rattle.exchange.specs.Arrive.{refused, answered, done, Arrives}
use Rattle.exchange.specs.inner.Question.{question_read}
use Rattle.exchange.specs.inner.Arrived.{arrived_refused, arrived_answered}
use Rattle.exchange.specs.declared.table.Table.{Table}
use Rattle.answers.specs.declared.answer.Answer.{Answer}
use Rattle.exchange.specs.declared.question.Asked.{Asked}
use Rattle.exchange.specs.declared.arrive.Arrived.{Arrived}
use Rattle.exchange.proofs.Questions.{RequestAsked, question_asks}
use Rattle.exchange.proofs.Tables.{table_run, table_good_lem}
use Rattle.exchange.proofs.Steps.{fails, lists, changes, verdict, handled_fails, handled_lists, handled_changes, handled_ind}
use Rattle.exchange.proofs.Steps.{step_says, step_asks, step_ind, read_says, read_asks}

-- ---- the refusals, lowest first

module _ (access : List ℕ) (t : Table) (s : List ℕ) (size : ℕ) where
  pub done_short : size < output_least → done access t s size ≡ refused t ShortOutput
  unfolding done
  done_short short = rw (lt-ltb size output_least short)

  module _ (room : output_least ≤ size) where
    pub done_long : component_most < length s → done access t s size ≡ refused t LongComponent
    unfolding done
    done_long long = rw (le-ltb size output_least room, lt-ltb component_most (length s) long)

    module _ (fair : length s ≤ component_most) where
      pub done_profile : (access_read access).ok ≡ false → done access t s size ≡ refused t BadProfile
      unfolding done
      done_profile bad = rw (le-ltb size output_least room, le-ltb component_most (length s) fair, bad)

      module _ (ok : (access_read access).ok ≡ true) where
        pub done_table :
            table_good instances_most (access_read access).profile t ≡ false → done access t s size ≡ refused t BadTable
        unfolding done
        done_table bad = rw (le-ltb size output_least room, le-ltb component_most (length s) fair, ok, bad)

        pub done_answers :
            table_good instances_most (access_read access).profile t ≡ true →
            done access t s size ≡ answered (step (access_read access).profile t s)
        unfolding done
        done_answers good = rw (le-ltb size output_least room, le-ltb component_most (length s) fair, ok, good)

-- what is refused is handed back, and nothing is written
pub refused_arrives :
    (access : List ℕ) (t : Table) (s xs : List ℕ) (refusal : Refusal) (r : Arrived) →
    done access t s (length xs) ≡ refused t refusal → r ≡ arrived_refused t refusal →
    Arrives access t s xs r xs
refused_arrives access t s xs refusal r is e = record {
  table = rw (is, e);
  told = rw (is, e);
  count = rw (is, e);
  lent = rw is (sym (over_nil xs 0));
}

-- ---- the reply fits

-- a step whose answer fits, with good entries, at most 8
pub record StepFits (x : Step) : Type 0 where
  pub answer : EntriesFit x.answer
  pub good : all_good x.entries ≡ true
  pub few : length x.entries ≤ instances_most

module _ (p : Profile) (t : Table) (profile : profile_good p ≡ true) (table : table_good instances_most p t ≡ true) where
  handled_fits :
      (identifier : ℤ) (operation : ℕ) (r : Request) → RequestAsked p t.last identifier operation r →
      StepFits (handled p t identifier operation r)
  handled_fits identifier operation r is =
      let sel = selection_of p r in
      let good = run_good_lem p instances_most t.run (table_good_lem instances_most p t table).1 in
      handled_ind p t identifier operation r StepFits
      (λ error h. record {
        answer = (is.range, judge_errors instances_most p operation r (instances_of t.run) error h);
        good = all_none;
        few = omega arith;
      })
      (λ _ _. record {
        answer = is.range;
        good = listed_good p (good_profile p profile) sel instances_most (instances_of t.run) good;
        few = listed_most p sel instances_most (instances_of t.run) good (rw (selection_procedure p r) is.procedure);
      })
      (λ _ _. record { answer = is.range; good = all_none; few = omega arith })

  pub step_fits : (s : List ℕ) → StepFits (step p t s)
  step_fits s =
      step_ind p t s StepFits (λ a said. record { answer = said.fits; good = all_none; few = omega arith })
      (λ identifier operation r e. handled_fits identifier operation r (question_asks p t.last s identifier operation r e))

-- the entries of a record of at most 8 are those it was made of
listed_all : (es : List Entry) → length es ≤ instances_most → entries_in (entries_of (take instances_most es)) ≡ es
listed_all es few = rw (take_all instances_most es few) (take-append_seam es _)

-- what is answered is written whole
pub answered_arrives :
    (access : List ℕ) (t : Table) (s xs : List ℕ) (x : Step) (n : ℕ) (ys : List ℕ) →
    done access t s (length xs) ≡ answered x → StepFits x → output_least ≤ length xs →
    Puts xs 0 (answer_octets x.answer x.entries) n ys →
    Arrives access t s xs (arrived_answered x.next x.answer n) ys
answered_arrives access t s xs x n ys is fits room put =
    let octets = answer_most x.answer x.entries fits.answer fits.good fits.few in
    let w = wrote (rw zero-add (omega arith)) put in
    record {
      table = rw is;
      told = rw is;
      count = rw is (w.moved ∙ zero-add _);
      lent = rw is w.holds;
    }

-- a profile that was read breaks no rule
pub read_good :
    (access : List ℕ) (p : Profile) → ((access_read access).ok ≡ true) × ((access_read access).profile ≡ p) → profile_good p ≡ true
read_good access p read = rw read.1 at (access_good access read.0)

-- a request that only renews the instances of a good run
pub renews_applied :
    (p : Profile) → profile_good p ≡ true → (run : Run) → run_good instances_most p run ≡ true →
    (operation : ℕ) (r : Request) (v : Result Bool RequestError) → JudgeRequest p operation r run v →
    (renews : Bool) → v ≡ Ok renews → renews ≡ true →
    (next : Run) → RenewRequest p r run next → next ≡ applied p operation r run
renews_applied p profile run good operation r v judged renews is h next e =
    renew_applied p operation r run next (selection_of p r) refl (good_profile p profile) instances_most
    (run_good_lem p instances_most run good) (sym (passes_none _ _ v judged renews is).1 ∙ h) e

-- ---- the four answers, as the code tells them

module _
    (access : List ℕ) (t : Table) (s xs : List ℕ) (p : Profile)
    (read : ((access_read access).ok ≡ true) × ((access_read access).profile ≡ p))
    (room : output_least ≤ length xs) (fair : length s ≤ component_most)
    (low : t.last ≤ last_most) (good : run_good instances_most p t.run ≡ true)
  where
    table : table_good instances_most p t ≡ true
    table = table_run instances_most p t low ∙ good

    fits : StepFits (step p t s)
    fits = step_fits p t (read_good access p read) table s

    step_arrives :
        (x : Step) (n : ℕ) (ys : List ℕ) → step p t s ≡ x → Puts xs 0 (answer_octets x.answer x.entries) n ys →
        Arrives access t s xs (arrived_answered x.next x.answer n) ys
    step_arrives x n ys is put =
        let table : table_good instances_most (access_read access).profile t ≡ true = rw read.1 table in
        let steps : step (access_read access).profile t s ≡ x = rw read.1 is in
        answered_arrives access t s xs x n ys
        (done_answers access t s (length xs) room fair read.0 table ∙ ap answered steps)
        (rw is at fits) room put

    module _ (r : Result Asked Answer) (told : r ≡ question_read (question p t.last s)) (n : ℕ) (ys : List ℕ) where
      pub says_arrives :
          (says : Answer) → r ≡ Err says → PutAnswer xs says n ys →
          Arrives access t s xs (arrived_answered t says n) ys
      says_arrives says h put =
          step_arrives (stays t says) n ys (step_says p t s says (read_says (question p t.last s) r says told h)) put

      module _ (q : Asked) (h : r ≡ Ok q) (last : ℕ) (moved : last ≡ last_after p q.identifier t.last) where
        asked : step p t s ≡ handled p t q.identifier q.operation q.request
        asked = step_asks p t s q.identifier q.operation q.request (read_asks (question p t.last s) r q told h)

        pub fails_arrives :
            (v : Result Bool RequestError) → verdict_no v ≡ verdict p t q.identifier q.operation q.request → (error : RequestError) → v ≡ Err error →
            (number : ℕ) → number ≡ error_no error → PutAnswer xs (answer.Error q.identifier number) n ys →
            Arrives access t s xs
            (arrived_answered (table_of last t.run) (answer.Error q.identifier number) n) ys
        fails_arrives v judged error is number told put =
            rw moved
            (step_arrives (fails p t q.identifier q.operation q.request number) n ys
            (asked ∙ handled_fails p t q.identifier q.operation q.request number (sym judged ∙ ap verdict_no is ∙ ap some (sym told)))
            put)

        module _ (v : Result Bool RequestError) (judged : JudgeRequest p q.operation q.request t.run v) (renews : Bool) (is : v ≡ Ok renews) where
          passes : verdict p t q.identifier q.operation q.request ≡ none
          passes = (passes_none _ _ v judged renews is).0

          -- at most 8 are listed, so that the record of 8 has them all
          pub lists_arrives :
              q.operation ≡ interrogation →
              PutListed xs q.identifier p (selection_of p q.request) t.run n ys →
              Arrives access t s xs
              (arrived_answered (table_of last t.run) (answer.Listing q.identifier) n) ys
          lists_arrives interrogates put =
              let x : Step = lists p t q.identifier q.operation q.request in
              let steps : step p t s ≡ x =
              asked ∙ handled_lists p t q.identifier q.operation q.request passes interrogates in
              let held : entries_in (entries_of (take instances_most x.entries)) ≡ x.entries =
              listed_all x.entries (rw steps at fits).few in
              rw moved
              (step_arrives x n ys steps
              (rw held at (listing_put xs q.identifier (entries_of (take instances_most x.entries)) n ys put)))

          pub changes_arrives :
              (q.operation ≡ interrogation → ⊥) → (next : Run) → next ≡ applied p q.operation q.request t.run →
              PutAnswer xs (answer.Result q.identifier) n ys →
              Arrives access t s xs
              (arrived_answered (table_of last next) (answer.Result q.identifier) n) ys
          changes_arrives other next applies put =
              rw (moved, applies)
              (step_arrives (changes p t q.identifier q.operation q.request) n ys
              (asked ∙ handled_changes p t q.identifier q.operation q.request passes other)
              put)
