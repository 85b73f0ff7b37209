-- What the exchange does with a component, by its question and by the verdict on its request. Assumes nothing.
use Prim.Native.Nat.{ℕ}
use mathlib.Core.Path.{◌≡◌, refl, sym, ap, ◌∙◌}
use mathlib.Core.Bool.{true, false}
use mathlib.Core.List.{List, map}
use mathlib.Core.Option.{Option, none, some}
use native.Mathlib.Omega.{arith}
use lib.IntN.{ℤ, pos, negsuc, nat_abs}
use lib.Signed.{lt_z, mag}
use lib.Dec.{eqb}
use mir.Syntax.{w16}
use mir.Val.{SFits, to_z, of_z}
use mir.Facts.{to_z-of_z}
use borrow.Author.Tests.{ltb-true, eq-eqb, ne_eqb, eqb-true, eqb-false}
use Rattle.laws.proofs.Picks.{pick_ind}
use Rattle.values.proofs.Signs.{positive}
use Rattle.codes.specs.Codes.{interrogation}
use Rattle.profile.specs.declared.profile.Profile.{Profile}
use Rattle.requests.specs.declared.request.Request.{Request}
use Rattle.lists.specs.Entries.{instances_most}
use Rattle.instances.specs.Run.{instances_of, listed, entry_for}
use Rattle.rules.specs.Selection.{selection_of}
use Rattle.rules.specs.Judge.{judge, applied}
use Rattle.answers.specs.declared.answer.Answer.{Answer}
use Rattle.answers.specs.declared.answer.Answer.TheVariants as answer
use Rattle.exchange.specs.Table.{table_of}
use Rattle.exchange.specs.Question.{Question, says, asks, question}
use Rattle.exchange.specs.Step.{Step, stays, last_after, result_of, verdict_of, handled, step_of, step}
use Rattle.exchange.specs.inner.Question.{question_read}
use Rattle.std.specs.Prelude.{Result, Ok, Err}
use Rattle.exchange.specs.declared.question.Asked.{Asked}
use Rattle.exchange.specs.declared.table.Table.{Table}
use Rattle.exchange.proofs.Questions.{Said, question_says}

-- ---- the last handled identifier

-- "Only a result or an error on a counted end moves" it
pub after_stays : (p : Profile) (identifier : ℤ) (last : ℕ) → (p.counted ≡ 1 → ⊥) → last_after p identifier last ≡ last
unfolding last_after
after_stays p (pos n) last h = rw (ne_eqb p.counted 1 h)
after_stays p (negsuc n) last h = refl

pub after_moves : (p : Profile) (n last : ℕ) → p.counted ≡ 1 → last_after p (pos n) last ≡ n
unfolding last_after
after_moves p n last h = rw (eq-eqb p.counted 1 h)

last_negative : (p : Profile) (identifier : ℤ) (last : ℕ) → lt_z identifier (pos 0) ≡ true → last ≡ last_after p identifier last
unfolding last_after
last_negative p (pos n) last e = absurd (omega (arith, ltb-true n 0 e))
last_negative p (negsuc n) last e = refl

-- as the machine tells it
module _ (p : Profile) (z : ℤ) (fits : SFits w16 z) (last : ℕ) where
  pub machine_below : lt_z (to_z w16 (of_z w16 z)) (pos 0) ≡ true → last ≡ last_after p z last
  machine_below e = last_negative p z last (rw (to_z-of_z fits) at e)

  pub machine_moves :
      lt_z (to_z w16 (of_z w16 z)) (pos 0) ≡ false → p.counted ≡ 1 → nat_abs (to_z w16 (of_z w16 z)) ≡ last_after p z last
  machine_moves e counted =
      let number = positive z (rw (to_z-of_z fits) at e) in
      rw (to_z-of_z fits, number) (sym (after_moves p (mag z) last counted))

-- ---- a request that is handled

module _ (p : Profile) (t : Table) (identifier : ℤ) (operation : ℕ) (r : Request) where
  -- an error, a list, and a change
  abbrev pub fails : ℕ → Step
  fails error = stays (table_of (last_after p identifier t.last) t.run) (answer.Error identifier error)

  abbrev pub lists : Step
  lists = record {
    next = table_of (last_after p identifier t.last) t.run;
    answer = answer.Listing identifier;
    entries = map (entry_for p.numbers) (listed (selection_of p r) (instances_of t.run));
  }

  abbrev pub changes : Step
  changes = stays (table_of (last_after p identifier t.last) (applied p operation r t.run)) (answer.Result identifier)

  abbrev pub verdict : Option ℕ
  verdict = judge instances_most p operation r (instances_of t.run)

  pub handled_fails : (error : ℕ) → verdict ≡ some error → handled p t identifier operation r ≡ fails error
  unfolding handled
  handled_fails error h = rw h

  module _ (passes : verdict ≡ none) where
    pub handled_lists : operation ≡ interrogation → handled p t identifier operation r ≡ lists
    unfolding handled result_of
    handled_lists h = rw (passes, eq-eqb operation interrogation h)

    pub handled_changes : (operation ≡ interrogation → ⊥) → handled p t identifier operation r ≡ changes
    unfolding handled result_of
    handled_changes h = rw (passes, ne_eqb operation interrogation h)

  -- what holds of all three holds of what is done with the request
  verdict_ind :
      (P : Step → Type 0) (v : Option ℕ) → verdict ≡ v → ((error : ℕ) → verdict ≡ some error → P (fails error)) →
      (verdict ≡ none → operation ≡ interrogation → P lists) →
      (verdict ≡ none → (operation ≡ interrogation → ⊥) → P changes) →
      P (verdict_of p t identifier operation r v)
  unfolding result_of
  verdict_ind P none h fail list change =
      pick_ind P (eqb operation interrogation)
      (λ e. list h (eqb-true operation interrogation e))
      (λ e. change h (eqb-false operation interrogation e))
  verdict_ind P (some error) h fail list change = fail error h

  pub handled_ind :
      (P : Step → Type 0) → ((error : ℕ) → verdict ≡ some error → P (fails error)) →
      (verdict ≡ none → operation ≡ interrogation → P lists) →
      (verdict ≡ none → (operation ≡ interrogation → ⊥) → P changes) →
      P (handled p t identifier operation r)
  unfolding handled
  handled_ind P = verdict_ind P verdict refl

-- ---- a component

module _ (p : Profile) (t : Table) (s : List ℕ) where
  pub step_says : (a : Answer) → question p t.last s ≡ says a → step p t s ≡ stays t a
  unfolding step
  step_says a e = rw e

  pub step_asks :
      (identifier : ℤ) (operation : ℕ) (r : Request) → question p t.last s ≡ asks identifier operation r →
      step p t s ≡ handled p t identifier operation r
  unfolding step
  step_asks identifier operation r e = rw e

  -- what holds of an answer at once, and of a request that is handled, holds of a step
  question_ind :
      (P : Step → Type 0) (q : Question) → question p t.last s ≡ q → ((a : Answer) → Said a → P (stays t a)) →
      ((identifier : ℤ) (operation : ℕ) (r : Request) →
      question p t.last s ≡ asks identifier operation r → P (handled p t identifier operation r)) →
      P (step_of p t q)
  question_ind P (says a) e said asked = said a (question_says p t.last s a e)
  question_ind P (asks identifier operation r) e said asked = asked identifier operation r e

  pub step_ind :
      (P : Step → Type 0) → ((a : Answer) → Said a → P (stays t a)) →
      ((identifier : ℤ) (operation : ℕ) (r : Request) →
      question p t.last s ≡ asks identifier operation r → P (handled p t identifier operation r)) →
      P (step p t s)
  unfolding step
  step_ind P = question_ind P (question p t.last s) refl

-- ---- a question, as the code tells it

-- the question that the code told
told_by : Result Asked Answer → Question
told_by (Err answer) = says answer
told_by (Ok q) = asks q.identifier q.operation q.request

told_read : (x : Question) → told_by (question_read x) ≡ x
unfolding told_by
told_read (says answer) = refl
told_read (asks identifier operation r) = refl

pub read_says : (x : Question) (q : Result Asked Answer) (answer : Answer) → q ≡ question_read x → q ≡ Err answer → x ≡ says answer
unfolding told_by
read_says x q answer e is = sym (told_read x) ∙ ap told_by (sym e ∙ is)

pub read_asks :
    (x : Question) (q : Result Asked Answer) (a : Asked) → q ≡ question_read x → q ≡ Ok a →
    x ≡ asks a.identifier a.operation a.request
unfolding told_by
read_asks x q a e is = sym (told_read x) ∙ ap told_by (sym e ∙ is)
