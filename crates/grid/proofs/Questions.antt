-- What a component asks of the exchange, as a step over a table in the first layout needs it: all that the laws of a step know of how
-- a question is written. Assumes nothing.
use Prim.Native.Nat.{ℕ}
use mathlib.Core.List.{List}
use mathlib.Core.Path.{◌≡◌, refl}
use lib.IntN.{ℤ}
use Rattle.requests.specs.declared.request.Request.{Request}
use Rattle.profile.specs.declared.profile.Profile.{Profile}
use Rattle.answers.specs.declared.answer.Answer.{Answer}
use Rattle.exchange.specs.Question.{Question, asks, question, says}
use Rattle.exchange.proofs.Questions.{RequestAsked, Said, question_asks, question_says}
use Rattle.grid.specs.Step.{GridStep, grid_asks, grid_says, grid_step, grid_step_of}
use Rattle.grid.specs.Table.{GridTable}

module _ (p : Profile) (t : GridTable) (s : List ℕ) where
  question_ind :
      (P : GridStep → Type 0) (q : Question) → question p t.last s ≡ q → ((a : Answer) → Said a → P (grid_says t a)) →
      ((identifier : ℤ) (operation : ℕ) (r : Request) → RequestAsked p t.last identifier operation r → P
      (grid_asks p t identifier operation r)) →
      P (grid_step_of p t q)
  question_ind P (says a) e said asked = said a (question_says p t.last s a e)
  question_ind P (asks identifier operation r) e said asked =
      asked identifier operation r (question_asks p t.last s identifier operation r e)

  -- what holds of every answer at once, and of every request that is judged, holds of a step
  pub step_ind :
      (P : GridStep → Type 0) → ((a : Answer) → Said a → P (grid_says t a)) →
      ((identifier : ℤ) (operation : ℕ) (r : Request) → RequestAsked p t.last identifier operation r → P
      (grid_asks p t identifier operation r)) →
      P (grid_step p t s)
  unfolding grid_step
  step_ind P = question_ind P (question p t.last s) refl

  -- a step is that of the component's question
  pub step_is : grid_step p t s ≡ grid_step_of p t (question p t.last s)
  unfolding grid_step
  step_is = refl
