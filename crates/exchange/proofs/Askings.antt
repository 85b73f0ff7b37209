-- A component that asks, an invoke whose identifier and operation can be read: it is rejected at once with its own identifier, or its
-- request is judged. Assumes nothing.
use Prim.Native.Nat.{ℕ, ◌<◌}
use mathlib.Core.Path.{◌≡◌, refl}
use mathlib.Core.Bool.{true, false}
use mathlib.Core.List.{List}
use lib.IntN.{ℤ, pos}
use lib.Dec.{eqb}
use borrow.Author.Tests.{lt-leb}
use Rattle.laws.specs.Got.{Got, got, wrong}
use Rattle.laws.proofs.Picks.{pick_ind}
use Rattle.profile.specs.declared.profile.Profile.{Profile}
use Rattle.requests.specs.Heard.{local, heard}
use Rattle.requests.specs.Request.{argument_at}
use Rattle.requests.specs.Spelt.{Known, activation_is, deactivation_is, interrogation_is}
use Rattle.requests.specs.declared.heard.Heard.TheVariants as heard
use Rattle.requests.specs.declared.heard.Operation.{Operation}
use Rattle.requests.specs.declared.request.Request.{Request}
use Rattle.answers.specs.declared.answer.Problem.{Problem}
use Rattle.answers.specs.declared.answer.Problem.TheVariants.{Invoke}
use Rattle.answers.specs.declared.answer.Whose.TheVariants.{Own}
use Rattle.exchange.specs.Question.{Question, asks, rejects, not_above, duplicate, known_operation, code_of, argued, invoked, question}

-- ---- either

-- what such a component asks of the exchange
pub data Asking (identifier : ℤ) (operation : Operation) (q : Question) : Type 0 where
  -- a duplicate, an operation that is not 7, 8 or 11, or an argument that cannot be read
  rejected : (problem : Problem) → q ≡ rejects (Own identifier) problem → Asking identifier operation q
  judged :
      (r : Request) → known_operation operation.value ≡ true → q ≡ asks identifier (code_of operation.value) r →
      Asking identifier operation q

argued_asking :
    (identifier : ℤ) (operation : Operation) (g : Got Request) → known_operation operation.value ≡ true →
    Asking identifier operation (argued identifier operation g)
argued_asking identifier operation (got r place) is = judged r is refl
argued_asking identifier operation wrong is = rejected (Invoke 2) refl

module _ (p : Profile) (last : ℕ) (s : List ℕ) where
  pub asking :
      (identifier : ℤ) (operation : Operation) (at end : ℕ) → heard s ≡ heard.Asks identifier operation at end →
      Asking identifier operation (question p last s)
  unfolding question invoked
  asking identifier operation at end h =
      rw h
      (pick_ind (Asking identifier operation) (duplicate p last identifier)
      (λ _. rejected (Invoke 0) refl)
      (λ _. pick_ind (Asking identifier operation) (known_operation operation.value)
      (λ is. argued_asking identifier operation (argument_at operation s at end) is)
      (λ _. rejected (Invoke 1) refl)))

-- ---- a request that is judged

-- an identifier above the last handled one is no duplicate
above_new : (p : Profile) (last n : ℕ) → last < n → duplicate p last (pos n) ≡ false
unfolding duplicate not_above
above_new p last n h = pick_ind (λ b. b ≡ false) (eqb p.counted 1) (λ _. lt-leb n last h) (λ _. refl)

is_known_lem : {operation : ℕ} → Known operation → known_operation (pos operation) ≡ true
unfolding known_operation
is_known_lem (activation_is e) = rw e
is_known_lem (deactivation_is e) = rw e
is_known_lem (interrogation_is e) = rw e

module _ (p : Profile) (last : ℕ) (s : List ℕ) where
  -- above the last handled identifier, with one of the three operations and an argument that can be read
  pub asking_new :
      (n operation : ℕ) (at end : ℕ) (r : Request) (place : ℕ) → heard s ≡ heard.Asks (pos n) (local (pos operation)) at end →
      last < n → Known operation → argument_at (local (pos operation)) s at end ≡ got r place →
      question p last s ≡ asks (pos n) operation r
  unfolding question invoked
  asking_new n operation at end r place h new is read = rw (h, above_new p last n new, is_known_lem is, read)
