-- Laws of questions, over plain values: what the machine's tests of signed numbers say, and what is known of a question, whatever
-- component it came from. Assumes nothing.
use Prim.Native.Nat.{ℕ, ◌<◌}
use mathlib.Core.Path.{◌≡◌, refl, sym, ap, ◌∙◌}
use mathlib.Core.Bool.{Bool, true, false, false≢true}
use mathlib.Core.List.{List, [], ◌∷◌}
use native.Mathlib.Omega.{arith}
use lib.IntN.{ℤ, pos, negsuc, nat_abs}
use lib.Signed.{mag, lt_z, non_neg}
use lib.Dec.{T, leb, eqb}
use mir.Syntax.{w8, w16}
use mir.Val.{Fits, SFits, to_z, of_z}
use mir.Facts.{to_z-of_z, to_z_pos}
use borrow.Author.Tests.{ltb-true, leb-false, eq-eqb, ne_eqb, eqb-true}
use Rattle.laws.specs.Pick.{pick}
use Rattle.laws.specs.Tests.{any}
use Rattle.laws.specs.Got.{Got, got, wrong}
use Rattle.laws.proofs.Picks.{pick_ind, pick_last}
use Rattle.codes.specs.Codes.{service_code, activation, deactivation, interrogation}
use Rattle.numbers.proofs.Goods.{ToUnless}
use Rattle.profile.specs.declared.profile.Profile.{Profile}
use Rattle.requests.specs.Heard.{heard}
use Rattle.requests.specs.Request.{argument_at}
use Rattle.requests.specs.Spelt.{Known, activation_is, deactivation_is, interrogation_is}
use Rattle.requests.specs.declared.heard.Heard.{Heard}
use Rattle.requests.specs.declared.heard.Heard.TheVariants as heard
use Rattle.requests.specs.declared.heard.Operation.{Operation}
use Rattle.requests.specs.declared.request.Request.{Request}
use Rattle.requests.proofs.Goods.{known_most}
use Rattle.requests.proofs.Ranges.{HeardRanges, heard_range}
use Rattle.requests.proofs.Requests.{argument_read}
use Rattle.answers.specs.declared.answer.Answer.{Answer}
use Rattle.answers.specs.declared.answer.Answer.TheVariants as answer
use Rattle.answers.specs.declared.answer.Problem.{Problem}
use Rattle.answers.specs.declared.answer.Problem.TheVariants.{General, Invoke}
use Rattle.answers.specs.declared.answer.Whose.{Whose}
use Rattle.answers.specs.declared.answer.Whose.TheVariants.{Null, Own}
use Rattle.answers.proofs.Fits.{OwnFits, EntriesFit}
use Rattle.exchange.specs.Question.{Question, says, asks, rejects, not_above, duplicate, known_operation, code_of, argued, invoked}
use Rattle.exchange.specs.Question.{question_of, question}
use Rattle.octets.proofs.Founds.{Somewhere}
use Rattle.exchange.specs.inner.Question.{question_read}

-- ---- the machine's tests

negative_not_above : (z : ℤ) (last : ℕ) → lt_z z (pos 0) ≡ true → true ≡ not_above z last
unfolding not_above
negative_not_above (pos n) last e = absurd (omega (arith, ltb-true n 0 e))
negative_not_above (negsuc n) last e = refl

number_not_above : (z : ℤ) (last : ℕ) → lt_z z (pos 0) ≡ false → leb (nat_abs z) last ≡ not_above z last
unfolding not_above
number_not_above (pos n) last e = refl
number_not_above (negsuc n) last e = let z : ◌≡◌ {A = ℕ} 0 1 = cc in absurd (omega arith)

number_fits_lem : (z : ℤ) → SFits w16 z → lt_z z (pos 0) ≡ false → T (non_neg z) × Fits w16 (nat_abs z)
number_fits_lem (pos n) fits e = (tt, record { fits = omega (arith, fits.sfits) })
number_fits_lem (negsuc n) fits e = let z : ◌≡◌ {A = ℕ} 0 1 = cc in absurd (omega arith)

-- the bits that the machine compares are those of one number
bits_are : (z : ℤ) → SFits w16 z → (n : ℕ) → n < 32768 → of_z w16 z ≡ n → z ≡ pos n
bits_are z fits n small e = sym (to_z-of_z fits) ∙ ap (to_z w16) e ∙ to_z_pos w16 small

last_known :
    (z : ℤ) → SFits w16 z → (of_z w16 z ≡ activation → ⊥) → (of_z w16 z ≡ deactivation → ⊥) →
    eqb (of_z w16 z) interrogation ≡ known_operation z
unfolding known_operation
last_known (pos n) fits first second = rw (ne_eqb n activation first, ne_eqb n deactivation second)
last_known (negsuc n) fits first second = ne_eqb (of_z w16 (negsuc n)) interrogation (λ e. omega (arith, fits.sfits))

-- a signed number of 16 bits, as the machine holds it
module _ (z : ℤ) (fits : SFits w16 z) where
  -- "identifier not above last handled": a negative one
  pub below_zero : (last : ℕ) → lt_z (to_z w16 (of_z w16 z)) (pos 0) ≡ true → true ≡ not_above z last
  below_zero last e = negative_not_above z last (rw (to_z-of_z fits) at e)

  -- and one that can be cast
  pub from_zero :
      (last : ℕ) → lt_z (to_z w16 (of_z w16 z)) (pos 0) ≡ false →
      leb (nat_abs (to_z w16 (of_z w16 z))) last ≡ not_above z last
  from_zero last e = rw (to_z-of_z fits) (number_not_above z last (rw (to_z-of_z fits) at e))

  pub from_zero_fits :
      lt_z (to_z w16 (of_z w16 z)) (pos 0) ≡ false →
      T (non_neg (to_z w16 (of_z w16 z))) × Fits w16 (nat_abs (to_z w16 (of_z w16 z)))
  from_zero_fits e = rw (to_z-of_z fits) (number_fits_lem z fits (rw (to_z-of_z fits) at e))

  -- "operation not 7, 8, 11"
  pub activation_known : of_z w16 z ≡ activation → true ≡ known_operation z
  unfolding known_operation
  activation_known e = rw (bits_are z fits activation (omega arith) e)

  pub deactivation_known : of_z w16 z ≡ deactivation → true ≡ known_operation z
  unfolding known_operation
  deactivation_known e = rw (bits_are z fits deactivation (omega arith) e)

  pub interrogation_known :
      (of_z w16 z ≡ activation → ⊥) → (of_z w16 z ≡ deactivation → ⊥) → eqb (of_z w16 z) interrogation ≡ known_operation z
  interrogation_known = last_known z fits

-- ---- operations

-- an operation that is known is one of the three, and its own code
pub known_code : (z : ℤ) → known_operation z ≡ true → (z ≡ pos (code_of z)) × Known (code_of z)
unfolding known_operation
known_code (pos n) =
    let P : Bool → Type 0 = λ t. t ≡ true → (pos n ≡ pos n) × Known n in
    pick_ind P (eqb n activation) (λ e _. (refl, activation_is (eqb-true n activation e)))
    (λ _. pick_ind P (eqb n deactivation)
    (λ e _. (refl, deactivation_is (eqb-true n deactivation e)))
    (λ _ e. (refl, interrogation_is (eqb-true n interrogation e))))
known_code (negsuc n) = λ e. absurd (false≢true e)

-- so that the machine can cast it
module _ (z : ℤ) (fits : SFits w16 z) (e : known_operation z ≡ true) where
  machine_code : to_z w16 (of_z w16 z) ≡ pos (code_of z)
  machine_code = to_z-of_z fits ∙ (known_code z e).0

  pub code_fits : T (non_neg (to_z w16 (of_z w16 z))) × Fits w8 (nat_abs (to_z w16 (of_z w16 z)))
  code_fits =
      rw machine_code (tt, record { fits = omega (arith, known_most (known_code z e).1) })

  pub code_cast : nat_abs (to_z w16 (of_z w16 z)) ≡ code_of z
  code_cast = ap nat_abs machine_code

pub known_number : (n : ℕ) → known_operation (pos n) ≡ any (eqb n activation ∷ eqb n deactivation ∷ eqb n interrogation ∷ [])
unfolding known_operation
known_number n = rw (pick_last (eqb n interrogation))

pub known_negative : (n : ℕ) → known_operation (negsuc n) ≡ false
unfolding known_operation
known_negative n = refl

-- ---- what is asked, part by part

pub question_heard : (p : Profile) (last : ℕ) (s : List ℕ) → question p last s ≡ question_of p last s (heard s)
unfolding question
question_heard p last s = refl

pub invoked_is :
    (p : Profile) (last : ℕ) (s : List ℕ) (identifier : ℤ) (operation : Operation) (at end : ℕ) →
    invoked p last s identifier operation at end
    ≡ pick (duplicate p last identifier) (rejects (Own identifier) (Invoke 0))
    (pick (known_operation operation.value) (argued identifier operation (argument_at operation s at end))
    (rejects (Own identifier) (Invoke 1)))
unfolding invoked
invoked_is p last s identifier operation at end = refl

-- ---- what the reader of the argument answers

-- a request that was read is asked
pub argued_found :
    (identifier : ℤ) (operation : Operation) (g : Got Request) (request : Request) → Somewhere g request →
    question_read (asks identifier (code_of operation.value) request) ≡ question_read (argued identifier operation g)
argued_found identifier operation g request found = rw found.is

-- an argument that is wrong is rejected
pub argued_none :
    (identifier : ℤ) (operation : Operation) (g : Got Request) → g ≡ wrong →
    question_read (rejects (Own identifier) (Invoke 2)) ≡ question_read (argued identifier operation g)
argued_none identifier operation g none = rw none

-- ---- what is known of a question

-- an identifier above the last that was handled
pub record Above (last : ℕ) (identifier : ℤ) : Type 0 where
  pub number : identifier ≡ pos (mag identifier)
  pub more : last < mag identifier

-- what is no duplicate for a counted end is above the last that was handled
not_above_false : (z : ℤ) (last : ℕ) → not_above z last ≡ false → Above last z
unfolding not_above
not_above_false (pos n) last e = record { number = refl; more = leb-false n last e }
not_above_false (negsuc n) last e = absurd (false≢true (sym e))

duplicate_false : (p : Profile) (last : ℕ) (z : ℤ) → duplicate p last z ≡ false → p.counted ≡ 1 → Above last z
unfolding duplicate
duplicate_false p last z e counted = not_above_false z last (rw (eq-eqb p.counted 1 counted) at e)

-- a request that must be judged: its codes are those of the tables, its operation is known, an activation's address is one that a
-- table holds unless its number is of another kind, its identifier has 16 bits and for a counted end it is new
pub record RequestAsked (p : Profile) (last : ℕ) (identifier : ℤ) (operation : ℕ) (r : Request) : Type 0 where
  pub procedure : r.procedure < 3
  pub service : service_code r.service ≡ true
  pub known : Known operation
  pub to : operation ≡ activation → ToUnless r.to
  pub range : mag identifier < 32768
  pub above : p.counted ≡ 1 → Above last identifier

-- before a request is judged there is silence or a reject, no error, no result and no listing
pub data AtOnce (a : Answer) : Type 0 where
  silence : a ≡ answer.Silence → AtOnce a
  reject : (whose : Whose) (problem : Problem) → a ≡ answer.Reject whose problem → AtOnce a

-- and it fits the output
pub record Said (a : Answer) : Type 0 where
  pub once : AtOnce a
  pub fits : EntriesFit a

-- either
abbrev Sound : Profile → ℕ → Question → Type 0
Sound p last (says a) = Said a
Sound p last (asks identifier operation r) = RequestAsked p last identifier operation r

rejected : (p : Profile) (last : ℕ) (whose : Whose) (problem : Problem) → OwnFits whose → Sound p last (rejects whose problem)
rejected p last whose problem fits = record { once = reject whose problem refl; fits = fits }

argued_sound :
    (p : Profile) (last : ℕ) (identifier : ℤ) (operation : Operation) (s : List ℕ) (at end : ℕ) → mag identifier < 32768 →
    duplicate p last identifier ≡ false → known_operation operation.value ≡ true →
    (g : Got Request) → argument_at operation s at end ≡ g → Sound p last (argued identifier operation g)
argued_sound p last identifier operation s at end range new is_one (got r next) read =
    let known = known_code operation.value is_one in
    let is = argument_read operation s at end r next read in
    record {
      procedure = is.procedure;
      service = is.service;
      known = known.1;
      to = λ activates. is.to (known.0 ∙ ap pos activates);
      range = range;
      above = duplicate_false p last identifier new;
    }
argued_sound p last identifier operation s at end range new is_one wrong read =
    rejected p last (Own identifier) (Invoke 2) range

sound_of : (p : Profile) (last : ℕ) (s : List ℕ) (h : Heard) → HeardRanges h → Sound p last (question_of p last s h)
unfolding invoked
sound_of p last s heard.NotOne range = rejected p last Null (General 2) tt
sound_of p last s heard.Silent range = record { once = silence refl; fits = tt }
sound_of p last s heard.OtherTag range = rejected p last Null (General 0) tt
sound_of p last s heard.NoIdentifier range = rejected p last Null (General 1) tt
sound_of p last s (heard.NoOperation identifier) range = rejected p last (Own identifier) (General 1) range
sound_of p last s (heard.Asks identifier operation at end) range =
    pick_ind (Sound p last) (duplicate p last identifier)
    (λ _. rejected p last (Own identifier) (Invoke 0) range)
    (λ new. pick_ind (Sound p last) (known_operation operation.value)
    (λ is_one.
    argued_sound p last identifier operation s at end range new is_one (argument_at operation s at end) refl)
    (λ _. rejected p last (Own identifier) (Invoke 1) range))

module _ (p : Profile) (last : ℕ) (s : List ℕ) where
  sound : Sound p last (question p last s)
  unfolding question
  sound = sound_of p last s (heard s) (heard_range s)

  -- what is known of a request that must be judged
  pub question_asks :
      (identifier : ℤ) (operation : ℕ) (r : Request) → question p last s ≡ asks identifier operation r →
      RequestAsked p last identifier operation r
  question_asks identifier operation r e = rw e at sound

  -- and of an answer at once
  pub question_says : (a : Answer) → question p last s ≡ says a → Said a
  question_says a e = rw e at sound
