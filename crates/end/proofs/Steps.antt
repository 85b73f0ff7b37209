-- The steps of the end by cases: a step is refused and moves nothing, or it is one of a few. Assumes nothing.
use Prim.Native.Nat.{ℕ, ◌≤◌}
use mathlib.Core.Path.{◌≡◌, refl}
use mathlib.Core.Bool.{true, false, not}
use mathlib.Core.List.{List}
use mathlib.Core.Option.{Option, none, some}
use mathlib.Core.Logic.{◌⊎◌, inl, inr}
use lib.IntN.{pos}
use lib.ListN.{length}
use lib.Dec.{ltb, eqb}
use borrow.Author.Tests.{ltb-false, eqb-true, eqb-false, not-false}
use Rattle.laws.specs.Got.{Got, got, wrong}
use Rattle.laws.specs.Mark.{known, mark_no}
use Rattle.laws.proofs.Picks.{pick_ind}
use Rattle.refusals.specs.Refusal.{output_least, component_most}
use Rattle.refusals.specs.declared.refusal.Refusal.{Refusal}
use Rattle.refusals.specs.declared.refusal.Refusal.TheVariants.{ShortOutput, LongComponent, BadProfile, BadTable, Outstanding, Exhausted, BadRequest}
use Rattle.profile.specs.Access.{access_read}
use Rattle.profile.specs.declared.profile.Profile.{Profile}
use Rattle.requests.specs.Sent.{sendable}
use Rattle.requests.specs.declared.request.Request.{Request}
use Rattle.lists.specs.Entries.{instances_most, entries_from}
use Rattle.lists.specs.declared.entry.Entry.{Entry}
use Rattle.answers.specs.Reply.{reply}
use Rattle.answers.specs.declared.reply.Reply.{Reply}
use Rattle.answers.specs.declared.reply.Reply.TheVariants.{Dropped, Rejected, Failed, Done, Listed, Wrong}
use Rattle.instances.specs.Run.{instances_of, packed}
use Rattle.rules.specs.Judge.{judge, applied}
use Rattle.end.specs.End.{used_most, closed, end_good}
use Rattle.end.specs.Sending.{Sends, not_sent, sends}
use Rattle.end.specs.Listed.{instances_listed, list_good, replaced}
use Rattle.end.specs.Taking.{doubted, applied_by, learned, learned_by, took_by, took, gave_up, Moves, moved, not_moved, takes, gives_up}
use Rattle.end.specs.declared.end.End.{End}
use Rattle.end.proofs.Sendings.{sends_of}

-- the profile of an access record
abbrev pub ours : List ℕ → Profile
ours access = (access_read access).profile

-- ---- what arrives

-- the reply to the outstanding request
abbrev pub reply_to : End → List ℕ → Reply
reply_to e s = reply (pos e.used) e.operation s

-- the verdict on the outstanding request, by the picture
abbrev pub verdict : Profile → End → Option ℕ
verdict p e = judge instances_most p e.operation e.request (instances_of e.picture)

-- a reply for the outstanding request that gives doubt
pub data Doubts (p : Profile) (e : End) (s : List ℕ) : Type 0 where
  -- a reject
  rejects : reply_to e s ≡ Rejected → Doubts p e s
  -- a result that the rules cannot apply to the picture
  fails : reply_to e s ≡ Done → (error : ℕ) → verdict p e ≡ some error → Doubts p e s
  -- a list that cannot be read
  unread : (at end : ℕ) → reply_to e s ≡ Listed at end → entries_from instances_most s at end ≡ wrong → Doubts p e s
  -- a list that is not good
  bad :
      (at end : ℕ) → reply_to e s ≡ Listed at end → (es : List Entry) (next : ℕ) → entries_from instances_most s at end ≡ got es next →
      list_good instances_most p e.request.procedure (instances_listed p es) ≡ false → Doubts p e s
  -- a reply of the wrong shape
  shapeless : reply_to e s ≡ Wrong → Doubts p e s

-- the picture after a good list
abbrev pub learned_end : Profile → End → List Entry → End
learned_end p e es =
    closed (mark_no known) (packed (replaced e.request.procedure (instances_listed p es) (instances_of e.picture))) e

-- the picture after a result
abbrev pub applied_end : Profile → End → End
applied_end p e = closed e.before (applied p e.operation e.request e.picture) e

module _ (p : Profile) (e : End) (s : List ℕ) (P : End → Type 0) where
  -- what the five ways of taking a component lead to holds of the end that took it
  pub took_ind :
      ((e.outstanding ≡ 1 → ⊥) ⊎ (reply_to e s ≡ Dropped) → P e) →
      (e.outstanding ≡ 1 → Doubts p e s → P (doubted e)) →
      (e.outstanding ≡ 1 → (value : _) → reply_to e s ≡ Failed value → P (closed e.before e.picture e)) →
      (e.outstanding ≡ 1 → reply_to e s ≡ Done → verdict p e ≡ none → P (applied_end p e)) →
      (e.outstanding ≡ 1 → (at end : ℕ) (es : List Entry) (next : ℕ) → reply_to e s ≡ Listed at end →
      entries_from instances_most s at end ≡ got es next →
      list_good instances_most p e.request.procedure (instances_listed p es) ≡ true → P (learned_end p e es)) →
      P (took p e s)
  unfolding took learned
  took_ind nothing doubt restore apply learn =
      pick_ind P (eqb e.outstanding 1)
      (λ w. by_reply (eqb-true e.outstanding 1 w) (reply_to e s) refl)
      (λ w. nothing (inl (eqb-false e.outstanding 1 w)))
    where
      by_verdict : e.outstanding ≡ 1 → reply_to e s ≡ Done → (v : Option ℕ) → verdict p e ≡ v → P (applied_by p e v)
      by_verdict w h none is = apply w h is
      by_verdict w h (some error) is = doubt w (fails h error is)

      by_list :
          e.outstanding ≡ 1 → (at end : ℕ) → reply_to e s ≡ Listed at end → (g : Got (List Entry)) →
          entries_from instances_most s at end ≡ g → P (learned_by p e g)
      by_list w at end h (got es next) is =
          pick_ind P (list_good instances_most p e.request.procedure (instances_listed p es))
          (λ good. learn w at end es next h is good)
          (λ poor. doubt w (bad at end h es next is poor))
      by_list w at end h wrong is = doubt w (unread at end h is)

      by_reply : e.outstanding ≡ 1 → (r : Reply) → reply_to e s ≡ r → P (took_by p e s r)
      by_reply w Dropped h = nothing (inr h)
      by_reply w Rejected h = doubt w (rejects h)
      by_reply w (Failed value) h = restore w value h
      by_reply w Done h = by_verdict w h (verdict p e) refl
      by_reply w (Listed at end) h = by_list w at end h (entries_from instances_most s at end) refl
      by_reply w Wrong h = doubt w (shapeless h)

module _ (access : List ℕ) (e : End) where
  -- what holds of every refusal, and of the end that took the component, holds of what is done
  pub takes_ind :
      (s : List ℕ) (P : Moves → Type 0) → ((refusal : Refusal) → P (not_moved e refusal)) →
      (length s ≤ component_most → (access_read access).ok ≡ true → end_good instances_most (ours access) e ≡ true →
      P (moved (took (ours access) e s))) →
      P (takes access e s)
  unfolding takes
  takes_ind s P refuse move =
      pick_ind P (ltb component_most (length s)) (λ _. refuse LongComponent) (λ fair.
      pick_ind P (not (access_read access).ok) (λ _. refuse BadProfile) (λ ok.
      pick_ind P (not (end_good instances_most (ours access) e)) (λ _. refuse BadTable) (λ good.
      move (ltb-false component_most (length s) fair) (not-false _ ok) (not-false _ good))))

  -- what holds of every refusal, of the end that gave up, and of one with nothing to give up, holds of what is done
  pub gives_ind :
      (P : Moves → Type 0) → ((refusal : Refusal) → P (not_moved e refusal)) → ((e.outstanding ≡ 1 → ⊥) → P (moved e)) →
      ((access_read access).ok ≡ true → end_good instances_most (ours access) e ≡ true → e.outstanding ≡ 1 → P (moved (doubted e))) →
      P (gives_up access e)
  unfolding gives_up gave_up
  gives_ind P refuse stay give =
      pick_ind P (not (access_read access).ok) (λ _. refuse BadProfile) (λ ok.
      pick_ind P (not (end_good instances_most (ours access) e)) (λ _. refuse BadTable) (λ good.
      pick_ind (λ n. P (moved n)) (eqb e.outstanding 1)
      (λ w. give (not-false _ ok) (not-false _ good) (eqb-true e.outstanding 1 w))
      (λ w. stay (eqb-false e.outstanding 1 w))))

  -- what holds of every refusal, and of the end that has sent, holds of what is done
  pub sends_ind :
      (operation : ℕ) (r : Request) (size : ℕ) (P : Sends → Type 0) → ((refusal : Refusal) → P (not_sent e refusal)) →
      ((access_read access).ok ≡ true → end_good instances_most (ours access) e ≡ true → (e.used ≡ used_most → ⊥) →
      sendable operation r ≡ true → P (sends_of operation r e)) →
      P (sends access operation r e size)
  unfolding sends
  sends_ind operation r size P refuse move =
      pick_ind P (ltb size output_least) (λ _. refuse ShortOutput) (λ _.
      pick_ind P (not (access_read access).ok) (λ _. refuse BadProfile) (λ ok.
      pick_ind P (not (end_good instances_most (ours access) e)) (λ _. refuse BadTable) (λ good.
      pick_ind P (eqb e.outstanding 1) (λ _. refuse Outstanding) (λ _.
      pick_ind P (eqb e.used used_most) (λ _. refuse Exhausted) (λ more.
      pick_ind P (not (sendable operation r)) (λ _. refuse BadRequest) (λ fit.
      move (not-false _ ok) (not-false _ good) (eqb-false e.used used_most more) (not-false _ fit)))))))
