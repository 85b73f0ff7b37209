-- What is outstanding after a step: a request that was sent, or none once it is closed (document 01, "The customer end"). Assumes nothing.
use Prim.Native.Nat.{ℕ, suc, ◌≤◌}
use mathlib.Core.Path.{◌≡◌, refl, ap, ◌∙◌}
use mathlib.Core.Bool.{true, not}
use mathlib.Core.List.{List}
use mathlib.Core.Logic.{◌⊎◌, inl, inr, ⊎_elim}
use native.Mathlib.Omega.{arith}
use lib.IntN.{pos}
use lib.ListN.{length}
use lib.Dec.{ltb, eqb}
use borrow.Author.Tests.{eq-eqb, eqb-false, not-false}
use Rattle.laws.specs.Got.{got}
use Rattle.laws.specs.Mark.{known, doubt, mark_no}
use Rattle.laws.proofs.Picks.{pick_ind}
use Rattle.refusals.specs.Refusal.{tells, output_least, component_most}
use Rattle.refusals.specs.declared.refusal.Refusal.{Refusal}
use Rattle.refusals.specs.declared.refusal.Refusal.TheVariants.{ShortOutput, BadProfile, BadTable, Outstanding, Exhausted, BadRequest}
use Rattle.refusals.proofs.Refusals.{refuses_not}
use Rattle.codes.specs.Codes.{interrogation}
use Rattle.profile.specs.Access.{access_read}
use Rattle.requests.specs.Sent.{sendable, request_octets}
use Rattle.requests.specs.declared.request.Request.{Request}
use Rattle.lists.specs.Entries.{instances_most, entries_from}
use Rattle.lists.specs.declared.entry.Entry.{Entry}
use Rattle.answers.specs.declared.reply.Reply.TheVariants.{Dropped, Listed}
use Rattle.instances.specs.Run.{instances_of, packed}
use Rattle.instances.specs.declared.run.Run.{Run}
use Rattle.rules.specs.Judge.{applied}
use Rattle.end.specs.End.{mark_at, used_most, closed, end_good}
use Rattle.end.specs.Sending.{marks_sent, sent, Sends, not_sent, sends}
use Rattle.end.specs.Listed.{instances_listed, list_good, replaced}
use Rattle.end.specs.Taking.{learned_by, learned, gave_up, Moves, moved, takes, gives_up}
use Rattle.end.specs.declared.end.End.{End}
use Rattle.end.proofs.Ends.{used_most_lem}
use Rattle.end.proofs.Movings.{takes_all, gives_all}
use Rattle.end.proofs.Steps.{ours, reply_to, took_ind, takes_ind}
use Rattle.end.proofs.Marks.{mark_put, closed_marks, good_rules, sent_three, took_said}

-- ---- a request that is closed

-- a closed request is not outstanding, and no identifier was used for it
pub record Closed (e n : End) : Type 0 where
  pub free : n.outstanding ≡ 0
  pub used : n.used ≡ e.used

closed_one : (mark : ℕ) (picture : Run) (e : End) → Closed e (closed mark picture e)
unfolding closed
closed_one mark picture e = record { free = refl; used = refl }

module _ (access : List ℕ) (e : End) where
  -- what arrives leaves the end as it was, or closes the request
  pub takes_closes : (s : List ℕ) → ((takes access e s).end ≡ e) ⊎ Closed e (takes access e s).end
  takes_closes s =
      let P : End → Type 0 = λ n. (n ≡ e) ⊎ Closed e n in
      takes_ind access e s (λ m. P m.end) (λ _. inl refl) (λ _ _ _.
      took_ind (ours access) e s P
      (λ _. inl refl)
      (λ _ _. inr (closed_one (mark_no doubt) e.picture e))
      (λ _ _ _. inr (closed_one e.before e.picture e))
      (λ _ _ _. inr (closed_one e.before (applied (ours access) e.operation e.request e.picture) e))
      (λ _ _ _ es _ _ _ _.
      inr (closed_one (mark_no known)
      (packed (replaced e.request.procedure (instances_listed (ours access) es) (instances_of e.picture))) e)))

  module _ (ok : (access_read access).ok ≡ true) (good : end_good instances_most (ours access) e ≡ true) where
    -- giving up leaves nothing outstanding
    pub gives_closes : ((gives_up access e).end.outstanding ≡ 1 → ⊥) × ((gives_up access e).end.used ≡ e.used)
    unfolding gave_up closed
    gives_closes =
        let P : End → Type 0 = λ n. (n.outstanding ≡ 1 → ⊥) × (n.used ≡ e.used) in
        rw (gives_all access e ok good)
        (pick_ind P (eqb e.outstanding 1)
        (λ _. (λ h. omega (arith, h), refl))
        (λ free. (eqb-false e.outstanding 1 free, refl)))

    module _ (waits : e.outstanding ≡ 1) (s : List ℕ) (fair : length s ≤ component_most) where
      -- a reply to the outstanding request closes it
      pub reply_closes : (reply_to e s ≡ Dropped → ⊥) → (takes access e s).end.outstanding ≡ 0
      reply_closes own =
          let p = ours access in
          rw (takes_all access e s fair ok good)
          (took_ind p e s (λ n. n.outstanding ≡ 0)
          (λ why. ⊎_elim (λ free. absurd (free waits)) (λ drop. absurd (own drop)) why)
          (λ _ _. (closed_one (mark_no doubt) e.picture e).free)
          (λ _ _ _. (closed_one e.before e.picture e).free)
          (λ _ _ _. (closed_one e.before (applied p e.operation e.request e.picture) e).free)
          (λ _ _ _ es _ _ _ _.
          (closed_one (mark_no known) (packed (replaced e.request.procedure (instances_listed p es) (instances_of e.picture))) e).free))

      -- a good list makes the procedure of the outstanding request known
      pub list_known :
          length e.marks ≡ 3 → (at end : ℕ) (es : List Entry) (next : ℕ) → reply_to e s ≡ Listed at end →
          entries_from instances_most s at end ≡ got es next →
          list_good instances_most (ours access) e.request.procedure (instances_listed (ours access) es) ≡ true →
          mark_at e.request.procedure (takes access e s).end.marks ≡ mark_no known
      unfolding learned
      list_known long at end es next is read list =
          let p = ours access in
          let new : Run = packed (replaced e.request.procedure (instances_listed p es) (instances_of e.picture)) in
          let took : takes access e s ≡ moved (closed (mark_no known) new e) =
          takes_all access e s fair ok good
          ∙ ap moved (took_said p e s waits (Listed at end) is ∙ (ap (learned_by p e) read ∙ rw list)) in
          let three = sent_three e.operation e.request ((good_rules instances_most p e good).fits waits).1 in
          ap (λ (m : Moves). mark_at e.request.procedure m.end.marks) took
          ∙ (ap (mark_at e.request.procedure) (closed_marks (mark_no known) new e)
          ∙ mark_put e.request.procedure (mark_no known) e.marks (omega (arith, long, three)))

-- ---- a request that is sent

-- the end before and after, and what it wrote
pub record Asks (code : ℕ) (r : Request) (e : End) (d : Sends) : Type 0 where
  pub free : e.outstanding ≡ 1 → ⊥
  pub outstanding : d.end.outstanding ≡ 1
  pub used : d.end.used ≡ suc e.used
  pub most : suc e.used ≤ used_most
  pub operation : d.end.operation ≡ code
  pub request : d.end.request ≡ r
  pub before : d.end.before ≡ mark_at r.procedure e.marks
  pub sendable : sendable code r ≡ true
  pub octets : d.octets ≡ request_octets (pos (suc e.used)) code r
  -- an interrogation leaves the marks as they were
  pub marks : code ≡ interrogation → d.end.marks ≡ e.marks

-- where sending is not refused, that is what is done
pub sends_asks :
    (access : List ℕ) (operation : ℕ) (r : Request) (e : End) (size : ℕ) →
    (sends access operation r e size).told ≡ tells tt → Asks operation r e (sends access operation r e size)
unfolding sends sent marks_sent
sends_asks access operation r e size =
    let P : Sends → Type 0 = λ d. d.told ≡ tells tt → Asks operation r e d in
    let refuse : (refusal : Refusal) → P (not_sent e refusal) = λ _ h. absurd (refuses_not _ _ h) in
    pick_ind P (ltb size output_least) (λ _. refuse ShortOutput) (λ _.
    pick_ind P (not (access_read access).ok) (λ _. refuse BadProfile) (λ _.
    pick_ind P (not (end_good instances_most (ours access) e)) (λ _. refuse BadTable) (λ good.
    pick_ind P (eqb e.outstanding 1) (λ _. refuse Outstanding) (λ free.
    pick_ind P (eqb e.used used_most) (λ _. refuse Exhausted) (λ more.
    pick_ind P (not (sendable operation r)) (λ _. refuse BadRequest) (λ fit _. record {
      free = eqb-false e.outstanding 1 free;
      outstanding = refl;
      used = refl;
      most = omega (arith, used_most_lem instances_most (ours access) e (not-false _ good), eqb-false e.used used_most more);
      operation = refl;
      request = refl;
      before = refl;
      sendable = not-false _ fit;
      octets = refl;
      marks = λ h. rw (eq-eqb operation interrogation h);
    }))))))
